-- The declarations of types and aliases in a book that is read: they are few, and no two have one name.
-- Assumes nothing.
use Rattle.std.proofs.Common.{◌≡◌, ℕ, zero, suc, ◌+◌, ◌≤◌, ◌<◌, Bool, true, false, not, ◌&&◌, ◌||◌, cond, List, [], ◌∷◌}
use Rattle.std.proofs.Common.{◌++◌, length, refl, sym, ap, ◌∙◌, arith, subst, eqb, leb, eqb-true, eq-eqb, true≢false}
use Rattle.std.proofs.Common.{◌⊎◌, inl, inr}
use Rattle.std.proofs.lemmas.Bool.Decides.{nat_tests}
use Rattle.std.proofs.lemmas.List.{map-append}
use mathlib.Core.List.Memᴰ
use mathlib.Core.List.{Memᴰ}
use Rattle.record.specs.declared.Record.{Record}
use Rattle.book.specs.Lists.{any, keep, from, up_to}
use Rattle.book.specs.Faults.{record_of, is_kind, is_declaration, name_set}
use Rattle.book.specs.Shape.{type, name, unused, row, table, name_in}
use Rattle.book.specs.Outline.{Book, ◌!◌, numbers_of}
use Rattle.book.specs.Accepted.{IsRead}
use Rattle.book.proofs.Lists.{any_append, keep-length, from-length}
use Rattle.book.proofs.Members.{mem_keep, any_mem, mem_any, mem_up_to}
use Rattle.book.proofs.Listed.{any-map, keep_apart}
use Rattle.book.proofs.Trees.{not_so}
use Rattle.book.proofs.Declares.{shared_set, declared_once, shaped_name}
use Rattle.book.proofs.Soles.{names_by_row}
use Rattle.types.specs.Numbers.{type_declarations, generic_aliases, plain_aliases}
use Rattle.types.specs.Below.{is_entered, names_below}
use Rattle.types.proofs.Distinct.{is_in, Distinct, distinct_kept}
use Rattle.types.proofs.Parametered.{is_generic}
use Rattle.types.proofs.Declares.{is_type, alias_declares}
use Rattle.types.proofs.Registered.{names}

-- a test that asks for more keeps what it kept
pub keep_keep : (p q : ℕ → Bool) → ((n : ℕ) → p n ≡ true → q n ≡ true) → (l : List ℕ) → keep p (keep q l) ≡ keep p l
unfolding keep
keep_keep p q h [] = refl
keep_keep p q h (n ∷ l) = go (q n) (p n) refl (h n) (keep_keep p q h l)
  where
    go : (b a : Bool) → p n ≡ a → (p n ≡ true → b ≡ true) → keep p (keep q l) ≡ keep p l
        → keep p (cond b (n ∷ keep q l) (keep q l)) ≡ cond (p n) (n ∷ keep p l) (keep p l)
    go true a e f k = ap (λ (m : List ℕ). cond (p n) (n ∷ m) m) k
    go false true e f k = absurd (true≢false (sym (f e)))
    go false false e f k = k ∙ ap (λ (v : Bool). cond v (n ∷ keep p l) (keep p l)) (sym e)

-- numbers from a on are distinct
later : (k a m : ℕ) → k < a → is_in k (from a m) ≡ false
unfolding any from
later k a zero h = refl
later k a (suc m) h =
    let other : eqb a k ≡ false = grind (arith, nat_tests) in
    ap (λ (b : Bool). elim b [ true ↦ true | false ↦ is_in k (from (suc a) m) ]) other ∙ later k (suc a) m (omega arith)

distinct_from : (a m : ℕ) → Distinct (from a m)
unfolding from
distinct_from a zero = tt
distinct_from a (suc m) = (later a (suc a) m (omega arith), distinct_from (suc a) m)

pub distinct_both : (xs ys : List ℕ) → Distinct xs → Distinct ys → ((k : ℕ) → Memᴰ k xs → is_in k ys ≡ false)
    → Distinct (xs ++ ys)
distinct_both [] ys d e h = e
distinct_both (x ∷ xs) ys d e h = (
  any_append (λ y. eqb y x) xs ys ∙ ap (λ (b : Bool). b || is_in x ys) d.0 ∙ h x (Memᴰ.head refl),
  distinct_both xs ys d.1 e (λ k m. h k (Memᴰ.tail m)),
)

pub distinct_behind : (xs ys : List ℕ) → Distinct (xs ++ ys) → Distinct ys
distinct_behind [] ys d = d
distinct_behind (x ∷ xs) ys d = distinct_behind xs ys d.1

-- no element passes
none_passes : (test : Record → Bool) (rs : List Record) → ((m : ℕ) → m < length rs → test (record_of rs m) ≡ false)
    → any test rs ≡ false
unfolding any record_of
none_passes test [] h = refl
none_passes test (r ∷ rs) h =
    ap (λ (b : Bool). elim b [ true ↦ true | false ↦ any test rs ]) (h 0 (omega arith))
    ∙ none_passes test rs (λ m less. h (suc m) (omega arith))

-- what declares a name is in one of the sets of names
in_a_set : (r : Record) → is_declaration r ≡ true → 0 < name_set r
unfolding name_set
in_a_set r e = go (eqb r.kind 24) (eqb r.kind 25) refl refl
  where
    low : 20 ≤ r.kind
    low = grind (arith, nat_tests)

    high : r.kind ≤ 25
    high = grind (arith, nat_tests)

    go : (a b : Bool) → eqb r.kind 24 ≡ a → eqb r.kind 25 ≡ b → 0 < name_set r
    go true b p q = let kind : r.kind ≡ 24 = eqb-true _ 24 p in let set_is : name_set r ≡ 2 = rw (kind, name_set) refl
        in omega arith
    go false true p q = let kind : r.kind ≡ 25 = eqb-true _ 25 q in let set_is : name_set r
        ≡ 3 = rw (kind, name_set) refl in omega arith
    go false false p q =
        let a : r.kind ≡ 24 → ⊥ = grind (arith, nat_tests) in
        let b : r.kind ≡ 25 → ⊥ = grind (arith, nat_tests) in
        let top : r.kind ≤ 25 = high in omega (arith, shared_set r low (omega arith))

module _ (book : Book) (read : IsRead book) where
  abbrev pub rs : List Record
  rs = book.records

  -- declarations of types and aliases have names of one set
  pub record Shared (k : ℕ) : Type 0 where
    pub there : k < length rs
    pub low : 20 ≤ (record_of rs k).kind
    pub high : (record_of rs k).kind ≤ 23

  pub distinct_names : (l : List ℕ) → ((k : ℕ) → Memᴰ k l → Shared k) → Distinct l → Distinct (names book l)
  distinct_names [] h d = tt
  distinct_names (k ∷ ks) h d = (not_so _ again, distinct_names ks (λ j m. h j (Memᴰ.tail m)) d.1)
    where
      again : is_in (book ! k).a (names book ks) ≡ true → ⊥
      again e =
          let (j, m, same) = any_mem (λ j. eqb (book ! j).a (book ! k).a) ks
          (sym (any-map (λ x. eqb x (book ! k).a) (λ j. (book ! j).a) ks) ∙ e) in
          let a : Shared j = h j (Memᴰ.tail m) in
          let b : Shared k = h k (Memᴰ.head refl) in
          let set_j = shared_set (record_of rs j) a.low a.high in
          let set_k = shared_set (record_of rs k) b.low b.high in
          let one : j ≡ k = declared_once rs read.well_formed j k a.there b.there (omega (arith, set_k))
          (sym set_j ∙ set_k) (eqb-true _ _ same) in
          true≢false (sym (mem_any (λ x. eqb x k) m (eq-eqb j k one)) ∙ d.0)

  type_kinds : (k : ℕ) → is_type (book ! k) ≡ true → (20 ≤ (record_of rs k).kind) × ((record_of rs k).kind ≤ 23)
  unfolding any
  type_kinds k e = go (eqb (book ! k).kind 20) (eqb (book ! k).kind 21) (eqb (book ! k).kind 22) refl refl refl e
    where
      go : (a b c : Bool) → eqb (book ! k).kind 20 ≡ a → eqb (book ! k).kind 21 ≡ b → eqb (book ! k).kind 22 ≡ c
          → elim a [ true ↦ true | false ↦ elim b [ true ↦ true | false ↦ elim c [ true ↦ true | false ↦ false ] ] ]
          ≡ true
          → (20 ≤ (record_of rs k).kind) × ((record_of rs k).kind ≤ 23)
      go true b c p q r e = (omega (arith, eqb-true _ 20 p), omega (arith, eqb-true _ 20 p))
      go false true c p q r e = (omega (arith, eqb-true _ 21 q), omega (arith, eqb-true _ 21 q))
      go false false true p q r e = (omega (arith, eqb-true _ 22 r), omega (arith, eqb-true _ 22 r))
      go false false false p q r e = cc

  pub shared_type : (k : ℕ) → Memᴰ k (type_declarations book) → Shared k
  unfolding type_declarations numbers_of
  shared_type k m =
      let (inside, passes) = mem_keep (λ n. is_type (book ! n)) (up_to (length rs)) m in
      let (low, high) = type_kinds k passes in
      record { there = mem_up_to (length rs) inside; low = low; high = high }

  pub generic_kind : (k : ℕ) → Memᴰ k (generic_aliases book) → (k < length rs) × (is_kind 23 (book ! k) ≡ true)
  unfolding generic_aliases numbers_of
  generic_kind k m =
      let (inside, passes) = mem_keep (λ n. is_kind 23 (book ! n)) (up_to (length rs))
      (mem_keep (is_generic book) (keep (λ n. is_kind 23 (book ! n)) (up_to (length rs))) m).0 in
      (mem_up_to (length rs) inside, passes)

  shared_alias : (k : ℕ) → Memᴰ k (generic_aliases book) → Shared k
  shared_alias k m =
      let (inside, passes) = generic_kind k m in
      let kind : (record_of rs k).kind ≡ 23 = eqb-true _ 23 passes in
      record { there = inside; low = omega arith; high = omega arith }

  pub types_apart : Distinct (type_declarations book)
  unfolding type_declarations numbers_of
  types_apart = distinct_kept (λ n. is_type (book ! n)) (up_to (length rs)) (distinct_from 0 (length rs))

  distinct_numbers : Distinct (type_declarations book ++ generic_aliases book)
  unfolding type_declarations generic_aliases numbers_of
  distinct_numbers =
      distinct_both (type_declarations book) (generic_aliases book) types_apart generics_apart
      (λ k m. not_so _ (again k m))
    where
      generics_apart : Distinct (generic_aliases book)
      generics_apart = distinct_kept (is_generic book) _
          (distinct_kept (λ n. is_kind 23 (book ! n)) (up_to (length rs)) (distinct_from 0 (length rs)))

      passes : (k : ℕ) → Memᴰ k (type_declarations book) → is_type (book ! k) ≡ true
      passes k m = (mem_keep (λ n. is_type (book ! n)) (up_to (length rs)) m).1

      again : (k : ℕ) → Memᴰ k (type_declarations book) → is_in k (generic_aliases book) ≡ true → ⊥
      again k m e =
          let (j, n, same) = any_mem (λ x. eqb x k) (generic_aliases book) e in
          let alias : is_kind 23 (book ! k) ≡ true = subst (λ (i : ℕ). is_kind 23 (book ! i) ≡ true) (eqb-true j k same)
          (generic_kind j n).1 in
          true≢false (sym (passes k m) ∙ (alias_declares (book ! k) alias).1)

  pub distinct : Distinct (names book (type_declarations book) ++ names book (generic_aliases book))
  distinct =
      subst Distinct (map-append (λ n. (book ! n).a) (type_declarations book) (generic_aliases book))
      (distinct_names (type_declarations book ++ generic_aliases book) shared distinct_numbers)
    where
      shared : (k : ℕ) → Memᴰ k (type_declarations book ++ generic_aliases book) → Shared k
      shared k m = by (Memᴰ.append_cases (type_declarations book) m)
        where
          by : Memᴰ k (type_declarations book) ⊎ Memᴰ k (generic_aliases book) → Shared k
          by (inl m) = shared_type k m
          by (inr m) = shared_alias k m

  pub few_declared : length (type_declarations book) + length (generic_aliases book) ≤ 1344
  unfolding type_declarations generic_aliases numbers_of
  few_declared =
      let apart : (k : ℕ) → is_type (book ! k) ≡ true → is_kind 23 (book ! k) ≡ false = λ k e.
      not_so _ (λ f. true≢false (sym e ∙ (alias_declares (book ! k) f).1)) in
      let both = keep_apart (λ k. is_type (book ! k)) (λ k. is_kind 23 (book ! k)) apart (up_to (length rs)) in
      let fewer = keep-length (is_generic book) (keep (λ k. is_kind 23 (book ! k)) (up_to (length rs))) in
      omega (arith, both, fewer, from-length 0 (length rs), read.few_records)

  -- plain aliases have names of their own too
  shared_plain : (k : ℕ) → Memᴰ k (plain_aliases book) → Shared k
  unfolding plain_aliases numbers_of
  shared_plain k m =
      let (inside, passes) = mem_keep (λ n. is_kind 23 (book ! n)) (up_to (length rs))
      (mem_keep (λ n. not (is_generic book n)) (keep (λ n. is_kind 23 (book ! n)) (up_to (length rs))) m).0 in
      let kind : (record_of rs k).kind ≡ 23 = eqb-true _ 23 passes in
      record { there = mem_up_to (length rs) inside; low = omega arith; high = omega arith }

  plain_apart : Distinct (plain_aliases book)
  unfolding plain_aliases numbers_of
  plain_apart = distinct_kept (λ n. not (is_generic book n)) _
      (distinct_kept (λ n. is_kind 23 (book ! n)) (up_to (length rs)) (distinct_from 0 (length rs)))

  pub plain_distinct : Distinct (names book (plain_aliases book))
  plain_distinct = distinct_names (plain_aliases book) shared_plain plain_apart

  -- all names that the tables by name have an entry for are below 4,096
  pub names_fit : names_below 4096 rs ≡ true
  unfolding names_below keep table name_in
  names_fit = ap not (none_passes (λ r. is_entered r.kind && leb 4096 r.a) rs each)
    where
      uses : (m : ℕ) → m < length rs → (record_of rs m).kind ≡ 4 → (record_of rs m).a < 4096
      uses m less kind = (names_by_row rs read.well_formed m less
          (row type 4 0 0 name unused unused unused) kind refl).0

      declares : (m : ℕ) → m < length rs → is_declaration (record_of rs m) ≡ true → (record_of rs m).a < 4096
      declares m less dec = shaped_name (record_of rs m) (read.well_formed m less).shaped
          (in_a_set (record_of rs m) dec)

      each : (m : ℕ) → m < length rs → is_entered (record_of rs m).kind && leb 4096 (record_of rs m).a ≡ false
      each m less = go (eqb (record_of rs m).kind 4) (is_declaration (record_of rs m)) refl refl
        where
          under : (record_of rs m).a < 4096 → leb 4096 (record_of rs m).a ≡ false
          under h = grind (arith, nat_tests)

          go : (a b : Bool) → eqb (record_of rs m).kind 4 ≡ a → is_declaration (record_of rs m) ≡ b
              → (a || b) && leb 4096 (record_of rs m).a ≡ false
          go true b e f = under (uses m less (eqb-true _ 4 e))
          go false true e f = under (declares m less f)
          go false false e f = refl
