-- What the follow rule knows of the records before.
-- Assumes nothing.
use Prim.Native.Nat.{ℕ, suc, ◌≤◌, ◌<◌}
use mathlib.Core.Bool.{Bool, true, false, cond, not, ◌&&◌, ◌||◌, and-true}
use mathlib.Core.List.{List, [], ◌∷◌, ◌++◌, reverse, reverse-append}
use mathlib.Core.Option.{Option, some, none}
use mathlib.Core.Path.{◌≡◌, refl, sym, ap, ◌∙◌, subst}
use native.Mathlib.Omega.{arith}
use lib.Dec.{T, leb, ltb, eqb, eqb-zero-suc, ltb→lt}
use lib.ListN.{length, take, drop, get_or}
use lib.Seq.{take-suc}
use borrow.Author.Tests.{leb-false, ltb-true, ltb-false, lt-leb, eqb-true, eqb-false, not-false, lt-ltb, le-ltb, le-leb, eq-eqb, ne_eqb}
use Rattle.record.specs.declared.Record.{Record}
use Rattle.record.specs.declared.kind.Kind.{Kind}
use Rattle.record.specs.declared.kind.Kind.TheVariants.{Message, Tombstone}
use Rattle.record.specs.Kind.{code_of}
use Rattle.book.specs.declared.shape.Row as code_row
use Rattle.book.specs.declared.follow_table.TheConstants.{FOLLOW}
use Rattle.book.specs.Lists.{All, any, find, keep}
use Rattle.book.specs.Shape.{Row, table, well_shaped}
use Rattle.book.specs.Faults.{record_of, before, is_kind, is_declaration, is_union_tombstone}
use Rattle.book.specs.Faults.{first_is, follows, under, variant_open, fields_go_here, may_follow}
use Rattle.book.specs.Follow.{is_one_of, behind, follow_of}
use Rattle.book.specs.Tables.{Standing, Placed, kind_or_0, following, has_room, open_behind, declaration_behind, variant_behind}
use Rattle.book.specs.Rows.{IsRow, is_outside_group}
use Rattle.book.proofs.Lists.{itself, either}
use Rattle.book.proofs.Cells.{kind_is, shaped, outside_is}
use Rattle.book.proofs.Filled.{tab, cell_at}
use Rattle.book.proofs.Members.{keep_mem, any_mem, of_all}
use Rattle.book.proofs.Trees.{not_so, both_so, none_passes, shaped_row, with_kind}

-- the records that the follow rule looks at: none before the first, and one more at most behind each
pub keep_append : {A : Type 0} (test : A → Bool) (l r : List A) → keep test (l ++ r) ≡ keep test l ++ keep test r
unfolding keep
keep_append test [] r = refl
keep_append {A} test (x ∷ l) r = go (test x) (keep_append test l r)
  where
    go :
        (b : Bool) → keep test (l ++ r) ≡ keep test l ++ keep test r →
        cond b (x ∷ keep test (l ++ r)) (keep test (l ++ r)) ≡ cond b (x ∷ keep test l) (keep test l) ++ keep test r
    go true e = ap (λ (t : List A). x ∷ t) e
    go false e = e

pub before_start : (rs : List Record) → before rs 0 ≡ []
unfolding before keep
before_start rs = refl

pub before_next : (rs : List Record) (n : ℕ) → n < length rs → before rs (suc n) ≡ following (record_of rs n) (before rs n)
unfolding before keep record_of
before_next rs n less =
    let r = record_of rs n in
    ap (λ l. reverse (keep looked l)) (take-suc rs n _ less)
    ∙ ap reverse (keep_append looked (take n rs) (r ∷ []))
    ∙ reverse-append (keep looked (take n rs)) (keep looked (r ∷ []))
    ∙ last (looked r)
  where
    looked : Record → Bool
    looked r = ltb 16 r.kind

    last :
        (b : Bool) → reverse (cond b (record_of rs n ∷ []) []) ++ before rs n ≡ cond b (record_of rs n ∷ before rs n) (before rs n)
    last true = refl
    last false = refl

-- a number that is one of some
pub one_of : (P : ℕ → Type 0) (l : List ℕ) (k : ℕ) → is_one_of l k ≡ true → All P l → P k
one_of P l k e p = let (x, m, t) = any_mem (eqb k) l e in subst P (sym (eqb-true k x t)) (of_all P l p x m)

-- a proof for the first of a list, and proofs for the rest
infixr 20 ◌&◌
◌&◌ : {A B : Type 0} → A → B → A × B
a & b = (a, b)

-- a proof by the rows of kinds above 16: they stand behind 24 others
abbrev tall : List Row
tall = drop 24 table

abbrev ByRow : (Record → Type 0) → Record → Row → Type 0
ByRow P r w = r.sub ≤ w.high → P (with_kind w.kind r)

by_row : (P : Record → Type 0) (r : Record) → well_shaped r ≡ true → 16 < r.kind → All (ByRow P r) tall → P r
unfolding table keep
by_row P r shaped high p =
    let (w, is) = shaped_row r shaped in
    let m = keep_mem (λ w. ltb 16 w.kind) is.in_table (lt-ltb 16 w.kind (omega (arith, is.same_kind))) in
    subst (λ k. P (with_kind k r)) (sym is.same_kind) (of_all (ByRow P r) tall p w m is.at_most)

-- the first that passes, by its kind
first_is_lem : (test : Record → Bool) (k : ℕ) (bs : List Record) → first_is test (suc k) bs ≡ eqb (kind_or_0 (find test bs)) (suc k)
unfolding first_is any
first_is_lem test k bs = go (find test bs) refl
  where
    go : (o : Option Record) → find test bs ≡ o → first_is test (suc k) bs ≡ eqb (kind_or_0 o) (suc k)
    go none e = rw (first_is, e) (sym (eqb-zero-suc k))
    go (some r) e = rw (first_is, e) (itself (eqb r.kind (suc k)))

-- the record before is one of some kinds
none_of : (l : List ℕ) → any (λ k. false) l ≡ false
unfolding any
none_of [] = refl
none_of (k ∷ l) = none_of l

follows_is :
    (ks : List ℕ) → is_one_of ks 0 ≡ false → (bs : List Record) → follows ks bs ≡ is_one_of ks (kind_or_0 (find (λ r. true) bs))
unfolding first_is find any
follows_is ks e [] = none_of ks ∙ sym e
follows_is ks e (r ∷ bs) = λ i. any (λ k. itself (eqb r.kind k) i) ks

-- a declaration may stand behind every record that the rule looks at
pub stands-behind : (r : Record) → well_shaped r ≡ true → 16 < r.kind → follow_of r.kind 20 ≡ true
unfolding follow_of behind table any
stands-behind r shaped high =
    by_row (λ r. follow_of r.kind 20 ≡ true) r shaped high
    (none_passes {P = ByRow (λ r. follow_of r.kind 20 ≡ true) r} (λ w. not (follow_of w.kind 20)) (λ w e _. not-false _ e) tall refl)

-- one Boolean that another brings with it
with_it : (a b : Bool) → (b ≡ true → a ≡ true) → a && b ≡ b
with_it true b f = refl
with_it false true f = f refl
with_it false false f = refl

-- kinds below 30 stand anywhere
pub not_item : (r : Record) (bs : List Record) → r.kind < 30 → may_follow r bs ≡ true
unfolding may_follow
not_item r bs less = rw (other 30 tt, other 34 tt, other 35 tt, other 36 tt, other 31 tt, other 32 tt, other 33 tt)
  where
    other : (k : ℕ) → T (ltb 29 k) → is_kind k r ≡ false
    other k t = ne_eqb r.kind k (λ e. omega (arith, ltb→lt 29 k t))

-- the last two lines of the follow rule
abbrev room_in : Record → List Record → Bool
room_in r bs =
    (not (is_kind 31 r || is_kind 32 r && eqb r.sub 0) || fields_go_here bs)
    && (not (is_union_tombstone r || is_kind 33 r) || under 21 bs)

-- where fields go
abbrev for_fields : Standing → Bool
for_fields p = eqb p.declaration 20 || eqb p.declaration 21 && p.variant

-- what a place tells of the records before
module _ (bs : List Record) (p : Standing) (h : Placed bs p) where
  under_is : (k : ℕ) → eqb p.declaration (suc k) ≡ under (suc k) bs
  under_is k = ap (λ d. eqb d (suc k)) h.declaration_is ∙ sym (first_is_lem is_declaration k bs)

  room_is : (r : Record) → has_room r p ≡ room_in r bs
  room_is r =
      λ i.
      (not (is_kind 31 r || is_kind 32 r && eqb r.sub 0) || (under_is 19 i || under_is 20 i && h.variant_is i))
      && (not (is_union_tombstone r || is_kind 33 r) || under_is 20 i)

  behind_is : (ks : List ℕ) → is_one_of ks 0 ≡ false → is_one_of ks p.before ≡ follows ks bs
  behind_is ks e = ap (is_one_of ks) h.before_is ∙ sym (follows_is ks e bs)

  -- where there is room, a field may stand by its kind
  in_union : eqb p.declaration 21 ≡ true → follow_of p.before 31 ≡ true
  unfolding any
  in_union e = h.fields (subst (λ d. is_one_of (20 ∷ 21 ∷ []) d ≡ true) (sym (eqb-true p.declaration 21 e)) refl)

  in_fields : for_fields p ≡ true → follow_of p.before 31 ≡ true
  unfolding any
  in_fields e = go (eqb p.declaration 20) refl e
    where
      go :
          (a : Bool) → eqb p.declaration 20 ≡ a → a || eqb p.declaration 21 && p.variant ≡ true →
          follow_of p.before 31 ≡ true
      go true t e = h.fields (subst (λ d. is_one_of (20 ∷ 21 ∷ []) d ≡ true) (sym (eqb-true p.declaration 20 t)) refl)
      go false t e = in_union (both_so _ _ e).0

  tombstone : (r : Record) → r.sub ≤ 1 → has_room (with_kind 32 r) p ≡ true → follow_of p.before 31 ≡ true
  tombstone r low e = go (eqb r.sub 0) refl (both_so (not (eqb r.sub 0) || for_fields p) _ e)
    where
      go :
          (b : Bool) → eqb r.sub 0 ≡ b →
          (not b || for_fields p ≡ true) × (not (eqb r.sub 1 || false) || eqb p.declaration 21 ≡ true) →
          follow_of p.before 31 ≡ true
      go true t (fields, _) = in_fields fields
      go false t (_, union) =
          let other = eqb-false r.sub 0 t in
          let one : r.sub ≡ 1 = omega arith in
          in_union (rw (eq-eqb r.sub 1 one) at union)

  -- what the kinds and the room tell is the follow rule: one line for each row of the items
  may_follow_lem :
      (r : Record) → well_shaped r ≡ true → 16 < r.kind → follow_of p.before r.kind && has_room r p ≡ may_follow r bs
  unfolding may_follow follow_of behind table any
  may_follow_lem r shaped high =
      let stands : follow_of p.before 20 && true ≡ true = and-true (follow_of p.before 20) ∙ h.known in
      by_row (λ r. follow_of p.before r.kind && has_room r p ≡ may_follow r bs) r shaped high
      ((λ _. stands) & (λ _. stands) & (λ _. stands) & (λ _. stands) & (λ _. stands) & (λ _. stands)
      & (λ _. simp and-true (behind_is (23 ∷ 30 ∷ []) refl))
      & (λ _. with_it _ _ (λ e. in_fields (both_so _ _ e).0) ∙ room_is (with_kind 31 r))
      & (λ few. with_it _ _ (tombstone r few) ∙ room_is (with_kind 32 r))
      & (λ _. with_it _ _ in_union ∙ room_is (with_kind 33 r))
      & (λ _. simp and-true (behind_is (20 ∷ 31 ∷ 34 ∷ 35 ∷ []) refl))
      & (λ _. simp and-true (behind_is (34 ∷ 35 ∷ []) refl))
      & (λ _. simp and-true (behind_is (34 ∷ 35 ∷ []) refl))
      & (λ _. simp and-true (behind_is (32 ∷ 36 ∷ []) refl))
      & tt)

  -- under a message or a union a field may stand behind it
  fields_behind :
      (r : Record) → well_shaped r ≡ true → 16 < r.kind → follow_of p.before r.kind ≡ true →
      is_one_of (20 ∷ 21 ∷ []) (cond (is_declaration r) r.kind p.declaration) ≡ true → follow_of r.kind 31 ≡ true
  unfolding follow_of behind table any
  fields_behind r shaped high =
      by_row
      (λ r.
      follow_of p.before r.kind ≡ true → is_one_of (20 ∷ 21 ∷ []) (cond (is_declaration r) r.kind p.declaration) ≡ true →
      follow_of r.kind 31 ≡ true)
      r shaped high
      ((λ _ f e. e) & (λ _ f e. e) & (λ _ f e. e) & (λ _ f e. e) & (λ _ f e. e) & (λ _ f e. e)
      & (λ _ f e. one_of (λ b. follow_of b 31 ≡ true → false ≡ true) (23 ∷ 30 ∷ []) p.before f (λ x. x, (λ x. x, tt)) (h.fields e))
      & (λ _ f e. refl) & (λ _ f e. refl) & (λ _ f e. refl) & (λ _ f e. refl) & (λ _ f e. refl) & (λ _ f e. refl) & (λ _ f e. refl)
      & tt)

  -- behind a record that may stand there
  placed_next :
      (r : Record) (d : ℕ) (v : Bool) → well_shaped r ≡ true → 16 < r.kind → may_follow r bs ≡ true →
      d ≡ cond (is_declaration r) r.kind p.declaration → v ≡ open_behind r p.variant →
      Placed (following r bs) (record { before = r.kind; declaration = d; variant = v })
  unfolding first_is find any
  placed_next r d v shaped high may d_is v_is =
      rw (lt-ltb 16 r.kind high)
      record {
        before_is = refl;
        declaration_is = d_is ∙ declared (is_declaration r) refl;
        variant_is = v_is ∙ opened (is_declaration r || is_kind 33 r || is_union_tombstone r) refl;
        known = stands-behind r shaped high;
        fields = λ e.
            fields_behind r shaped high (both_so _ _ (may_follow_lem r shaped high ∙ may)).0 (ap (is_one_of (20 ∷ 21 ∷ [])) (sym d_is) ∙ e);
      }
    where
      declared : (b : Bool) → is_declaration r ≡ b → cond b r.kind p.declaration ≡ kind_or_0 (find is_declaration (r ∷ bs))
      declared true t = rw (find, t) refl
      declared false t = rw (find, t) h.declaration_is

      opened :
          (b : Bool) → is_declaration r || is_kind 33 r || is_union_tombstone r ≡ b →
          cond b (is_kind 33 r) p.variant ≡ variant_open (r ∷ bs)
      opened true t = rw (first_is, find, t) (sym (itself (is_kind 33 r)))
      opened false t = rw (first_is, find, t) h.variant_is

-- kinds up to 16 are passed over, and at the start there is nothing
pub placed_same : (r : Record) (bs : List Record) (p : Standing) → r.kind ≤ 16 → Placed bs p → Placed (following r bs) p
placed_same r bs p low h = rw (le-ltb 16 r.kind low) h

pub placed_start : Placed [] (record { before = 0; declaration = 0; variant = false })
unfolding first_is find any follow_of behind
placed_start = record { before_is = refl; declaration_is = refl; variant_is = refl; known = refl; fields = λ e. e }

-- the table has no kinds from 37 up
pub no_kind : (b k : ℕ) → 37 ≤ k → false ≡ follow_of b k
unfolding follow_of behind any
no_kind b k high =
    rw (le-leb 20 k (omega arith), lt-leb k 25 (omega arith), le-leb 31 k (omega arith), lt-leb k 33 (omega arith), other 30 (omega arith), other 34 (omega arith), other 35 (omega arith), other 36 (omega arith))
    refl
  where
    other : (n : ℕ) → n < 37 → eqb k n ≡ false
    other n low = ne_eqb k n (λ e. omega arith)

behind_few : (k : ℕ) → All (λ b. b < 37) (behind k)
unfolding behind any
behind_few k =
    either P (leb 20 k && leb k 25) (few (0 ∷ 20 ∷ 21 ∷ 22 ∷ 23 ∷ 24 ∷ 25 ∷ 30 ∷ 31 ∷ 32 ∷ 33 ∷ 34 ∷ 35 ∷ 36 ∷ []) refl)
    (either P (leb 31 k && leb k 33) (few (20 ∷ 21 ∷ 31 ∷ 32 ∷ 33 ∷ 34 ∷ 35 ∷ 36 ∷ []) refl)
    (either P (eqb k 30) (few (23 ∷ 30 ∷ []) refl)
    (either P (eqb k 34) (few (20 ∷ 31 ∷ 34 ∷ 35 ∷ []) refl) (either P (eqb k 35) (few (34 ∷ 35 ∷ []) refl) (either P (eqb k 36) (few (32 ∷ 36 ∷ []) refl) tt)))))
  where
    P : List ℕ → Type 0
    P = All (λ b. b < 37)

    few : (l : List ℕ) → any (leb 37) l ≡ false → P l
    few l e = none_passes (leb 37) (λ b e. leb-false 37 b e) l e

pub no_kind_before : (b k : ℕ) → 37 ≤ b → false ≡ follow_of b k
unfolding follow_of
no_kind_before b k high =
    sym (not_so (is_one_of (behind k) b) (λ e. let low = one_of (λ b. b < 37) (behind k) b e (behind_few k) in omega arith))

-- the code's table is the rule, row by row and cell by cell
row_is : (b : ℕ) (row : List Bool) → b < 37 → row ≡ get_or FOLLOW b row → row ≡ tab (follow_of b) 0 37
unfolding any behind follow_of
row_is b row low is = is ∙ cell_at (λ b. tab (follow_of b) 0 37) row 37 b low

module _ (b : ℕ) (row : List Bool) (low : b < 37) (is : row ≡ get_or FOLLOW b row) (k : ℕ) where
  row_length : length row ≡ 37
  row_length = ap length (row_is b row low is)

  pub may_found : (may : Bool) → k < length row → may ≡ get_or row k may → may ≡ follow_of b k
  may_found may less found =
      found ∙ ap (λ l. get_or l k may) (row_is b row low is) ∙ cell_at (follow_of b) may 37 k (omega (arith, row_length))

  pub none_found : length row ≤ k → false ≡ follow_of b k
  none_found past = no_kind b k (omega (arith, row_length))

-- a kind by its number, behind a record
declaration_is : (k : Kind) (r : Record) (d : ℕ) → r.kind ≡ code_of k → declaration_behind k d ≡ cond (is_declaration r) r.kind d
declaration_is k r d is = subst (λ n. declaration_behind k d ≡ cond (is_declaration (with_kind n r)) n d) (sym is) (by k)
  where
    by : (k : Kind) → declaration_behind k d ≡ cond (is_declaration (with_kind (code_of k) r)) (code_of k) d
    by Message = refl
    by _ = refl

variant_is : (k : Kind) (r : Record) (v : Bool) → r.kind ≡ code_of k → variant_behind k r.sub v ≡ open_behind r v
variant_is k r v is = subst (λ n. variant_behind k r.sub v ≡ open_behind (with_kind n r) v) (sym is) (by k)
  where
    tombstone : (b : Bool) → not b && v ≡ cond b false v
    tombstone true = refl
    tombstone false = refl

    by : (k : Kind) → variant_behind k r.sub v ≡ open_behind (with_kind (code_of k) r) v
    by Tombstone = tombstone (eqb r.sub 1)
    by _ = refl

-- of a record whose row is found
module _ {r : Record} {w : code_row.Row} (is : IsRow r w) where
  passed_over : is_outside_group w.group ≡ false → r.kind ≤ 16
  passed_over e = ltb-false 16 r.kind (sym (outside_is is) ∙ e)

  looked_at : is_outside_group w.group ≡ true → 16 < r.kind
  looked_at e = ltb-true 16 r.kind (sym (outside_is is) ∙ e)

  -- what is passed over may stand anywhere
  pub anywhere : is_outside_group w.group ≡ false → (bs : List Record) → may_follow r bs ≡ true
  anywhere e bs = not_item r bs (omega (arith, passed_over e))

  pub by_kinds : is_outside_group w.group ≡ true → (bs : List Record) (p : Standing) → Placed bs p → follow_of p.before (code_of w.kind) && has_room r p ≡ may_follow r bs
  by_kinds e bs p h =
      ap (λ k. follow_of p.before k && has_room r p) (sym (kind_is is))
      ∙ may_follow_lem bs p h r (shaped is) (looked_at e)

  pub passed_on : is_outside_group w.group ≡ false → (bs : List Record) (p : Standing) → Placed bs p → Placed (following r bs) p
  passed_on e bs p h = placed_same r bs p (passed_over e) h

  pub gone_on :
      is_outside_group w.group ≡ true → (bs : List Record) (p : Standing) → Placed bs p → may_follow r bs ≡ true →
      Placed (following r bs) (record { before = code_of w.kind; declaration = declaration_behind w.kind p.declaration; variant = variant_behind w.kind r.sub p.variant })
  gone_on e bs p h may =
      subst (λ k. Placed (following r bs) (record { before = k; declaration = declaration_behind w.kind p.declaration; variant = variant_behind w.kind r.sub p.variant })) (kind_is is)
      (placed_next bs p h r _ _ (shaped is) (looked_at e) may
      (declaration_is w.kind r p.declaration (kind_is is)) (variant_is w.kind r p.variant (kind_is is)))
