-- What registering leaves stands for the names that a lowering begins with.
-- Assumes nothing.
use Rattle.std.proofs.Common.{◌≡◌, ℕ, zero, suc, ◌+◌, ◌-◌, ◌≤◌, ◌<◌, Bool, true, false, not, ◌&&◌, ◌||◌, List, [], ◌∷◌}
use Rattle.std.proofs.Common.{◌++◌, length, map, replicate, get_or, nat_lt, refl, sym, ap, ◌∙◌, arith, subst}
use Rattle.std.proofs.Common.{length-append, None, Option, eqb, leb, true≢false}
use Rattle.std.specs.Prelude.{if◌then◌else◌, slice_get}
use Rattle.std.proofs.lemmas.Bool.Decides.{nat_tests}
use Rattle.std.proofs.lemmas.List.{map-append}
use lib.ListN.{length-map, length-replicate}
use lib.Seq.{take-length}
use mathlib.Core.List.{Memᴰ}
use mathlib.Core.Option.{none}
use Rattle.record.specs.declared.Record.{Record}
use Rattle.record.specs.declared.type_id.TypeId.{TypeId}
use Rattle.record.proofs.Pushes.{blank-written}
use Rattle.book.specs.Lists.{All, any, keep, up_to, at, find, numbered_from}
use Rattle.book.specs.Faults.{record_of, is_kind, is_declaration}
use Rattle.book.specs.Outline.{Book, ◌!◌, numbers_of}
use Rattle.book.specs.Accepted.{IsRead}
use Rattle.book.proofs.Listed.{any-map, any_listed}
use Rattle.book.proofs.Lists.{keep-length, from-length}
use Rattle.types.specs.Lowering.{start}
use Rattle.types.specs.Resolved.{Names, entry, own_number, alias_of}
use Rattle.types.specs.Numbers.{Generic, generic_at, type_declarations, generic_aliases, generics}
use Rattle.types.specs.Numbers.{register_declarations}
use Rattle.types.specs.Resolve.{is_declared, is_ambiguous}
use Rattle.types.specs.Below.{is_entered, names_below}
use Rattle.types.specs.Tables.{Tables, alias_in, is_marked, generic_in}
use Rattle.types.specs.Registry.{nothing_known, types_numbered, registered, with_types}
use Rattle.types.specs.Begun as begins
use Rattle.types.specs.Stands.{option_of, generic_of, pair_of, is_unmet, below_types, IsAlias, Lent, Knows, Stands}
use Rattle.types.proofs.Distinct.{Distinct, entered, entered_first, numbered_low, numbered_at}
use Rattle.types.proofs.Parametered.{is_generic}
use Rattle.types.proofs.Declared.{keep_keep, distinct_names, types_apart, shared_type}
use Rattle.types.proofs.Declared.{distinct, few_declared}
use Rattle.types.proofs.Declares.{is_type, type_declares, alias_declares, mark_declares}
use Rattle.types.proofs.Registered.{Named, names, types_among, generics_among, is_mark, Below, Types, types_law}
use Rattle.types.proofs.Registered.{Generics, generics_law}

-- names below a number
over : ℕ → Record → Bool
over n r = is_entered r.kind && leb n r.a

none_over : (n : ℕ) (rs : List Record) (m : ℕ) → any (over n) rs ≡ false → over n (record_of rs m) ≡ false
unfolding any record_of over
none_over n [] m e = refl
none_over n (r ∷ rs) zero e = go (over n r) e
  where
    go : (b : Bool) → elim b [ true ↦ true | false ↦ any (over n) rs ] ≡ false → b ≡ false
    go true e = e
    go false e = refl
none_over n (r ∷ rs) (suc m) e = none_over n rs m (go (over n r) e)
  where
    go : (b : Bool) → elim b [ true ↦ true | false ↦ any (over n) rs ] ≡ false → any (over n) rs ≡ false
    go true e = cc
    go false e = e

none_of_them : (n : ℕ) (rs : List Record) → names_below n rs ≡ true → any (over n) rs ≡ false
unfolding names_below over
none_of_them n rs h = go (any (λ r. is_entered r.kind && leb n r.a) rs) h
  where
    go : (b : Bool) → not b ≡ true → b ≡ false
    go true e = cc
    go false e = refl

entered_below : (n : ℕ) (rs : List Record) → names_below n rs ≡ true → (m : ℕ) → is_entered (record_of rs m).kind ≡ true
    → (record_of rs m).a < n
unfolding over
entered_below n rs h m e = go (none_over n rs m (none_of_them n rs h))
  where
    go : is_entered (record_of rs m).kind && leb n (record_of rs m).a ≡ false → (record_of rs m).a < n
    go q = let z : leb n (record_of rs m).a ≡ false = ap (λ (b : Bool). b && leb n (record_of rs m).a) (sym e)
        ∙ q in grind (arith, nat_tests)

-- an element of a list, by either way of asking for it
got : {A B : Type 0} (f : A → B) (l : List A) (i : ℕ) → option_of f (slice_get l i) ≡ at (map f l) i
unfolding at
got f [] i = refl
got f (x ∷ l) zero = refl
got f (x ∷ l) (suc i) = got f l i

same_everywhere : {A : Type 0} (n i : ℕ) (a : A) → get_or (replicate n a) i a ≡ a
same_everywhere zero i a = refl
same_everywhere (suc n) zero a = refl
same_everywhere (suc n) (suc i) a = same_everywhere n i a

abbrev none_of : (A : Type 0) → Option A
none_of A = None

nothing_there : {A : Type 0} (b : Bool) (n i : ℕ) → (if b then get_or (replicate n (none_of A)) i (none_of A)
    else none_of A) ≡ none_of A
nothing_there true n i = same_everywhere n i None
nothing_there false n i = refl

module _ (book : Book) (read : IsRead book) (N P : ℕ) (low : names_below N book.records ≡ true)
    (held : length book.records ≤ P) where
  abbrev rs : List Record
  rs = book.records

  below : Below book N
  below n e = entered_below N rs low n (go (eqb (book ! n).kind 4) e)
    where
      go : (b : Bool) → is_declaration (book ! n) ≡ true → b || is_declaration (book ! n) ≡ true
      go true e = refl
      go false e = e

  all_below : (l : List ℕ) → ((k : ℕ) → Memᴰ k l → is_declaration (book ! k) ≡ true) → All (λ x. x < N) (names book l)
  all_below [] h = tt
  all_below (k ∷ ks) h = (below k (h k (Memᴰ.head refl)), all_below ks (λ j m. h j (Memᴰ.tail m)))

  few_generics : length (generic_aliases book) ≤ P
  unfolding generic_aliases numbers_of
  few_generics =
      omega (
        arith,
        keep-length (is_generic book) (keep (λ n. is_kind 23 (book ! n)) (up_to (length rs))),
        keep-length (λ n. is_kind 23 (book ! n)) (up_to (length rs)),
        from-length 0 (length rs),
        held,
      )

  abbrev ns : List ℕ
  ns = numbers_of is_declaration book

  types_are : types_among book ns ≡ type_declarations book
  unfolding type_declarations numbers_of
  types_are = keep_keep (λ n. is_type (book ! n)) (λ n. is_declaration (book ! n)) (λ n. type_declares (book ! n))
      (up_to (length rs))

  aliases_among : generics_among book ns ≡ generic_aliases book
  unfolding generic_aliases numbers_of
  aliases_among = ap (keep (is_generic book)) (keep_keep (λ n. is_kind 23 (book ! n)) (λ n. is_declaration (book ! n))
      (λ n e. (alias_declares (book ! n) e).0) (up_to (length rs)))

  -- messages, unions and newtypes are numbered first
  abbrev typed : Tables
  typed = with_types book ns (nothing_known N P)

  types_done : Types book (nothing_known N P) ns [] typed
  unfolding numbered_from entry find
  types_done =
      types_law book ns [] (nothing_known N P) below
      (record {
        numbers_long = length-replicate N None;
        next_is = refl;
        numbers_are = λ m. ap
            (option_of (λ (i : TypeId). i.0)) (nothing_there (nat_lt m N) N m);
      })
      (length-replicate N false)
      (subst (λ (l : List ℕ). Distinct (names book l)) (sym types_are)
      (distinct_names book read (type_declarations book) (shared_type book read) (types_apart book read)))
      (subst (λ (l : List ℕ). length (names book l) < 4294967295) (sym types_are)
      (omega (arith, length-map (type_declarations book) (λ n. (book ! n).a), few_declared book read)))

  -- and then generic aliases
  abbrev done : Tables
  done = registered book ns (nothing_known N P)

  behind_types : Generics book (types_numbered typed) ns (names book (type_declarations book)) [] done
  behind_types =
      generics_law book ns (names book (type_declarations book)) [] (types_numbered typed)
      (subst (λ (b : ℕ). Below book b) (sym bound_is) below)
      (record { numbers_long = named.numbers_long; next_is = named.next_is; numbers_are = named.numbers_are })
      (ap (λ (s : Tables). map generic_of s.generics) types_done.only)
      (subst (λ (l : List ℕ). Distinct (names book (type_declarations book) ++ names book l)) (sym aliases_among)
      (distinct book read))
      (subst (λ (l : List ℕ). length (names book (type_declarations book) ++ names book l) < 4294967295)
      (sym aliases_among)
      (omega (
        arith,
        few_declared book read,
        length-append (names book (type_declarations book))
            (names book (generic_aliases book)),
        length-map (type_declarations book) (λ n. (book ! n).a),
        length-map (generic_aliases book) (λ n. (book ! n).a),
      )))
      (subst (λ (l : List ℕ). 0 + length l ≤ typed.room) (sym aliases_among)
      (omega (arith, few_generics, room_is)))
    where
      bound_is : typed.bound ≡ N
      bound_is = ap (λ (s : Tables). s.bound) types_done.only

      room_is : typed.room ≡ P
      room_is = ap (λ (s : Tables). s.room) types_done.only

      named : Named typed (names book (type_declarations book))
      named = subst (λ (l : List ℕ). Named typed (names book l)) types_are types_done.named

  abbrev all_names : List ℕ
  all_names = names book (type_declarations book) ++ names book (generic_aliases book)

  names_are : names book (type_declarations book ++ generic_aliases book) ≡ all_names
  names_are = map-append (λ n. (book ! n).a) (type_declarations book) (generic_aliases book)

  named : Named done all_names
  named = subst (λ (l : List ℕ). Named done (names book
      (type_declarations book) ++ names book l)) aliases_among behind_types.named

  types_many : done.types ≡ length (type_declarations book)
  types_many =
      ap (λ (s : Tables). s.types) behind_types.only ∙ types_done.named.next_is
      ∙ ap (λ (l : List ℕ). length (names book l)) types_are ∙ length-map (type_declarations book) (λ n. (book ! n).a)

  bound_is : done.bound ≡ N
  bound_is = ap (λ (s : Tables). s.bound) behind_types.only ∙ ap (λ (s : Tables). s.bound) types_done.only

  room_is : done.room ≡ P
  room_is = ap (λ (s : Tables). s.room) behind_types.only ∙ ap (λ (s : Tables). s.room) types_done.only

  types_listed : keep (λ k. is_type (record_of rs k)) (up_to (length rs)) ≡ type_declarations book
  unfolding type_declarations numbers_of
  types_listed = refl

  declared : (m : ℕ) → is_declared book m ≡ below_types done.types (entry m (entered 0 all_names))
  declared m =
      let l : List ℕ = type_declarations book in
      ap (any (λ r. is_type r && eqb r.a m)) (sym (take-length rs))
      ∙ any_listed is_type rs (λ r. eqb r.a m) (length rs) (omega arith)
      ∙ ap (any (λ k. eqb (book ! k).a m)) types_listed
      ∙ sym (any-map (λ x. eqb x m) (λ k. (book ! k).a) l)
      ∙ sym (entered_first m 0 (names book l) (names book (generic_aliases book)))
      ∙ ap (λ (i : ℕ). below_types i (entry m (entered 0 all_names)))
      (let e : 0 + length (names book l) ≡ length l = omega (arith, length-map l (λ n. (book ! n).a)) in e
      ∙ sym types_many)

  marked : (m : ℕ) → is_marked done m ≡ is_ambiguous book m
  unfolding any numbers_of keep
  marked m =
      ap (λ (s : Tables). is_marked s m) behind_types.only ∙ types_done.marks m
      ∙ ap (λ (b : Bool). b || any (is_mark book m) ns) (unmarked (nat_lt m N))
      ∙ sym (any_listed is_declaration rs (λ r. is_kind 25 r && eqb r.a m) (length rs) (omega arith))
      ∙ ap (any (λ r. is_declaration r && (is_kind 25 r && eqb r.a m))) (take-length rs)
      ∙ (λ i. any (λ r. alone r i) rs)
    where
      unmarked : (b : Bool) → b && get_or (replicate N false) m false ≡ false
      unmarked true = same_everywhere N m false
      unmarked false = refl

      alone : (r : Record) → is_declaration r && (is_kind 25 r && eqb r.a m) ≡ is_kind 25 r && eqb r.a m
      alone r = by (is_kind 25 r) (is_declaration r) (mark_declares r)
        where
          by : (a b : Bool) → (a ≡ true → b ≡ true) → b && (a && eqb r.a m) ≡ a && eqb r.a m
          by true true h = refl
          by true false h = absurd (true≢false (sym (h refl)))
          by false true h = refl
          by false false h = refl

  generic : (m : ℕ) → option_of generic_of (generic_in done m) ≡ entry m (generics book)
  unfolding generics
  generic m = by (nat_lt m done.types) refl
    where
      l : List ℕ
      l = type_declarations book

      gs : List Generic
      gs = map (generic_at book) (generic_aliases book)

      listed : map generic_of done.generics ≡ gs
      listed = behind_types.listed ∙ ap (λ (l : List ℕ). map (generic_at book) l) aliases_among

      found : (i : ℕ) → option_of generic_of (slice_get done.generics i) ≡ at gs i
      found i = got generic_of done.generics i ∙ ap (λ (l : List Generic). at l i) listed

      by : (b : Bool) → nat_lt m done.types ≡ b
          → option_of generic_of (if b then None else slice_get done.generics (m - done.types))
          ≡ entry m (numbered_from (length l) gs)
      by true e =
          let less : m < length l = let q : m < done.types = grind (arith, nat_tests) in omega (arith, types_many) in
          sym (numbered_low m (length l) gs less)
      by false e =
          let more : length l + (m - done.types) ≡ m = let q : done.types ≤ m = grind (arith, nat_tests)
          in omega (arith, types_many) in
          found (m - done.types) ∙ sym (numbered_at (length l) (m - done.types) gs)
          ∙ ap (λ (i : ℕ). entry i (numbered_from (length l) gs)) more

  -- the tables stand for the numbers of the book's declarations, no result being there
  pub begun : Knows book done (register_declarations book) []
  unfolding register_declarations own_number alias_of entry find
  begun =
      record {
        numbers_long = named.numbers_long;
        aliases_long = ap (λ (s : Tables). length s.aliases) behind_types.only
            ∙ ap (λ (s : Tables). length s.aliases) types_done.only ∙ length-replicate N None ∙ sym bound_is;
        next_is = named.next_is ∙ ap (λ (l : List ℕ). length l) (sym names_are);
        next_few = omega (
          arith,
          few_declared book read,
          length-map (type_declarations book ++ generic_aliases book) (λ n. (book ! n).a),
          length-append (type_declarations book) (generic_aliases book),
        );
        types_few = omega (
          arith,
          types_many,
          length-map (type_declarations book ++ generic_aliases book)
              (λ n. (book ! n).a),
          length-append (type_declarations book) (generic_aliases book),
        );
        numbers_are = λ m. named.numbers_are m ∙ ap (λ (l : List ℕ). entry m (entered 0 l)) (sym names_are);
        declared_are = λ m. declared m ∙ ap (λ (l : List ℕ). below_types done.types (entry m (entered 0 l)))
            (sym names_are);
        ambiguous_are = marked;
        generics_are = generic;
        pairs_room = omega (
          arith,
          ap (λ (s : Tables). length s.pairs) behind_types.only,
          ap (λ (s : Tables). length s.pairs) types_done.only,
          keep-length (is_unmet []) rs,
          room_is,
          held,
        );
        pairs_are = ap (λ (s : Tables). map pair_of s.pairs) behind_types.only
            ∙ ap (λ (s : Tables). map pair_of s.pairs) types_done.only;
        aliases_are = λ n. subst (λ (o : Option _). IsAlias [] o none)
            (sym (ap (λ (s : Tables). alias_in s n) behind_types.only
            ∙ ap (λ (s : Tables). alias_in s n) types_done.only ∙ nothing_there (nat_lt n N) N n)) tt;
        uses_below = λ m e. subst (λ (b : ℕ). (book ! m).a < b) (sym bound_is)
            (entered_below N rs low m (ap (λ (b : Bool). b || is_declaration (book ! m)) e));
        alias_names_below = λ m e. subst (λ (b : ℕ). (book ! m).a < b) (sym bound_is)
            (below m (alias_declares (book ! m) e).0);
      }

-- nothing is written, and nothing is being lowered: so a lowering begins
pub stands_first :
    (lent : Lent) (book : Book) (t : Tables) (k : Names) → Knows book t k [] →
    Stands lent book (begins.begun book t lent.results lent.diagnostics) k start
stands_first lent book t k h = record {
  book_is = refl;
  place_is = refl;
  results_are = blank-written lent.results 2048;
  diagnostics_are = blank-written lent.diagnostics 256;
  results_fit = omega arith;
  diagnostics_fit = omega arith;
  knows = h;
}
