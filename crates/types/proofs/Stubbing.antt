-- Stubs: a number more for a name, and for a qualified name.
-- Assumes nothing.
use Rattle.std.proofs.Common.{◌≡◌, ℕ, suc, ◌+◌, ◌≤◌, ◌<◌, min, Bool, true, false, List, [], ◌∷◌, ◌++◌, length}
use Rattle.std.proofs.Common.{nat_lt, refl, sym, ap, ◌∙◌, arith, subst, length-append, Some, None, Option}
use Rattle.std.proofs.Common.{get_or-set_same, get_or-set_other, length-set, ◌⊎◌, inl, inr, eqb}
use Rattle.std.proofs.lemmas.Bool.{cases_eq}
use Rattle.std.proofs.lemmas.Bool.Decides.{nat_tests}
use Rattle.std.proofs.lemmas.List.{map-append}
use mathlib.Core.Option.{Option as Maybe, some, none, map, or_else}
use Rattle.record.specs.declared.Record.{Record}
use Rattle.record.specs.declared.type_id.TypeId.{TypeId}
use Rattle.book.specs.Lists.{find, keep}
use Rattle.book.specs.Outline.{Book}
use Rattle.types.specs.declared.names.Pair.{Pair}
use Rattle.types.specs.Resolved.{Names, own_number, alias_of, pair_number, entry, with_stub, with_pair}
use Rattle.types.specs.Resolve.{is_declared}
use Rattle.types.specs.Tables.{Tables, type_id, number_in, stubbed, paired}
use Rattle.types.specs.Stands.{option_of, Knows, below_types, pair_of, is_unmet}
use Rattle.types.proofs.PairsUnmet.{IsPair, one_unmet}

-- one entry more
either : {A : Type 0} (b : Bool) (x : ℕ × A) (o q r : Maybe (ℕ × A))
    → map (λ (x : ℕ × A). x.1) o ≡ or_else (map (λ (x : ℕ × A). x.1) q) (map (λ (x : ℕ × A). x.1) r)
    → map (λ (x : ℕ × A). x.1) (elim b [ true ↦ some x | false ↦ o ])
    ≡ or_else (map (λ (x : ℕ × A). x.1) (elim b [ true ↦ some x | false ↦ q ])) (map (λ (x : ℕ × A). x.1) r)
unfolding or_else
either true x o q r e = refl
either false x o q r e = e

pub entry_append : {A : Type 0} (m : ℕ) (xs : List (ℕ × A)) (y : ℕ × A)
    → entry m (xs ++ y ∷ []) ≡ or_else (entry m xs) (entry m (y ∷ []))
unfolding entry find or_else
entry_append m [] y = refl
entry_append m (x ∷ xs) y = either (eqb x.0 m) x (find (λ x. eqb x.0 m) (xs ++ y ∷ [])) (find (λ x. eqb x.0 m) xs)
    (find (λ x. eqb x.0 m) (y ∷ [])) (entry_append m xs y)

pub entry_same : {A : Type 0} (m : ℕ) (v : A) → entry m ((m, v) ∷ []) ≡ some v
unfolding entry find
entry_same m v = let e : eqb m m ≡ true = grind (arith, nat_tests) in rw (entry, find, e) refl

pub entry_other : {A : Type 0} (m n : ℕ) (v : A) → (m ≡ n → ⊥) → entry m ((n, v) ∷ []) ≡ none
unfolding entry find
entry_other m n v h = let e : eqb n m ≡ false = grind (arith, nat_tests) in rw (entry, find, e) refl

or_none : {A : Type 0} (o : Maybe A) → or_else o none ≡ o
unfolding or_else
or_none none = refl
or_none (some x) = refl

-- a name that had no entry has this one, and others have what they had
pub entry_new : {A : Type 0} (n : ℕ) (xs : List (ℕ × A)) (v : A) → entry n xs ≡ none
    → entry n (xs ++ (n, v) ∷ []) ≡ some v
unfolding or_else
entry_new n xs v free = entry_append n xs (n, v) ∙ ap (λ (o : Maybe _). or_else o (entry n ((n, v) ∷ []))) free
    ∙ entry_same n v

pub entry_old : {A : Type 0} (m n : ℕ) (xs : List (ℕ × A)) (v : A) → (m ≡ n → ⊥)
    → entry m (xs ++ (n, v) ∷ []) ≡ entry m xs
entry_old m n xs v e = entry_append m xs (n, v) ∙ ap (or_else (entry m xs)) (entry_other m n v e) ∙ or_none (entry m xs)

module _ (book : Book) (c : Tables) (k : Names) (rs : List Record) (r : Record) (h : Knows book c k rs)
    (few : length rs + 1 ≤ 2048)
    (after : Knows book c k (rs ++ r ∷ [])) where
  same_next : min (c.next + 1) 4294967295 ≡ suc k.next
  same_next = omega (arith, h.next_is, h.next_few)

  few_next : suc k.next ≤ 1344 + length (rs ++ r ∷ [])
  few_next = omega (arith, h.next_few, length-append rs (r ∷ []))

  module _ (n : ℕ) (free : own_number k n ≡ none) (inside : n < c.bound) where
    is_inside : nat_lt n c.bound ≡ true
    is_inside = grind (arith, nat_tests)

    long : n < length c.numbers
    long = omega (arith, h.numbers_long)

    abbrev own : Option TypeId → Maybe ℕ
    own o = option_of (λ (i : TypeId). i.0) o

    at_name : own (number_in (stubbed c n) n) ≡ some k.next
    at_name = rw (is_inside, get_or-set_same c.numbers n (Some (type_id c.next)) None long, h.next_is) refl

    listed : entry n (k.numbers ++ (n, k.next) ∷ []) ≡ some k.next
    unfolding own_number
    listed = entry_new n k.numbers k.next free

    elsewhere : (m : ℕ) → (m ≡ n → ⊥) → entry m (k.numbers ++ (n, k.next) ∷ []) ≡ own_number k m
    unfolding own_number
    elsewhere m e = entry_old m n k.numbers k.next e

    number : (m : ℕ) → (m ≡ n) ⊎ (m ≡ n → ⊥) → own (number_in (stubbed c n) m) ≡ entry m (k.numbers ++ (n, k.next) ∷ [])
    number m (inl e) = subst (λ (x : ℕ). own (number_in (stubbed c n) x) ≡ entry x (k.numbers ++ (n, k.next) ∷ []))
        (sym e) (at_name ∙ sym listed)
    number m (inr e) = rw (is_inside, get_or-set_other c.numbers n m (Some (type_id c.next)) None e)
        (h.numbers_are m ∙ sym (elsewhere m e))

    not_below : nat_lt k.next c.types ≡ false
    not_below = let le : c.types ≤ k.next = h.types_few in grind (arith, nat_tests)

    declared : (m : ℕ) → (m ≡ n) ⊎ (m ≡ n → ⊥) → is_declared book m
        ≡ below_types c.types (entry m (k.numbers ++ (n, k.next) ∷ []))
    declared m (inl e) =
        subst (λ (x : ℕ). is_declared book x ≡ below_types c.types (entry x (k.numbers ++ (n, k.next) ∷ []))) (sym e)
        (h.declared_are n ∙ ap (below_types c.types) free ∙ sym (ap (below_types c.types) listed ∙ not_below))
    declared m (inr e) = h.declared_are m ∙ ap (below_types c.types) (sym (elsewhere m e))

    pub knows_stub : Knows book (stubbed c n) (with_stub n k) (rs ++ r ∷ [])
    unfolding with_stub own_number alias_of
    knows_stub =
        record {
          numbers_long = rw (is_inside, length-set c.numbers n (Some (type_id c.next))) h.numbers_long;
          aliases_long = h.aliases_long;
          next_is = same_next;
          next_few = few_next;
          types_few = omega (arith, h.types_few);
          numbers_are = λ m. number m (cases_eq m n);
          declared_are = λ m. declared m (cases_eq m n);
          ambiguous_are = h.ambiguous_are;
          generics_are = h.generics_are;
          pairs_room = h.pairs_room;
          pairs_are = h.pairs_are;
          aliases_are = after.aliases_are;
          uses_below = h.uses_below;
          alias_names_below = h.alias_names_below;
        }

  module _ (m space name : ℕ) (is : IsPair book m space name) (free : pair_number k space name ≡ none) where
    abbrev among : List ((ℕ × ℕ) × ℕ)
    among = k.pairs ++ ((space, name), k.next) ∷ []

    fewer_unmet : suc (length (keep (is_unmet among) book.records)) ≤ length (keep (is_unmet k.pairs) book.records)
    fewer_unmet = one_unmet book k m space name k.next is free

    small : length c.pairs < c.room
    small = omega (arith, h.pairs_room, fewer_unmet)

    is_room : nat_lt (length c.pairs) c.room ≡ true
    is_room = let less : length c.pairs < c.room = small in grind (arith, nat_tests)

    pub knows_pair : Knows book (paired c space name) (with_pair space name k) (rs ++ r ∷ [])
    unfolding with_pair own_number alias_of
    knows_pair =
        let p : Pair = record { space = space; name = name; number = type_id c.next } in
        record {
          numbers_long = h.numbers_long;
          aliases_long = h.aliases_long;
          next_is = same_next;
          next_few = few_next;
          types_few = omega (arith, h.types_few);
          numbers_are = h.numbers_are;
          declared_are = h.declared_are;
          ambiguous_are = h.ambiguous_are;
          generics_are = h.generics_are;
          pairs_room = rw is_room (omega (arith, h.pairs_room, fewer_unmet, length-append c.pairs (p ∷ [])));
          pairs_are =
              rw (is_room, map-append pair_of c.pairs (p ∷ []))
              (ap (λ (l : List ((ℕ × ℕ) × ℕ)). l ++ ((space, name), c.next) ∷ []) h.pairs_are
              ∙ ap (λ (i : ℕ). k.pairs ++ ((space, name), i) ∷ []) h.next_is);
          aliases_are = after.aliases_are;
          uses_below = h.uses_below;
          alias_names_below = h.alias_names_below;
        }
