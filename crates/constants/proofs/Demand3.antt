-- What is stored of accepted books, wherever it stands; and that constants keep their values in every evaluation over
-- arrays: from the arrays to the theory of constants, and back.
-- Assumes nothing.
use Prim.Native.Nat.{ℕ, zero, suc, ◌<◌}
use mathlib.Core.Bool.{true, false, false≢true}
use mathlib.Core.List.Memᴰ
use mathlib.Core.List.{List, [], ◌∷◌, ◌++◌, map, Memᴰ}
use mathlib.Core.Logic.Iff
use mathlib.Core.Logic.{◌↔◌, ◌⊎◌}
use mathlib.Core.Option.{Option, some, none}
use mathlib.Core.Path.{◌≡◌, refl, sym, ◌∙◌, ap, subst}
use native.Mathlib.Omega.{arith}
use lib.IntN.{ℤ}
use lib.ListN.{length, get_or}
use Rattle.record.specs.Bytes.{AreBytes}
use Rattle.arith.specs.Word.{signed}
use Rattle.arith.proofs.Words.{integer_and_back}
use Rattle.book.specs.Outline.{read, ◌!◌}
use Rattle.book.specs.Refusal.{first_refusal}
use Rattle.book.proofs.Members.{of_all}
use Rattle.constants.specs.Eval.{empty}
use Rattle.constants.specs.Order.{Constant, Settled, each, Reached, outcome}
use Rattle.constants.specs.OfBook.{constant_at, constants, settled}
use Rattle.constants.specs.Values.{IsI64}
use Rattle.constants.specs.Leads.{LiesOnRing, LeadsIntoRing}
use Rattle.constants.specs.Theory.{Distinct, Stores}
use Rattle.constants.specs.Changes.{DeclaresAll}
use Rattle.constants.specs.Evaluated.{filled, place_of, has_value, value_or_0, outcome_over}
use Rattle.constants.specs.Demand3.{StoredFor, DeclaresAllOf, AddsNoneTo, Evaluation, IsOf, StandsIn, OfEach, OfBoth, Demand3}
use Rattle.constants.proofs.Tests.{declares_mem}
use Rattle.constants.proofs.Distinct.{accepted_is_distinct}
use Rattle.constants.proofs.SameTrees.{same_expressions_are_equal}
use Rattle.constants.proofs.Order.{reached_declared}
use Rattle.constants.proofs.Final.{settles_if}
use Rattle.constants.proofs.Stored.{stores_the_stored}
use Rattle.constants.proofs.Values.{settled_are_i64}
use Rattle.constants.proofs.Named.{settled_named}
use Rattle.constants.proofs.Changes.{rings_are_unreached, extension_keeps, reordering}

-- from two books that are not refused to their lists of constants
module _ (first second : List ℕ) (one : first_refusal first ≡ none) (two : first_refusal second ≡ none) (all : DeclaresAllOf second first) where
  pub has_all : DeclaresAll (constants (read second)) (constants (read first))
  has_all c m =
      let x = all c m in
      (x.0, x.1, x.2, sym ((same_expressions_are_equal first second one two c x.0 m x.1).0 x.3))

  pub has_no_more : AddsNoneTo second first → DeclaresAll (constants (read first)) (constants (read second))
  has_no_more adds d m =
      let x = declares_mem (constants (read first)) d.name (adds d m) in
      let y = has_all x.0 x.1 in
      let same = accepted_is_distinct second two y.0 d y.1 m (y.2 ∙ x.2) in
      (x.0, x.1, x.2, sym y.3 ∙ ap (λ (c : Constant). c.expr) same)

-- what stands somewhere, `In`, is exactly what an accepted book stores: a name with a value
module _
    (book : List ℕ) (unrefused : first_refusal book ≡ none) (In : ℕ → ℤ → Type 0)
    (in_if : (n : ℕ) (z : ℤ) → In n z ↔ Stores each empty (constants (read book)) n z)
  where
    abbrev declared : List Constant
    declared = constants (read book)

    pub in_exactly : (n : ℕ) (z : ℤ) → In n z ↔ StoredFor book n z
    in_exactly n z = Iff.trans (in_if n z) (stores_the_stored each declared (accepted_is_distinct book unrefused) n z)

    pub none_on_rings : (c : Constant) → Memᴰ c declared → LiesOnRing declared c ⊎ LeadsIntoRing declared c → (z : ℤ) → In c.name z → ⊥
    none_on_rings c m ring z s =
        let one = accepted_is_distinct book unrefused in
        let (d, name, settles) = (in_if c.name z).0 s in
        let r = ((settles_if each empty declared one d (some z)).0 settles).0 in
        rings_are_unreached each declared c (subst (Reached each declared) (one d c (reached_declared r) m name) r) ring

-- of two accepted books, of which the second has the first one's constants
module _
    (first second : List ℕ) (un : first_refusal first ≡ none) (un' : first_refusal second ≡ none) (all : DeclaresAllOf second first)
    (In In' : ℕ → ℤ → Type 0) (in_if : (n : ℕ) (z : ℤ) → In n z ↔ Stores each empty (constants (read first)) n z)
    (in_if' : (n : ℕ) (z : ℤ) → In' n z ↔ Stores each empty (constants (read second)) n z)
  where
    abbrev cs : List Constant
    cs = constants (read first)

    abbrev ds : List Constant
    ds = constants (read second)

    one : Distinct cs
    one = accepted_is_distinct first un

    two : Distinct ds
    two = accepted_is_distinct second un'

    pub in_kept : (n : ℕ) (z : ℤ) → StoredFor first n z → StoredFor second n z × In n z × In' n z
    in_kept n z s =
        let a = (stores_the_stored each cs one n z).1 s in
        let b = extension_keeps each empty cs ds one two (has_all first second un un' all) (λ c m. refl) n z a in
        ((stores_the_stored each ds two n z).0 b, (in_if n z).1 a, (in_if' n z).1 b)

    pub in_same : AddsNoneTo second first → (n : ℕ) (z : ℤ) → In n z ↔ In' n z
    in_same adds n z =
        Iff.trans (in_if n z)
        (Iff.trans (reordering each empty cs ds one two (has_all first second un un' all) (has_no_more first second un un' all adds) n (some z))
        (Iff.symm (in_if' n z)))

-- the front of an array: what stands at a number
filled_at : {A B : Type 0} (f : A → B) (xs : List A) (l : List B) (i : ℕ) (a : A) (d : B) → i < length xs → get_or (filled (map f xs) l) i d ≡ f (get_or xs i a)
unfolding filled
filled_at f xs l i a d less = front f xs _ i a d less
  where
    front : {A B : Type 0} (f : A → B) (xs : List A) (l : List B) (i : ℕ) (a : A) (d : B) → i < length xs → get_or (map f xs ++ l) i d ≡ f (get_or xs i a)
    front f [] l i a d less = absurd (omega arith)
    front f (x ∷ xs) l zero a d less = refl
    front f (x ∷ xs) l (suc i) a d less = front f xs l i a d (omega arith)

-- an element of a list is a member, and a member stands at some number
at_mem : {A : Type 0} (l : List A) (i : ℕ) (d : A) → i < length l → Memᴰ (get_or l i d) l
at_mem [] i d less = absurd (omega arith)
at_mem (x ∷ l) zero d less = Memᴰ.head refl
at_mem (x ∷ l) (suc i) d less = Memᴰ.tail (at_mem l i d (omega arith))

mem_at : {A : Type 0} {x : A} {l : List A} (d : A) → Memᴰ x l → (i : ℕ) × (i < length l) × (get_or l i d ≡ x)
mem_at d (Memᴰ.head e) = (0, omega arith, sym e)
mem_at d (Memᴰ.tail m) = let (i, less, e) = mem_at d m in (suc i, omega arith, e)

-- one accepted book
module _ (book : List ℕ) (x : Evaluation) (bytes : AreBytes book) (unrefused : first_refusal book ≡ none) (is : IsOf book x) where
  xs : List Settled
  xs = settled (read book)

  same_outcome : outcome_over book is.known is.worth ≡ xs
  unfolding xs outcome_over settled
  same_outcome = λ i. outcome each (λ n. is.none_before n i) (constants (read book))

  -- constant i of those that were settled
  at : ℕ → Settled
  at i = get_or xs i (record { constant = constant_at (read book) 0; value = none })

  -- what the arrays say of it
  module _ (i : ℕ) (less : i < length xs) where
    inside : i < length (outcome_over book is.known is.worth)
    inside = rw same_outcome less

    order-at : get_or x.order i 0 ≡ (at i).constant.place
    unfolding at
    order-at = ap (λ l. get_or l i 0) (is.promise.order_is ∙ ap (λ l. filled (map place_of l) is.order) same_outcome) ∙ filled_at place_of xs is.order i _ 0 less

    stored_at : get_or x.stored i false ≡ has_value (at i).value
    unfolding at
    stored_at =
        ap (λ l. get_or l i false) (is.promise.stored_is ∙ ap (λ l. filled (map (λ y. has_value y.value) l) is.stored) same_outcome)
        ∙ filled_at (λ y. has_value y.value) xs is.stored i _ false less

    value-at : get_or x.values i 0 ≡ value_or_0 (at i).value
    unfolding at
    value-at =
        ap (λ l. get_or l i 0) (is.promise.values_are ∙ ap (λ l. filled (map (λ y. value_or_0 y.value) l) is.values) same_outcome)
        ∙ filled_at (λ y. value_or_0 y.value) xs is.values i _ 0 less

    is_there : Memᴰ (at i) xs
    unfolding at
    is_there = at_mem xs i _ less

    name-at : (read book ! (get_or x.order i 0)).a ≡ (at i).constant.name
    unfolding xs
    name-at = ap (λ p. (read book ! p).a) order-at ∙ of_all _ (settled (read book)) (settled_named (read book)) (at i) is_there

  -- a value that is there is the one that its bits stand for
  value_is : (o : Option ℤ) (z : ℤ) → IsI64 o → has_value o ≡ true → signed (value_or_0 o) ≡ z → o ≡ some z
  unfolding has_value value_or_0
  value_is none z i marked e = absurd (false≢true marked)
  value_is (some y) z i marked e = ap some (sym (integer_and_back y i.0 i.1) ∙ e)

  i64_at : (y : Settled) → Memᴰ y xs → IsI64 y.value
  unfolding xs
  i64_at y m = of_all (λ y. IsI64 y.value) (settled (read book)) (settled_are_i64 book bytes) y m

  settles : {n : ℕ} {z : ℤ} → StandsIn book x n z → Stores each empty (constants (read book)) n z
  unfolding xs settled
  settles {n} {z} s =
      let i = s.number in
      let less : i < length xs = omega (arith, s.counted, is.promise.count ∙ ap length same_outcome) in
      let value : (at i).value ≡ some z =
      value_is (at i).value z (i64_at (at i) (is_there i less)) (sym (stored_at i less) ∙ s.marked) (ap signed (sym (value-at i less)) ∙ s.value) in
      let whole : at i ≡ record { constant = (at i).constant; value = some z } = λ j. record { constant = (at i).constant; value = value j } in
      ((at i).constant, sym (name-at i less) ∙ s.name, Memᴰ.cast (sym whole) (is_there i less))

  stands : {n : ℕ} {z : ℤ} → Stores each empty (constants (read book)) n z → StandsIn book x n z
  unfolding xs settled at has_value value_or_0
  stands {n} {z} (c, name, m) =
      let (i, less, e) = mem_at (record { constant = constant_at (read book) 0; value = none }) m in
      let (low, high) = i64_at (record { constant = c; value = some z }) m in
      record {
        number = i;
        counted = omega (arith, is.promise.count ∙ ap length same_outcome);
        name = name-at i less ∙ ap (λ y. y.constant.name) e ∙ name;
        marked = stored_at i less ∙ ap (λ y. has_value y.value) e;
        value = ap signed (value-at i less ∙ ap (λ y. value_or_0 y.value) e) ∙ integer_and_back z low high;
      }

  stands_if : (n : ℕ) (z : ℤ) → StandsIn book x n z ↔ Stores each empty (constants (read book)) n z
  stands_if n z = (settles, stands)

  of_each : OfEach book x
  of_each = record {
    exactly = in_exactly book unrefused (StandsIn book x) stands_if;
    no_ring = none_on_rings book unrefused (StandsIn book x) stands_if;
  }

-- two accepted books, of which the second has the first one's constants
module _
    (first second : List ℕ) (x y : Evaluation) (bytes : AreBytes first) (bytes' : AreBytes second) (un : first_refusal first ≡ none)
    (un' : first_refusal second ≡ none) (is : IsOf first x) (is' : IsOf second y) (all : DeclaresAllOf second first)
  where
    of_both : OfBoth first second x y
    of_both = record {
      kept = in_kept first second un un' all (StandsIn first x) (StandsIn second y) (stands_if first x bytes un is) (stands_if second y bytes' un' is');
      same = in_same first second un un' all (StandsIn first x) (StandsIn second y) (stands_if first x bytes un is) (stands_if second y bytes' un' is');
    }

pub demand_3 : Demand3
demand_3 = record { of_each = of_each; of_both = of_both }
