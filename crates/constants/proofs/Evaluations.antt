-- What stands in the order that a run of `evaluate` leaves: from the order to the theory of constants, and back.
-- Assumes nothing.
use Rattle.std.specs.Prelude.{ℕ, ◌≡◌, map, ℤ, Some}
use Rattle.std.proofs.Common.{refl, sym, ap, ◌∙◌, subst}
use Rattle.std.proofs.Math.Option.{Option, some, none}
use mathlib.Core.List.Memᴰ
use mathlib.Core.List.{List, Memᴰ}
use mathlib.Core.Logic.{◌↔◌}
use Rattle.book.specs.Outline.{read, ◌!◌}
use Rattle.book.specs.Refusal.{first_refusal}
use Rattle.book.proofs.Members.{of_all}
use Rattle.constants.specs.Eval.{empty}
use Rattle.constants.specs.Order.{Constant, each, Reached, outcome}
use Rattle.constants.specs.Order as settling
use Rattle.constants.specs.OfBook.{constants, settled}
use Rattle.constants.specs.Theory.{Stores}
use Rattle.constants.specs.Demand3.{DeclaresAllOf}
use Rattle.constants.specs.declared.reached.Settled.{Settled}
use Rattle.constants.specs.Given.{answered, told}
use Rattle.constants.specs.Evaluations.{IsLeftOf, StandsIn, OfEach, OfBoth, EvaluationsStore}
use Rattle.constants.proofs.Named.{settled_named}
use Rattle.constants.proofs.Demand3.{in_exactly, none_on_rings, in_kept, in_same}

-- a value of the code is one of the definitions
value_is : (o : Option ℤ) (z : ℤ) → answered o ≡ Some z → o ≡ some z
value_is none z e = cc
value_is (some y) z e = let same : y ≡ z = cc in ap some same

-- one accepted book
module _ (book : List ℕ) (order : List Settled) (unrefused : first_refusal book ≡ none) (is : IsLeftOf book order) where
  order_is : order ≡ map told (outcome each empty (constants (read book)))
  order_is = is.promise ∙ (λ i. map told (outcome each (λ n. is.none_before n i) (constants (read book))))

  named : (x : settling.Settled) → Memᴰ x (outcome each empty (constants (read book))) → (read book ! x.constant.place).a ≡ x.constant.name
  unfolding settled
  named x m = of_all _ (settled (read book)) (settled_named (read book)) x m

  settles : {n : ℕ} {z : ℤ} → StandsIn book order n z → Stores each empty (constants (read book)) n z
  settles {n} {z} s =
      let (y, among, e) = Memᴰ.of_map told (outcome each empty (constants (read book))) (subst (Memᴰ s.settled) order_is s.among) in
      let same : told y ≡ s.settled = e in
      let value : y.value ≡ some z = value_is y.value z (ap (λ (x : Settled). x.value) same ∙ s.value) in
      let whole : y ≡ record { constant = y.constant; value = some z } = λ j. record { constant = y.constant; value = value j } in
      let place : y.constant.place ≡ s.settled.place = ap (λ (x : Settled). x.place) same in
      (y.constant, sym (named y among) ∙ ap (λ p. (read book ! p).a) place ∙ s.name, Memᴰ.cast (sym whole) among)

  stands : {n : ℕ} {z : ℤ} → Stores each empty (constants (read book)) n z → StandsIn book order n z
  stands {n} {z} (c, name, m) =
      let x : settling.Settled = record { constant = c; value = some z } in
      record {
        settled = told x;
        among = subst (Memᴰ (told x)) (sym order_is) (Memᴰ.map told m);
        name = named x m ∙ name;
        value = refl;
      }

  stands_if : (n : ℕ) (z : ℤ) → StandsIn book order n z ↔ Stores each empty (constants (read book)) n z
  stands_if n z = (settles, stands)

  of_each : OfEach book order
  of_each = record {
    exactly = in_exactly book unrefused (StandsIn book order) stands_if;
    no_ring = none_on_rings book unrefused (StandsIn book order) stands_if;
  }

-- two accepted books, of which the second has the first one's constants
module _
    (first second : List ℕ) (left right : List Settled) (un : first_refusal first ≡ none) (un' : first_refusal second ≡ none)
    (is : IsLeftOf first left) (is' : IsLeftOf second right) (all : DeclaresAllOf second first)
  where
    of_both : OfBoth first second left right
    of_both = record {
      kept = in_kept first second un un' all (StandsIn first left) (StandsIn second right) (stands_if first left un is) (stands_if second right un' is');
      same = in_same first second un un' all (StandsIn first left) (StandsIn second right) (stands_if first left un is) (stands_if second right un' is');
    }

pub evaluations_store : EvaluationsStore
evaluations_store = record { of_each = of_each; of_both = of_both }
