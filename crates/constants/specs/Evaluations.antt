-- What any run of `evaluate` stores, told of the order that it leaves: the proof for every run that keeps the promise
-- is in proofs/Evaluations.antt.
-- Assumes nothing.
use Rattle.std.specs.Prelude.{ℕ, ◌↔◌, ◌⊎◌, ◌≡◌, map, ℤ, Option, Some}
use mathlib.Core.List.{List, Memᴰ}
use Rattle.std.proofs.Math.Option.{none}
use Rattle.book.specs.Outline.{read, ◌!◌}
use Rattle.book.specs.Refusal.{first_refusal}
use Rattle.constants.specs.Order.{Constant, each, outcome}
use Rattle.constants.specs.OfBook.{constants}
use Rattle.constants.specs.Leads.{LiesOnRing, LeadsIntoRing}
use Rattle.constants.specs.Demand3.{StoredFor, DeclaresAllOf, AddsNoneTo}
use Rattle.constants.specs.declared.reached.Settled.{Settled}
use Rattle.constants.specs.Given.{table_in, told}

-- the order that an evaluation of a book leaves, which keeps the promise, none being there before and no constant
-- having a value beforehand
pub record IsLeftOf (book : List ℕ) (order : List Settled) : Type 0 where
  pub values : List (Option ℤ)
  pub none_before : (n : ℕ) → table_in values n ≡ none
  pub promise : order ≡ map told (outcome each (table_in values) (constants (read book)))

-- the name n and the value z stand in an order: some record in it has the name, and that value
pub record StandsIn (book : List ℕ) (order : List Settled) (n : ℕ) (z : ℤ) : Type 0 where
  pub settled : Settled
  pub among : Memᴰ settled order
  pub name : (read book ! settled.place).a ≡ n
  pub value : settled.value ≡ Some z

-- of one accepted book: exactly what is stored for it stands there, and no constant that lies on a ring or leads into
-- one
pub record OfEach (book : List ℕ) (order : List Settled) : Type 0 where
  pub exactly : (n : ℕ) (z : ℤ) → StandsIn book order n z ↔ StoredFor book n z
  pub no_ring :
      (c : Constant) →
      Memᴰ c (constants (read book)) →
      LiesOnRing (constants (read book)) c ⊎ LeadsIntoRing (constants (read book)) c →
      (z : ℤ) →
      StandsIn book order c.name z →
      ⊥

-- of two accepted books, where the second declares every constant of the first with the same expression: what is stored
-- for the first is stored for the second, with the same value; and where the second adds none, the two store exactly
-- the same names with the same values
pub record OfBoth (first second : List ℕ) (left right : List Settled) : Type 0 where
  pub kept :
      (n : ℕ) (z : ℤ) → StoredFor first n z → StoredFor second n z × StandsIn first left n z × StandsIn second right n z
  pub same : AddsNoneTo second first → (n : ℕ) (z : ℤ) → StandsIn first left n z ↔ StandsIn second right n z

-- of any books that are accepted
pub record EvaluationsStore : Type 0 where
  pub of_each : (book : List ℕ) (order : List Settled) → first_refusal book ≡ none → IsLeftOf book order → OfEach book order
  pub of_both :
      (first second : List ℕ) (left right : List Settled) →
      first_refusal first ≡ none →
      first_refusal second ≡ none →
      IsLeftOf first left →
      IsLeftOf second right →
      DeclaresAllOf second first →
      OfBoth first second left right
