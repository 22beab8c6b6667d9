-- What a run of `evaluate` leaves, told over arrays of marks and bits: it is an evaluation, so what is claimed of
-- evaluations holds of runs. The proofs are in proofs/Arrays.antt.
-- Assumes nothing.
use Rattle.std.specs.Prelude.{ℕ, ◌≤◌, Bool, List, ◌++◌, map, ◌≡◌, ℤ, length, drop, Option as Answer}
use Rattle.std.proofs.Math.Option.{none}
use Rattle.record.specs.Bytes.{AreBytes}
use Rattle.arith.specs.Checked.{answer}
use Rattle.book.specs.Blocks.{record_count}
use Rattle.book.specs.Outline.{Book, read}
use Rattle.book.specs.Refusal.{first_refusal}
use Rattle.constants.specs.Order.{each, outcome}
use Rattle.constants.specs.OfBook.{constants}
use Rattle.constants.specs.Values.{IsI64}
use Rattle.constants.specs.Evaluated.{filled, has_value, value_or_0, outcome_over, Evaluated}
use Rattle.constants.specs.Demand3.{DeclaresAllOf, Evaluation, IsOf, OfEach, OfBoth}
use Rattle.constants.specs.declared.reached.Settled.{Settled}
use Rattle.constants.specs.Given.{table_in, told, stored_behind, NamesIn}

-- what `evaluate` promises of the values and the order that it leaves, by those beforehand
pub record Leaves (book : Book) (values values' : List (Answer ℤ)) (order order' : List Settled) : Type 0 where
  pub order_is : order' ≡ order ++ map told (outcome each (table_in values) (constants book))
  pub values_are : values' ≡ stored_behind (outcome each (table_in values) (constants book)) values

-- values, as arrays: whether each is there, and its 64 bits or 0
abbrev pub marks : List (Answer ℤ) → List Bool
marks values = map (λ v. has_value (answer v)) values

abbrev pub bits : List (Answer ℤ) → List ℕ
bits values = map (λ v. value_or_0 (answer v)) values

-- every value is one of the type i64
abbrev pub AreI64 : List (Answer ℤ) → Type 0
AreI64 values = (n : ℕ) → IsI64 (table_in values n)

-- arrays by number, as they are lent
pub record Lent : Type 0 where
  pub order : List ℕ
  pub stored : List Bool
  pub values : List ℕ

-- there is room in them for m constants
pub record HasRoom (m : ℕ) (lent : Lent) : Type 0 where
  pub order_is : m ≤ length lent.order
  pub stored_is : m ≤ length lent.stored
  pub values_are : m ≤ length lent.values

-- the reached constants are counted, and put at the front of the arrays that were lent
abbrev pub put_in : Lent → List Settled → Evaluation
put_in lent xs = record {
  count = length xs;
  order = filled (map (λ x. x.place) xs) lent.order;
  stored = filled (marks (map (λ x. x.value) xs)) lent.stored;
  values = filled (bits (map (λ x. x.value) xs)) lent.values;
}

-- what a run appends to an order
abbrev pub appended : List Settled → List Settled → List Settled
appended order order' = drop (length order) order'

-- an evaluation of a book: `Evaluated`, of the arrays of values beforehand and afterwards, and of those that were lent
abbrev pub EvaluatedFrom : List ℕ → List (Answer ℤ) → List (Answer ℤ) → Lent → Evaluation → Type 0
EvaluatedFrom book values values' lent x =
    Evaluated (outcome_over book (marks values) (bits values)) x.count (marks values) (marks values') (bits values) (bits values')
    lent.order x.order lent.stored x.stored lent.values x.values

-- the values and the order that a run leaves, told over arrays: they are an evaluation of the bytes of its book,
-- whatever values and order were there beforehand, and whatever arrays are lent for what it appends. Each value
-- beforehand is an i64, by its type.
abbrev pub AsArrays : Book → List (Answer ℤ) → List (Answer ℤ) → List Settled → List Settled → Type 0
AsArrays book values values' order order' =
    (bytes : List ℕ) (lent : Lent) →
    book ≡ read bytes →
    AreI64 values →
    EvaluatedFrom bytes values values' lent (put_in lent (appended order order'))

-- so of whatever keeps the promise of `evaluate`
abbrev pub EvaluatedAsArrays : Type 0
EvaluatedAsArrays =
    (book : Book) (values values' : List (Answer ℤ)) (order order' : List Settled) →
    Leaves book values values' order order' →
    AsArrays book values values' order order'

-- a run over a book, no constant having a value beforehand, and what it appends put in arrays that have room
pub record IsRunOf (book : List ℕ) (x : Evaluation) : Type 0 where
  pub values : List (Answer ℤ)
  pub values' : List (Answer ℤ)
  pub order : List Settled
  pub order' : List Settled
  pub lent : Lent
  pub names : NamesIn (read book) (length values)
  pub room : HasRoom (record_count book) lent
  pub none_before : (n : ℕ) → table_in values n ≡ none
  pub leaves : Leaves (read book) values values' order order'
  pub is_put : x ≡ put_in lent (appended order order')

-- constants keep their values in every run of `evaluate`: `Demand3`, of runs
pub record Demand3OfRuns : Type 0 where
  pub are_evaluations : (book : List ℕ) (x : Evaluation) → IsRunOf book x → IsOf book x
  pub of_each :
      (book : List ℕ) (x : Evaluation) → AreBytes book → first_refusal book ≡ none → IsRunOf book x → OfEach book x
  pub of_both :
      (first second : List ℕ) (x y : Evaluation) →
      AreBytes first →
      AreBytes second →
      first_refusal first ≡ none →
      first_refusal second ≡ none →
      IsRunOf first x →
      IsRunOf second y →
      DeclaresAllOf second first →
      OfBoth first second x y
