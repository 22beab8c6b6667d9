-- That constants keep their values, told of what any evaluation over arrays answers and leaves: the proof for every one
-- that keeps the promise is in proofs/Demand3.antt, and that each run of `evaluate` is one in proofs/Arrays.antt.
-- Assumes nothing.
use Rattle.std.specs.Prelude.{ℕ, ◌<◌, Bool, true, false, ◌↔◌, ◌⊎◌, ◌≡◌, ℤ, get_or}
use mathlib.Core.List.{List, Memᴰ}
use Rattle.std.proofs.Math.Option.{none}
use Rattle.record.specs.Bytes.{AreBytes}
use Rattle.arith.specs.Word.{signed}
use Rattle.book.specs.Blocks.{record_count}
use Rattle.book.specs.Outline.{read, ◌!◌}
use Rattle.book.specs.Refusal.{first_refusal}
use Rattle.constants.specs.Order.{Constant, each, declares}
use Rattle.constants.specs.OfBook.{constants}
use Rattle.constants.specs.SameTrees.{SameExpression}
use Rattle.constants.specs.Stored.{Stored}
use Rattle.constants.specs.Leads.{LiesOnRing, LeadsIntoRing}
use Rattle.constants.specs.Evaluated.{table_of, outcome_over, Long, Evaluated}

-- the constant n is one that is stored for a book, with the value z, no constant having a value beforehand
abbrev pub StoredFor : List ℕ → ℕ → ℤ → Type 0
StoredFor book n z = Stored each (constants (read book)) n z

-- the second declares every constant of the first with the same expression
abbrev pub DeclaresAllOf : List ℕ → List ℕ → Type 0
DeclaresAllOf second first =
    (c : Constant) →
    Memᴰ c (constants (read first)) →
    (d : Constant)
    × Memᴰ d (constants (read second))
    × (d.name ≡ c.name)
    × SameExpression (read first) c (read second) d

-- the second adds none to the first
abbrev pub AddsNoneTo : List ℕ → List ℕ → Type 0
AddsNoneTo second first =
    (d : Constant) → Memᴰ d (constants (read second)) → declares (constants (read first)) d.name ≡ true

-- the number that was answered, and the three arrays by number as they were left
pub record Evaluation : Type 0 where
  pub count : ℕ
  pub order : List ℕ
  pub stored : List Bool
  pub values : List ℕ

-- an evaluation of a book that keeps the promise, whatever arrays were lent, no constant having a value beforehand
pub record IsOf (book : List ℕ) (x : Evaluation) : Type 0 where
  pub known : List Bool
  pub known' : List Bool
  pub worth : List ℕ
  pub worth' : List ℕ
  pub order : List ℕ
  pub stored : List Bool
  pub values : List ℕ
  pub long : Long book (record_count book) known worth order stored values
  pub none_before : (n : ℕ) → table_of known worth n ≡ none
  pub promise :
      Evaluated (outcome_over book known worth) x.count known known' worth worth' order x.order stored x.stored values x.values

-- the name n and the value z stand in the arrays: the record at some number below the count has the name, and its value
-- is marked as stored
pub record StandsIn (book : List ℕ) (x : Evaluation) (n : ℕ) (z : ℤ) : Type 0 where
  pub number : ℕ
  pub counted : number < x.count
  pub name : (read book ! (get_or x.order number 0)).a ≡ n
  pub marked : get_or x.stored number false ≡ true
  pub value : signed (get_or x.values number 0) ≡ z

-- of one accepted book
pub record OfEach (book : List ℕ) (x : Evaluation) : Type 0 where
  pub exactly : (n : ℕ) (z : ℤ) → StandsIn book x n z ↔ StoredFor book n z
  -- no constant that lies on a ring of references, or leads into one, is stored
  pub no_ring :
      (c : Constant) →
      Memᴰ c (constants (read book)) →
      LiesOnRing (constants (read book)) c ⊎ LeadsIntoRing (constants (read book)) c →
      (z : ℤ) →
      StandsIn book x c.name z →
      ⊥

-- of two accepted books, of which the second declares every constant of the first with the same expression
pub record OfBoth (first second : List ℕ) (x y : Evaluation) : Type 0 where
  -- what is stored for the first is stored for the second, with the same value
  pub kept :
      (n : ℕ) (z : ℤ) → StoredFor first n z → StoredFor second n z × StandsIn first x n z × StandsIn second y n z
  -- where the second adds none, both store exactly the same names with the same values
  pub same : AddsNoneTo second first → (n : ℕ) (z : ℤ) → StandsIn first x n z ↔ StandsIn second y n z

-- both, of every book that is accepted and of every two
pub record Demand3 : Type 0 where
  pub of_each :
      (book : List ℕ) (x : Evaluation) → AreBytes book → first_refusal book ≡ none → IsOf book x → OfEach book x
  pub of_both :
      (first second : List ℕ) (x y : Evaluation) →
      AreBytes first →
      AreBytes second →
      first_refusal first ≡ none →
      first_refusal second ≡ none →
      IsOf first x →
      IsOf second y →
      DeclaresAllOf second first →
      OfBoth first second x y
