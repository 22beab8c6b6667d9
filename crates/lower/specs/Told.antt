-- What is claimed of the 41s in the result slice of an accepted book; the proofs are in proofs/Told.antt.
-- Assumes nothing.
use Rattle.std.specs.Prelude.{ℕ, List, map, ◌↔◌, ◌≡◌, ℤ}
use Rattle.record.specs.Bytes.{AreBytes}
use Rattle.book.specs.Outline.{read}
use Rattle.constants.specs.Eval.{empty}
use Rattle.constants.specs.Order.{each}
use Rattle.constants.specs.OfBook.{constants, settled}
use Rattle.constants.specs.Theory.{Stores}
use Rattle.bodies.specs.Constant.{constants_in, constant_of}
use Rattle.lower.specs.LowerBook.{accepted, lower_book}
use Rattle.lower.specs.Laws.{IsAccepted, first_records}
use Rattle.lower.specs.Demand3.{Stands}

-- the 41s among the results counted are those of the reached constants, in their order, by name, mark and value
abbrev pub ReachedAreTold : Type 0
ReachedAreTold =
    (book results diagnostics : List ℕ) (r d c : ℕ) →
    AreBytes book →
    (lower_book book results diagnostics).reply ≡ accepted r d c →
    constants_in (first_records r (lower_book book results diagnostics).results) ≡ map constant_of (settled (read book))

-- the names and values that stand in the slice are those that are stored
abbrev pub StoredAreTold : Type 0
StoredAreTold =
    (book results diagnostics : List ℕ) →
    AreBytes book →
    IsAccepted (lower_book book results diagnostics) →
    (n : ℕ) (z : ℤ) →
    Stands (lower_book book results diagnostics) n z ↔ Stores each empty (constants (read book)) n z
