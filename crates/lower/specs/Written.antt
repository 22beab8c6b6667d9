-- What is claimed of the records that a lowering writes; the proofs are in proofs/Written.antt. Words in quotation
-- marks are rules of docs/FORMAT.md in brief.
-- Assumes nothing.
use Rattle.std.specs.Prelude.{ℕ, ◌≤◌, List, ◌∷◌, ◌++◌, map, ◌≡◌, length}
use Rattle.std.proofs.Math.Option.{none}
use Rattle.record.specs.Bytes.{AreBytes}
use Rattle.record.specs.Layout.{Within}
use Rattle.book.specs.Lists.{All, keep}
use Rattle.book.specs.Refusal.{first_refusal}
use Rattle.book.specs.Outline.{Book, read}
use Rattle.constants.specs.OfBook.{settled}
use Rattle.types.specs.Lowering.{Limits, State, start, finished, run}
use Rattle.types.specs.Events.{Event, resolves, events, written, told}
use Rattle.types.specs.Resolved.{Names}
use Rattle.types.specs.Step.{is_stored}
use Rattle.types.specs.Diagnostic.{IsDiagnostic}
use Rattle.bodies.specs.Constant.{constants_in, constant_of, stored_count}
use Rattle.lower.specs.LowerBook.{lower_records}
use Rattle.lower.specs.Counters.{numbers_given}

-- "resolving deeper than 64": the step at which 9 is given is the 65th, and no lowering goes beyond it
abbrev pub NoStepBeyond : Type 0
NoStepBeyond =
    (book : Book) (before rest : List Event) (d : ℕ) →
    events (lower_records (settled book) book) 0 ≡ before ++ (resolves d ∷ rest) → d ≤ 65

-- every record that is written for a book of bytes has its fields within their widths, so that it can be read back
abbrev pub WrittenWithin : Type 0
WrittenWithin =
    (book : List ℕ) (most : Limits) (a : Unit × Names) (s : State) →
    AreBytes book →
    first_refusal book ≡ none →
    most.results ≤ 2048 →
    run most (lower_records (settled (read book)) (read book)) start ≡ finished a s →
    All Within s.results × All Within s.diagnostics

-- the number that would be given next is how many were given
abbrev pub NumbersAreCounted : Type 0
NumbersAreCounted =
    (book : List ℕ) (most : Limits) (a : Unit × Names) (s : State) →
    AreBytes book →
    first_refusal book ≡ none →
    most.results ≤ 2048 →
    run most (lower_records (settled (read book)) (read book)) start ≡ finished a s →
    a.1.next ≡ numbers_given (read book)

-- every diagnostic that is told has the form of one
abbrev pub ToldAreDiagnostics : Type 0
ToldAreDiagnostics = (book : Book) → All IsDiagnostic (told (events (lower_records (settled book) book) 0))

-- the 41s that are written are those of the reached constants, in their order, by name, mark and value
abbrev pub ReachedAreWritten : Type 0
ReachedAreWritten =
    (book : Book) →
    constants_in (written (events (lower_records (settled book) book) 0)) ≡ map constant_of (settled book)

-- the 41s marked stored are as many as the constants that have a value
abbrev pub StoredAreCounted : Type 0
StoredAreCounted =
    (book : Book) →
    length (keep is_stored (written (events (lower_records (settled book) book) 0))) ≡ stored_count (settled book)
