-- That constants keep their values in runs of the code: in what `lower_book` answered and what it left, for any run and
-- any two. A run is known by its promise alone, so what is said here is said of the code that is proved to keep it. The
-- proofs are in proofs/Runs.antt. Words in quotation marks are rules of docs/FORMAT.md in brief.
-- Assumes nothing.
use Rattle.std.specs.Prelude.{ℕ, List, ◌≡◌}
use Rattle.record.specs.Bytes.{AreBytes}
use Rattle.constants.specs.Demand3.{DeclaresAllOf}
use Rattle.lower.specs.LowerBook.{Outcome, lower_book}
use Rattle.lower.specs.Promise.{Answered, reply_of, outcome_of, Lowered}
use Rattle.lower.specs.Laws.{Leaves, IsAccepted}
use Rattle.lower.specs.Demand3.{OfEach, OfBoth}

-- a run of `lower_book`: what it was lent, whatever that is; what it answered; what the two slices held then
pub record Run : Type 0 where
  pub book : List ℕ
  pub results : List ℕ
  pub diagnostics : List ℕ
  pub reply : Answered
  pub results' : List ℕ
  pub diagnostics' : List ℕ
  -- a book is bytes
  pub are_bytes : AreBytes book
  -- the promise of `lower_book`, word for word
  pub promise : Lowered book results diagnostics reply results' diagnostics'

-- the answer of a run and what it left
abbrev pub outcome : Run → Outcome
outcome x = outcome_of x.reply x.results' x.diagnostics'

-- that constants keep their values
pub record Demand3OverRuns : Type 0 where
  -- of every run that accepts its book: exactly the stored names and values stand as a and v of the 41s marked stored
  -- among the results counted, and no constant that lies on a ring of references, or leads into one, is stored
  pub of_each : (x : Run) → IsAccepted (outcome x) → OfEach x.book (outcome x)
  -- of every two that accept their books, of which the second declares every constant of the first with the same
  -- expression
  pub of_both :
      (x y : Run) →
      IsAccepted (outcome x) →
      IsAccepted (outcome y) →
      DeclaresAllOf y.book x.book →
      OfBoth x.book y.book (outcome x) (outcome y)

-- What every run left is what its reply says. Accepted: both slices hold exactly the records that the lowering writes,
-- and the reply has "the counts of results, diagnostics and stored constants" of these; what is past them is as lent.
-- Refused by 1 to 8: all is as lent. By 9 and 10: "each slice is zero up to its limit in bytes"
abbrev pub RunsLeave : Type 0
RunsLeave = (x : Run) → Leaves x.book x.results x.diagnostics (outcome x) (reply_of x.reply)

-- There are such runs: every book that `lower_book` accepts has one, with any two slices. (That the code gives one for
-- every book and every two slices is its promise, which has no condition.)
abbrev pub AcceptedHaveRuns : Type 0
AcceptedHaveRuns =
    (book results diagnostics : List ℕ) →
    AreBytes book →
    IsAccepted (lower_book book results diagnostics) →
    (x : Run) × (x.book ≡ book) × (outcome x ≡ lower_book book results diagnostics)
