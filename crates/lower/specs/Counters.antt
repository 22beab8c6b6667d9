-- The counters of numbers, results and diagnostics behind the lowering of a book. Words in quotation marks are rules of
-- docs/FORMAT.md in brief.
-- Assumes nothing.
use Rattle.std.specs.Prelude.{ℕ, ◌+◌, List, length}
use Rattle.std.proofs.Math.Option.{some, none}
use Rattle.book.specs.Refusal.{first_refusal}
use Rattle.book.specs.Outline.{Book, read}
use Rattle.constants.specs.OfBook.{settled}
use Rattle.types.specs.declared.LowerCtx.{LowerCtx}
use Rattle.types.specs.Lowering.{Out, finished, stopped, start, run, used_limits}
use Rattle.types.specs.Events.{answer}
use Rattle.types.specs.Resolved.{Names}
use Rattle.lower.specs.LowerBook.{lower_records}

-- how a lowering under limits leaves the counters: the numbers given, which are "numbered from 0", and the records
-- written; on 9 and 10 nothing is left
unfoldable pub counted : Out (Unit × Names) → LowerCtx
counted (finished a s) =
    record { next = a.1.next; results = length s.results; diagnostics = length s.diagnostics }
counted (stopped stop p) = record { next = 0; results = 0; diagnostics = 0 }

-- causes 1 to 8 leave the counters as they were
unfoldable pub counters_after : LowerCtx → List ℕ → List ℕ → List ℕ → LowerCtx
counters_after ctx book results diagnostics =
    elim (first_refusal book) [
      | some x ↦ ctx
      | none ↦ counted (run (used_limits results diagnostics) (lower_records (settled (read book)) (read book)) start)
    ]

-- how many numbers are given for a book, whatever the slices hold: one to each name that has a number of its own, and
-- one to each pair. "20-22 numbered from 0, then generic aliases, then stubs as met"
unfoldable pub numbers_given : Book → ℕ
numbers_given book =
    let names : Names = (answer (lower_records (settled book) book) 0).1 in
    length names.numbers + length names.pairs
