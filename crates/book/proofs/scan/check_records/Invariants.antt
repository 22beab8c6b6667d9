-- The records before n have no fault, and what they leave is known.
-- Assumes nothing.
use Rattle.book.specs.Refusal.{at_record, holds}
use Rattle.book.specs.Tables.{Known}
use Rattle.book.proofs.Scans.{Passed}
use Rattle.book.proofs.scan.check_records.Given as goal

abbrev pub invariant-loop-n : goal.invariant-loop-n
invariant-loop-n l = Passed (holds l.book) at_record l.n l.count × Known l.book l.n l.scan
