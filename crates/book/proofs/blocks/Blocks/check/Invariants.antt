-- The blocks before k have no fault.
-- Assumes nothing.
use Rattle.book.specs.Refusal.{at_block, holds}
use Rattle.book.proofs.Scans.{Passed}
use Rattle.book.proofs.blocks.Blocks.check.Given as goal

abbrev pub invariant-loop-k : goal.invariant-loop-k
invariant-loop-k l = Passed (holds l.self.bytes.now) at_block l.k l.self.count
