-- `book::blocks::Blocks::check` meets its contract: block after block.
-- Assumes nothing.
use Rattle.std.proofs.Common.{sym, ap, ◌∙◌, arith}
use Rattle.std.proofs.lemmas.Result.{err_from_is_err_and}
use Rattle.book.specs.Refusal.{at_block, holds}
use Rattle.book.specs.Answer.{outcome}
use Rattle.book.proofs.Scans.{scan_start, scan_end}
use Rattle.book.proofs.Counts.{block_found, block_passed}
use Rattle.book.proofs.blocks.Blocks.check.Goals as goal

pub loop-k-init : goal.loop-k-init
loop-k-init c = (omega arith, scan_start (holds c.args.self.now.bytes.now) at_block c.args.self.now.count)

pub returns-in_err-check_block : goal.returns-in_err-check_block
returns-in_err-check_block c =
    let p = err_from_is_err_and c.from_residual.result c.from_residual.ensures.1 in
    rw (p.1, p.2, ← c.args.self.now.counted)
    (block_found c.args.self.now.bytes.now c.in_err-check_block.ensures c.loop-k-test.true c.loop-k.invariant)

pub loop-k-preserved : goal.loop-k-preserved
loop-k-preserved c = block_passed c.args.self.now.bytes.now c.in_ok-check_block.ensures c.loop-k-test.true c.loop-k.invariant

pub returns : goal.returns
unfolding outcome
returns c =
    rw (← c.args.self.now.counted)
    (ap outcome (sym (c.loop-k.invariant.1 ∙ scan_end (holds c.args.self.now.bytes.now) at_block c.loop-k.k c.args.self.now.count c.loop-k-test.false)))
