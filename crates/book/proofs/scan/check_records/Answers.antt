-- `book::scan::check_records` meets its contract: record after record.
-- Assumes nothing.
use Rattle.std.proofs.Common.{sym, ap, ◌∙◌, arith, subst}
use Rattle.std.proofs.lemmas.Result.{err_from_is_err_and}
use Rattle.book.specs.Blocks.{records}
use Rattle.book.specs.Refusal.{at_record, holds}
use Rattle.book.specs.Answer.{outcome}
use Rattle.book.specs.Tables.{Placed, standing_of}
use Rattle.book.proofs.Scans.{scan_start, scan_end}
use Rattle.book.proofs.Places.{before_start}
use Rattle.book.proofs.Marks.{trees_start}
use Rattle.book.proofs.Declares.{names_start}
use Rattle.book.proofs.Looks.{ready_at, found_here, gone_on}
use Rattle.book.proofs.scan.check_records.Goals as goal

pub loop-n-init : goal.loop-n-init
loop-n-init c =
    let rs = records c.args.book.now in (
      (omega arith, scan_start (holds c.args.book.now) at_record c.args.count),
      record {
        trees_are = trees_start rs;
        names_are = names_start rs;
        placed = subst (λ bs. Placed bs (standing_of c.start.result)) (sym (before_start rs)) c.start.ensures;
      },
    )

pub check-requires : goal.check-requires
check-requires c = omega arith

pub returns-in_err-check : goal.returns-in_err-check
returns-in_err-check c =
    let p = err_from_is_err_and c.from_residual.result c.from_residual.ensures.1 in
    rw (p.1, p.2)
    (found_here (c.in_err-check.ensures c.args.book.now (ready_at c.requires c.loop-n-test.true c.record_at.ensures c.loop-n.invariant.1)) c.loop-n-test.true c.loop-n.invariant.0)

pub loop-n-preserved : goal.loop-n-preserved
loop-n-preserved c =
    gone_on (c.in_ok-check.ensures c.args.book.now (ready_at c.requires c.loop-n-test.true c.record_at.ensures c.loop-n.invariant.1)) c.loop-n-test.true c.loop-n.invariant.0

pub returns : goal.returns
unfolding outcome
returns c = ap outcome (sym (c.loop-n.invariant.0.1 ∙ scan_end (holds c.args.book.now) at_record c.loop-n.n c.args.count c.loop-n-test.false))
