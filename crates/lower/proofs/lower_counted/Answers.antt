-- `lower::lower_counted` meets its contract.
-- Assumes nothing.
use Rattle.std.proofs.Common.{sym, ◌∙◌}
use Rattle.lower.proofs.Reading.{accepted_so, refused_so}
use Rattle.lower.proofs.lower_counted.Goals as goal

pub returns-in-Ok : goal.returns-in-Ok
returns-in-Ok c =
    let x = accepted_so c.args.book.now c.args.results.now c.args.diagnostics.now c.args.ctx _ (sym c.in-Ok.is
    ∙ c.read.ensures.answer) c.lower_read.ensures in
    record { lowered = x.lowered; ctx_value = x.ctx_value }

pub returns-in-Err : goal.returns-in-Err
returns-in-Err c =
    let x = refused_so c.args.book.now c.args.results.now c.args.diagnostics.now c.args.ctx _ (sym c.in-Err.is
    ∙ c.read.ensures.answer) in
    record { lowered = x.lowered; ctx_value = x.ctx_value }
