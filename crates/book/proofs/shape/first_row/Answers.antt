-- `book::shape::first_row` meets its contract: the list of first rows is the rule, and kinds past its end have no row.
-- Assumes nothing.
use Rattle.std.proofs.Common.{sym, ap, ◌∙◌}
use Rattle.book.specs.Shape.{table}
use Rattle.book.specs.Rows.{first_row}
use Rattle.book.proofs.Cells.{first_found, first_past}
use Rattle.book.proofs.shape.first_row.Goals as goal

pub returns-in-Some : goal.returns-in-Some
returns-in-Some c =
    let found = c.in-Some.ensures.lookup in
    c.from-in-Some.ensures
    ∙ first_found c.from.result c.in-Some.first.now found.3.0 found.1
    ∙ ap (λ k. first_row k table) c.from.ensures

pub returns-in-None : goal.returns-in-None
returns-in-None c = sym (first_past c.args.kind (rw c.from.ensures at c.in-None.ensures.lookup.3))
