-- `book::shape::row_of` meets its contract: no row before the first of its kind is a record's.
-- Assumes nothing.
use Rattle.std.proofs.Common.{ap, ◌∙◌}
use Rattle.std.specs.List as std
use Rattle.book.specs.Shape.{is_row}
use Rattle.book.specs.Rows.{row_from}
use Rattle.book.proofs.Cells.{row_found, first_few}
use Rattle.book.proofs.shape.row_of.Goals as goal

pub rows_from-requires : goal.rows_from-requires
rows_from-requires c = first_few _ _ c.first_row.ensures

pub returns : goal.returns
returns c = row_found c.args.r.now c.first_row.result c.first_of.result c.first_row.ensures (c.first_of.ensures ∙ ap (std.find (λ w. is_row c.args.r.now (row_from w))) c.rows_from.ensures)
