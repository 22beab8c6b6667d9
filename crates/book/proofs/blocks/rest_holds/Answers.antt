-- `book::blocks::rest_holds` meets its contract.
-- Assumes nothing.
use Rattle.std.proofs.Common.{◌∙◌}
use Rattle.book.proofs.Counts.{zeros}
use Rattle.book.proofs.blocks.rest_holds.Goals as goal

pub returns : goal.returns
returns c = rw (← c.from.ensures) (c.are_zero.ensures ∙ zeros _)
