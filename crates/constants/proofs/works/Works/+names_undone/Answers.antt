-- `constants::works::Works::names_undone` meets its contract, by the record at the top of the expression.
-- Assumes nothing.
use Rattle.std.proofs.Common.{◌∙◌}
use Rattle.constants.proofs.Walks.{undone-leaf, undone-name, undone-left, undone-right}
use Rattle.constants.proofs.works.Works.+names_undone.Goals as goal

pub returns-in-Value : goal.returns-in-Value
returns-in-Value g t c = undone-leaf c.args.book.now c.args.n _ _ c.take_apart.ensures.value c.in-Value.is

pub returns-in-Name : goal.returns-in-Name
returns-in-Name g t c = c.is_undone.ensures ∙ undone-name c.args.book.now c.args.n _ _ c.in-Name.ensures.value

pub returns-then-names_undone : goal.returns-then-names_undone
returns-then-names_undone g t c =
    undone-left c.args.book.now c.args.n _ _ _ _ _ c.in-Sides.ensures.value c.in-Sides.ensures.earlier c.names_undone.ensures c.if-names_undone.true

pub returns-else-names_undone : goal.returns-else-names_undone
returns-else-names_undone g t c =
    undone-right c.args.book.now c.args.n _ _ _ _ _ c.in-Sides.ensures.value c.in-Sides.ensures.earlier c.names_undone.ensures c.if-names_undone.false
    _ c.names_undone-else-names_undone.ensures
