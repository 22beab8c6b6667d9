-- `constants::works::Works::list_names` meets its contract, by the record at the top of the expression.
-- Assumes nothing.
use Rattle.constants.proofs.Walks.{listed-leaf, listed-name, listed-sides}
use Rattle.constants.proofs.works.Works.+list_names.Goals as goal

pub returns-in-Value : goal.returns-in-Value
returns-in-Value g t c = listed-leaf c.args.book.now c.args.n c.args.by _ c.take_apart.ensures.value c.in-Value.is _

pub returns-in-Name : goal.returns-in-Name
returns-in-Name g t c = listed-name c.args.book.now c.args.n c.args.by _ _ _ c.in-Name.ensures.value c.put_name.ensures

pub returns-in-Sides : goal.returns-in-Sides
returns-in-Sides g t c =
    listed-sides c.args.book.now c.args.n c.args.by _ _ _ _ _ _ c.in-Sides.ensures.value c.in-Sides.ensures.earlier c.list_names.ensures c.list_names-in-Sides.ensures
