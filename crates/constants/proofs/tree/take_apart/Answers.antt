-- `constants::tree::take_apart` meets its contract: the sides of an operation are earlier records.
-- Assumes nothing.
use Rattle.constants.proofs.Trees.{sides_earlier}
use Rattle.constants.proofs.tree.take_apart.Goals as goal

pub returns-clause-earlier : goal.returns-clause-earlier
returns-clause-earlier c = sides_earlier c.args.n c.record.result c.node_of.result c.node_of.ensures c.record.ensures.earlier
