use Rattle.bodies.proofs.Agreeing as lemmas
use Rattle.bodies.proofs.laws.lowers_as_defined.Goals as goal

pub returns : goal.returns
returns c = lemmas.lowers_as_defined
