-- The lemma is the claim.
use Rattle.types.proofs.Agreeing.{registers_as_defined}
use Rattle.types.proofs.laws.registers_as_defined.Goals as goal

pub returns : goal.returns
returns c = registers_as_defined
