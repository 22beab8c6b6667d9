-- The lemma is the claim.
use Rattle.constants.proofs.Arrays.{evaluated_as_arrays}
use Rattle.constants.proofs.laws.evaluated_as_arrays.Goals as goal

pub returns : goal.returns
returns c = evaluated_as_arrays
