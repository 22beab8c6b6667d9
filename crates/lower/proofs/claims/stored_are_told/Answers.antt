-- The lemma is the claim.
use Rattle.lower.proofs.Told.{stored_are_told}
use Rattle.lower.proofs.claims.stored_are_told.Goals as goal

pub returns : goal.returns
returns c = stored_are_told
