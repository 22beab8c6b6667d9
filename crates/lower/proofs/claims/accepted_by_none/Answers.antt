-- The lemma is the claim.
use Rattle.lower.proofs.Laws.{accepted_by_none}
use Rattle.lower.proofs.claims.accepted_by_none.Goals as goal

pub returns : goal.returns
returns c = accepted_by_none
