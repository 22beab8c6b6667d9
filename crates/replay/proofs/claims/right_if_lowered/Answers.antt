-- The lemma is the claim.
use Rattle.replay.proofs.Founds.{right_if_lowered}
use Rattle.replay.proofs.claims.right_if_lowered.Goals as goal

pub returns : goal.returns
returns c = right_if_lowered
