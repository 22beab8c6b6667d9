-- The lemma is the claim.
use Rattle.replay.proofs.Sames.{agrees_if_equal}
use Rattle.replay.proofs.claims.agrees_if_equal.Goals as goal

pub returns : goal.returns
returns c = agrees_if_equal
