-- The lemma is the claim.
use Rattle.lower.proofs.Laws.{stopped_by_its_row}
use Rattle.lower.proofs.claims.stopped_by_its_row.Goals as goal

pub returns : goal.returns
returns c = stopped_by_its_row
