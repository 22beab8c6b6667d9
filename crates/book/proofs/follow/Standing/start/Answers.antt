-- `book::follow::Standing::start` meets its contract: with no record before, all that is known is that there is none.
-- Assumes nothing.
use Rattle.book.proofs.Places.{placed_start}
use Rattle.book.proofs.follow.Standing.start.Goals as goal

pub returns : goal.returns
returns c = placed_start
