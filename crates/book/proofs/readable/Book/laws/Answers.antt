use Rattle.std.proofs.Common.{subst}
use Rattle.book.specs.Accepted.{IsRead}
use Rattle.book.proofs.Below.{held_is_read}
use Rattle.book.proofs.readable.Book.laws.Goals as goal

pub returns : goal.returns
returns c = subst IsRead c.self.view_is (held_is_read c.self.invariant)
