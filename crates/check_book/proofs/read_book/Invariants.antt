-- What was read stands at the front of the room; each turn leaves room for fewer.
use Rattle.std.proofs.Common.{◌≡◌, ◌-◌, ◌≤◌, take, length}
use Rattle.std.specs.Io.KnownBytes.{Consumes}
use Rattle.check_book.proofs.read_book.Given as goal

abbrev pub invariant-loop-at : goal.invariant-loop-at
invariant-loop-at g l = record {
  within : l.at ≤ 32769;
  whole : length l.room ≡ 32769;
  bytes : Consumes (g.R.Read.remaining l.fn.reader) (g.R.Read.remaining l.reader) (take l.at l.room);
}

abbrev pub decreases-loop-at : goal.decreases-loop-at
decreases-loop-at g l = 32769 - l.at
