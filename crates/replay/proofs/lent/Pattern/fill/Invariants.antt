-- The first i bytes are as lent.
use Rattle.std.proofs.Common.{◌≡◌, take}
use Rattle.replay.specs.Lent.{patterned}
use Rattle.replay.proofs.lent.Pattern.fill.Given as goal

abbrev pub invariant-loop-i : goal.invariant-loop-i
invariant-loop-i l = take l.i l.s ≡ patterned l.i l.self.step l.self.first
