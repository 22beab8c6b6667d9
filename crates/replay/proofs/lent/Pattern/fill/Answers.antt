-- Each byte is set as it is lent.
use Rattle.std.proofs.Common.{arith}
use Rattle.replay.proofs.Patterns.{pattern_none, pattern_on}
use Rattle.replay.proofs.lent.Pattern.fill.Goals as goal

pub loop-i-init : goal.loop-i-init
loop-i-init c = pattern_none c.args.self.step c.args.self.first c.args.s.now

pub loop-i-preserved : goal.loop-i-preserved
loop-i-preserved c = pattern_on c.args.self.step c.args.self.first c.loop-i.s c.loop-i.i (omega arith) c.loop-i.invariant c.byte.ensures
