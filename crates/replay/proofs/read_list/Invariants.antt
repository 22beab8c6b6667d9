-- Each answer so far is counted.
use Rattle.std.proofs.Common.{◌≡◌}
use Rattle.replay.proofs.read_list.Given as goal

abbrev pub invariant-loop-k : goal.invariant-loop-k
invariant-loop-k g l = l.totals.answers ≡ l._k
