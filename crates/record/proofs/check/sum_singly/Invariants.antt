-- `record::check::sum_singly` meets its contract. The loop's invariant: the sum of the first k words, at most 65,535
-- for each.
-- Assumes nothing.
use Prim.Native.Nat.{◌*◌, ◌≤◌}
use Rattle.record.specs.Check.{words}
use Rattle.record.proofs.Sums.{Sum}
use Rattle.record.proofs.check.sum_singly.Given as goal

abbrev pub invariant-loop-k : goal.invariant-loop-k
invariant-loop-k l = Sum (words l.s) l.k l.sum × (l.sum ≤ 65535 * l.k)
