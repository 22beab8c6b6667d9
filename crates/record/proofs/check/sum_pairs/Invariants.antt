-- `record::check::sum_pairs` meets its contract. The loop's invariant: a sum of the first 2 k words, below 2^32 for
-- each two.
-- Assumes nothing.
use Prim.Native.Nat.{◌*◌, ◌≤◌}
use Rattle.record.specs.Check.{words}
use Rattle.record.proofs.Sums.{Sum}
use Rattle.record.proofs.check.sum_pairs.Given as goal

abbrev pub invariant-loop-k : goal.invariant-loop-k
invariant-loop-k l = Sum (words l.s) (2 * l.k) l.sum × (l.sum ≤ 4294967296 * l.k)
