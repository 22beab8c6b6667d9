-- `record::write::copy` meets its contract. The loop's invariant: the bytes before i are copied.
-- Assumes nothing.
use Rattle.std.proofs.Common.{◌≡◌, ℕ, ◌<◌, get_or}
use Rattle.record.proofs.write.copy.Given as goal

abbrev pub invariant-loop-i : goal.invariant-loop-i
invariant-loop-i l = (k : ℕ) → k < l.i → get_or l.part k 0 ≡ get_or l.bytes k 0
