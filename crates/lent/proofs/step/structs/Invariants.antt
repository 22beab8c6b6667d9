-- The structs of the first k records have been read, and the others are zero ones.
use Rattle.std.proofs.Common.{◌≡◌, ◌++◌, ◌-◌, replicate}
use Rattle.lent.specs.Diagnostics.{no_diagnostic}
use Rattle.lent.proofs.Structs.{read_up_to}
use Rattle.lent.proofs.step.structs.Given as goal

abbrev pub invariant-loop-k : goal.invariant-loop-k
invariant-loop-k l = l.told ≡ read_up_to l.bytes l.k ++ replicate (256 - l.k) no_diagnostic
