-- What is left to look at gives the same end, and there are as many constants.
-- Assumes nothing.
use Rattle.std.proofs.Common.{◌≡◌, ◌-◌, length}
use Rattle.constants.specs.Steps.{state_of, ready_from}
use Rattle.constants.proofs.works.Works.first_ready.Given as goal

abbrev pub invariant-loop-i : goal.invariant-loop-i
invariant-loop-i g l =
    (ready_from l.book (l.i-end - l.i) l.i (state_of l.self)
    ≡ ready_from l.book (l.i-end - l.low) l.low (state_of l.initial.self))
    × (length l.self.turns.items ≡ l.i-end)
