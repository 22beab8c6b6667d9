-- What is left to settle gives the same end.
-- Assumes nothing.
use Rattle.std.proofs.Common.{◌≡◌, ◌-◌}
use Rattle.constants.specs.Steps.{state_of, run, settled_from}
use Rattle.constants.proofs.works.Works.settle_all.Given as goal

abbrev pub invariant-loop-turn : goal.invariant-loop-turn
invariant-loop-turn g l =
    settled_from g.row.M l.book (l._turn-end - l._turn) l.low (run (state_of l.self) l.values.values l.order)
    ≡ settled_from g.row.M l.book l._turn-end 0 (run (state_of l.initial.self) l.initial.values.values l.initial.order)
