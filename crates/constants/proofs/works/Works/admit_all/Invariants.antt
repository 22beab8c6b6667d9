-- What is left to admit gives the same end.
-- Assumes nothing.
use Rattle.std.proofs.Common.{◌≡◌, ◌-◌}
use Rattle.constants.specs.Steps.{state_of, admitted_from}
use Rattle.constants.proofs.works.Works.admit_all.Given as goal

abbrev pub invariant-loop-i : goal.invariant-loop-i
invariant-loop-i g l =
    admitted_from l.book (l.i-end - l.i) l.i (state_of l.self)
    ≡ admitted_from l.book l.i-end 0 (state_of l.initial.self)
