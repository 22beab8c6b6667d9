-- What is left to open gives the same end.
-- Assumes nothing.
use Rattle.std.proofs.Common.{◌≡◌, drop}
use Rattle.constants.specs.Steps.{state_of, opened_all}
use Rattle.constants.proofs.works.Works.open_all.Given as goal

abbrev pub invariant-loop-n : goal.invariant-loop-n
invariant-loop-n g l =
    opened_all g.row.R l.book (drop l.n-index l.declarations) (state_of l.self)
    ≡ opened_all g.row.R l.book l.declarations (state_of l.initial.self)
