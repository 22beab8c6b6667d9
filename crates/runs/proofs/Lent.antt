-- The runs of `lower_lent`, each by computing it.
-- Assumes nothing.
use mathlib.Core.Path.{refl}
use Rattle.lower.specs.Laws.{first_records}
use Rattle.lower.specs.Counters.{counted, counters_after}
use Rattle.lent.specs.Diagnostics.{diagnostic_of}
use Rattle.lent.specs.Lent.{front, lower_lent}
use Rattle.runs.specs.Compute.{computed}
use Rattle.runs.specs.Lent.{LentRuns}

pub lent_runs : LentRuns
unfolding computed counted counters_after first_records diagnostic_of front lower_lent
lent_runs =
    record { accepted_with_four = refl; accepted_with_one = refl; stopped_at_the_fourth = refl; turned_back = refl }
