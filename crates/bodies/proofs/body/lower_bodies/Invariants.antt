use Rattle.std.proofs.Common.{◌≡◌, drop}
use Rattle.types.specs.Code.{state_of}
use Rattle.bodies.specs.Code.{lower_bodies}
use Rattle.bodies.proofs.body.lower_bodies.Given as goal

abbrev pub invariant-loop-at : goal.invariant-loop-at
invariant-loop-at g l =
    record {
      left :
          lower_bodies (drop l.at l.outside) (state_of g.row.N g.row.R l.lowering)
          ≡ lower_bodies l.outside (state_of g.row.N g.row.R l.initial.lowering);
      names : l.lowering.names.ghost_name ≡ l.initial.lowering.names.ghost_name;
      results : l.lowering.results.ghost_name ≡ l.initial.lowering.results.ghost_name;
      diagnostics : l.lowering.diagnostics.ghost_name ≡ l.initial.lowering.diagnostics.ghost_name;
    }
