use Rattle.std.proofs.Common.{◌≡◌, drop}
use Rattle.types.specs.Code.{state_of}
use Rattle.bodies.specs.Code.{lower_constants}
use Rattle.bodies.proofs.reached.lower_constants.Given as goal

abbrev pub invariant-loop-constant : goal.invariant-loop-constant
invariant-loop-constant g l =
    record {
      left :
          lower_constants (drop l.constant-index l.settled) (state_of g.row.N g.row.R l.lowering)
          ≡ lower_constants l.settled (state_of g.row.N g.row.R l.initial.lowering);
      names : l.lowering.names.ghost_name ≡ l.initial.lowering.names.ghost_name;
      results : l.lowering.results.ghost_name ≡ l.initial.lowering.results.ghost_name;
      diagnostics : l.lowering.diagnostics.ghost_name ≡ l.initial.lowering.diagnostics.ghost_name;
    }
