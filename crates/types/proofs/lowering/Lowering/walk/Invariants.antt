use Rattle.std.proofs.Common.{◌≡◌, ◌≤◌}
use Rattle.record.specs.declared.Span.{Span}
use Rattle.types.specs.Code.{state_of}
use Rattle.types.specs.Spots.{resolve_at}
use Rattle.types.proofs.lowering.Lowering.walk.Given as goal

abbrev pub invariant-loop-to : goal.invariant-loop-to
invariant-loop-to g l =
    record {
      falls : l.at.left ≤ l.fn.from.left;
      same :
          (span : Span) →
          resolve_at l.at span (state_of g.row.N g.row.R l.self) ≡ resolve_at l.fn.from span (state_of g.row.N g.row.R l.self);
    }

abbrev pub decreases-loop-to : goal.decreases-loop-to
decreases-loop-to g l = l.at.left
