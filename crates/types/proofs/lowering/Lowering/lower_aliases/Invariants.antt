use Rattle.std.proofs.Common.{◌≡◌, drop}
use Rattle.types.specs.Code.{state_of}
use Rattle.types.specs.PlainAliases.{lower_aliases}
use Rattle.types.proofs.lowering.Lowering.lower_aliases.Given as goal

abbrev pub invariant-loop-n : goal.invariant-loop-n
invariant-loop-n g l =
    record {
      left :
          lower_aliases (drop l.n-index l.declarations) (state_of g.row.N g.row.R l.self)
          ≡ lower_aliases l.declarations (state_of g.row.N g.row.R l.initial.self);
      names : l.self.names.ghost_name ≡ l.initial.self.names.ghost_name;
      results : l.self.results.ghost_name ≡ l.initial.self.results.ghost_name;
      diagnostics : l.self.diagnostics.ghost_name ≡ l.initial.self.diagnostics.ghost_name;
    }
