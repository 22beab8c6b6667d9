use Rattle.std.proofs.Common.{refl}
use Rattle.record.proofs.Pushes.{shown-blank}
use Rattle.types.proofs.lowering.Lowering.new.Goals as goal

pub returns-clause-state : goal.returns-clause-state
returns-clause-state g c = rw (shown-blank c.args.results.now 2048, shown-blank c.args.diagnostics.now 256) refl
