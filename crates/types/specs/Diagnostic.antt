-- What every diagnostic record has. Words in quotation marks are rules of docs/FORMAT.md in brief.
-- Assumes nothing.
use Rattle.std.specs.Prelude.{◌≤◌, ◌≡◌}
use Rattle.record.specs.declared.Record.{Record}

-- "Diagnostic 50: sub message; a name, in message 2 namespace and b name; v 0 `UnresolvedType`, 1 `AliasTargetNotFound`
-- (message 3), 2 `ConstRefNotFound` (message 5)"; c is unused
pub record IsDiagnostic (r : Record) : Type 0 where
  pub kind : r.kind ≡ 50
  pub class : r.v ≤ 2
  pub unused : r.c ≡ 0
