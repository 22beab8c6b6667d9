-- What the code's resolvers do at the spots that its steps lead to.
-- Assumes nothing.
use Rattle.std.specs.Prelude.{ℕ, Option, Some, None}
use Rattle.record.specs.declared.Span.{Span}
use Rattle.types.specs.declared.resolver.Substitution.{Substitution}
use Rattle.types.specs.declared.spot.Spot.{Spot}
use Rattle.types.specs.Code.{State, Outcome}
use Rattle.types.specs.Walk.{resolve, resolve_inside}

abbrev pub resolve_with : ℕ → ℕ → Option Substitution → Span → State → Outcome ℕ
resolve_with left n None span s = resolve left n span s
resolve_with left n (Some x) span s = resolve_inside left x.parameter x.argument n span s

abbrev pub resolve_at : Spot → Span → State → Outcome ℕ
resolve_at at span s = resolve_with at.left at.n at.inside span s
