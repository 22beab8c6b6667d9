-- One step of the code's resolvers.
-- Assumes nothing.
use Rattle.std.proofs.Common.{◌≡◌, ℕ, zero, suc, ◌-◌, ◌<◌, refl, arith, true, Option, Some, None, ◌==◌, eq-eqb}
use Rattle.record.specs.declared.Span.{Span}
use Rattle.record.specs.declared.refusal.Cause.TheVariants.{TooDeep}
use Rattle.types.specs.declared.lowering.TypeExpr.TheVariants.{Name, Generic}
use Rattle.types.specs.declared.lowering.Head.TheVariants.{Alias}
use Rattle.types.specs.declared.names.Generic as generics
use Rattle.types.specs.declared.resolver.Substitution.{Substitution}
use Rattle.types.specs.declared.spot.Spot.{Spot}
use Rattle.types.specs.Code.{State, refuse, type_at, find_head}
use Rattle.types.specs.Spots.{resolve_with, resolve_at}
use Rattle.types.specs.Walk.{by_type, is_parameter, choose, resolve, resolve_inside}

pub resolve-zero : (left n : ℕ) (z : Span) (s : State) → left ≡ 0 → resolve left n z s ≡ refuse TooDeep s
unfolding resolve
resolve-zero left n z s h = rw h refl

pub resolve-step : (left n : ℕ) (z : Span) (s : State) → 0 < left
    → resolve left n z s ≡ by_type (λ a z t. resolve (left - 1) a z t) (λ p x a z t. resolve_inside (left - 1) p x a z t) 4 z s (type_at s.book n)
unfolding resolve
resolve-step zero n z s h = absurd (omega arith)
resolve-step (suc left) n z s h = let e : suc left - 1 ≡ left = omega arith in rw e refl

pub resolve_inside-zero : (left p x n : ℕ) (z : Span) (s : State) → left ≡ 0 → resolve_inside left p x n z s ≡ refuse TooDeep s
unfolding resolve_inside
resolve_inside-zero left p x n z s h = rw h refl

pub resolve_inside-step : (left p x n : ℕ) (z : Span) (s : State) → 0 < left
    → resolve_inside left p x n z s ≡ choose (is_parameter p (type_at s.book n)) (resolve (left - 1) x z s)
    (by_type (λ a z t. resolve_inside (left - 1) p x a z t) (λ p x a z t. resolve_inside (left - 1) p x a z t) 1 z s (type_at s.book n))
unfolding resolve_inside
resolve_inside-step zero p x n z s h = absurd (omega arith)
resolve_inside-step (suc left) p x n z s h = let e : suc left - 1 ≡ left = omega arith in rw e refl

-- the steps that write nothing: to the argument
pub to_argument :
    (at : Spot) (x : Substitution) (name : ℕ) (z : Span) (s : State) → 0 < at.left → at.inside ≡ Some x
    → type_at s.book at.n ≡ Name name → name ≡ x.parameter
    → resolve (at.left - 1) x.argument z s ≡ resolve_at at z s
to_argument at x name z s h inside named is =
    let e : (name == x.parameter) ≡ true = eq-eqb name x.parameter is in
    rw (inside, resolve_inside-step at.left x.parameter x.argument at.n z s h, named, e) refl

-- and to the target of a generic alias
to_target_with :
    (left n : ℕ) (inside : Option Substitution) (name argument : ℕ) (g : generics.Generic) (z : Span) (s : State) → 0 < left
    → type_at s.book n ≡ Generic name argument → find_head name s ≡ Alias g
    → resolve_inside (left - 1) g.parameter argument g.target z s ≡ resolve_with left n inside z s
to_target_with left n None name argument g z s h is head = rw (resolve-step left n z s h, is, head) refl
to_target_with left n (Some x) name argument g z s h is head =
    rw (resolve_inside-step left x.parameter x.argument n z s h, is, head) refl

pub to_target :
    (at : Spot) (name argument : ℕ) (g : generics.Generic) (z : Span) (s : State) → 0 < at.left
    → type_at s.book at.n ≡ Generic name argument → find_head name s ≡ Alias g
    → resolve_inside (at.left - 1) g.parameter argument g.target z s ≡ resolve_at at z s
to_target at name argument g z s h is head = to_target_with at.left at.n at.inside name argument g z s h is head

pub ruleset leads = (to_argument, to_target)

pub ruleset steps = (resolve-zero, resolve-step, resolve_inside-zero, resolve_inside-step)
