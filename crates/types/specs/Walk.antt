-- What the two resolvers of the code do.
-- Assumes nothing.
use Rattle.std.specs.Prelude.{ℕ, zero, suc, Bool, true, false, ◌==◌}
use Rattle.record.specs.declared.kind.Kind.TheVariants.{OverOne, OverTwo}
use Rattle.record.specs.declared.Span.{Span}
use Rattle.record.specs.declared.refusal.Cause.TheVariants.{TooDeep}
use Rattle.record.specs.Made.{bare_record}
use Rattle.book.specs.Outline.{◌!◌}
use Rattle.types.specs.declared.lowering.TypeExpr.{TypeExpr}
use Rattle.types.specs.declared.lowering.TypeExpr.TheVariants.{Plain, Name, Qualified, Generic, One, Two}
use Rattle.types.specs.declared.lowering.Head.{Head}
use Rattle.types.specs.declared.lowering.Head.TheVariants.{Alias, NoAlias, NoNumber}
use Rattle.types.specs.Code.{State, Outcome, refuse, next, emit, poison, type_at, find_head, resolve_name, resolve_qualified}

-- what is done with a child, and with a generic's target
abbrev pub Child : Type 0
Child = ℕ → Span → State → Outcome ℕ

abbrev pub Target : Type 0
Target = ℕ → ℕ → ℕ → Span → State → Outcome ℕ

abbrev pub by_head : Target → ℕ → ℕ → ℕ → Span → Head → State → Outcome ℕ
by_head target unknown name argument span (Alias g) s = target g.parameter argument g.target span s
by_head target unknown name argument span NoAlias s = poison 3 name 0 1 span s
by_head target unknown name argument span NoNumber s = poison unknown name 0 0 span s

abbrev pub by_type : Child → Target → ℕ → Span → State → TypeExpr → Outcome ℕ
by_type child target unknown span s (Plain kind sub a) = emit (bare_record kind sub a 0 0) s
by_type child target unknown span s (Name name) = resolve_name name span s
by_type child target unknown span s (Qualified space name) = resolve_qualified space name span s
by_type child target unknown span s (Generic name argument) =
    by_head target unknown name argument span (find_head name s) s
by_type child target unknown span s (One sub size a) =
    next (child a (s.book ! a).span s) (λ n t. emit (bare_record OverOne sub n 0 size) t)
by_type child target unknown span s (Two sub a b) =
    next (child a (s.book ! a).span s) (λ one t.
    next (child b (t.book ! b).span t) (λ other u. emit (bare_record OverTwo sub one other 0) u))

-- the record is the parameter
abbrev pub is_parameter : ℕ → TypeExpr → Bool
is_parameter parameter (Name name) = name == parameter
is_parameter parameter (Plain kind sub a) = false
is_parameter parameter (Qualified space name) = false
is_parameter parameter (Generic name argument) = false
is_parameter parameter (One sub size a) = false
is_parameter parameter (Two sub a b) = false

abbrev pub choose : Bool → Outcome ℕ → Outcome ℕ → Outcome ℕ
choose true a b = a
choose false a b = b

unfoldable mutual
  pub resolve : ℕ → Child
  resolve zero n span s = refuse TooDeep s
  resolve (suc left) n span s =
      by_type (λ a z t. resolve left a z t) (λ p x a z t. resolve_inside left p x a z t) 4 span s (type_at s.book n)

  -- the same inside a generic's target
  pub resolve_inside : ℕ → Target
  resolve_inside zero parameter argument n span s = refuse TooDeep s
  resolve_inside (suc left) parameter argument n span s =
      choose
      (is_parameter parameter (type_at s.book n))
      (resolve left argument span s)
      (by_type
      (λ a z t. resolve_inside left parameter argument a z t)
      (λ p x a z t. resolve_inside left p x a z t)
      1
      span
      s
      (type_at s.book n))

-- the type of a declaration or an item
abbrev pub walked : ℕ → State → Outcome ℕ
walked n s = resolve 64 n (s.book ! n).span s
