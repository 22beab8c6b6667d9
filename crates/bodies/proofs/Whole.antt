-- 64 levels are the whole tree of a constraint: what a record gives depends on what its children give, and on no other
-- record.
-- Assumes nothing.
use Prim.Native.Nat.{ℕ, ◌<◌}
use mathlib.Core.Bool.{true}
use mathlib.Core.Logic.{◌⊎◌, inl, inr}
use mathlib.Core.Path.{◌≡◌, refl, ap}
use native.Mathlib.Omega.{arith}
use lib.Dec.{eqb}
use borrow.Author.Tests.{eq-eqb}
use Rattle.record.specs.declared.Record.{Record}
use Rattle.book.specs.Lists.{All, keep}
use Rattle.book.specs.Shape.{Group, constraint, table, Child, child_in, children, is_of}
use Rattle.book.specs.Outline.{◌!◌}
use Rattle.book.proofs.Lists.{either}
use Rattle.book.proofs.Trees.{by_rows, whole}
use Rattle.types.specs.Step.{Step, ◌>>=◌, emit, bare}
use Rattle.bodies.specs.Constraint.{WhereExpr, and_or, negated, compare, range, operand, where_expr, lower_where_by, lower_where_expr}
use Rattle.bodies.specs.Whole.{WholeConstraints}

-- a constraint or an operand
abbrev pub Of : Record → Type 0
Of r = (is_of constraint r ≡ true) ⊎ (is_of Group.operand r ≡ true)

low : (r : Record) → Of r → r.kind < 20
unfolding keep table
low r (inl is) = by_rows (λ r cs. r.kind < 20) constraint r is (omega arith)
low r (inr is) = by_rows (λ r cs. r.kind < 20) Group.operand r is (omega arith)

-- two steps for the children of a record
module _ (f g : ℕ → Step ℕ) where
  -- they are the same for the children that stand in this one
  abbrev Agree : WhereExpr → Type 0
  Agree (and_or sub a b) = (f a ≡ g a) × (f b ≡ g b)
  Agree (negated a) = f a ≡ g a
  Agree (compare sub a c) = f a ≡ g a
  Agree (range sub a b c) = (f a ≡ g a) × (f b ≡ g b)
  Agree (operand sub a v) = Unit

  same : (e : WhereExpr) → Agree e → lower_where_by f e ≡ lower_where_by g e
  unfolding lower_where_by
  same (and_or sub a b) (p, q) = λ i. p i >>= λ l. q i >>= λ r. emit (bare 13 sub l r 0 0)
  same (negated a) p = λ i. p i >>= λ l. emit (bare 13 2 l 0 0 0)
  same (compare sub a c) p = λ i. p i >>= λ l. emit (bare 14 sub l 0 c 0)
  same (range sub a b c) (p, q) = λ i. p i >>= λ l. q i >>= λ r. emit (bare 15 sub l r c 0)
  same (operand sub a v) p = refl

  -- they are, if they are the same for all children of the record. The rows: And and Or, Not, comparison, range; five
  -- of operands
  agree :
      (P : Child → Type 0) →
      ((n : ℕ) → P (record { group = constraint; number = n }) → f n ≡ g n) →
      ((n : ℕ) → P (record { group = Group.operand; number = n }) → f n ≡ g n) →
      (r : Record) → Of r → All P (children r) → Agree (where_expr r)
  unfolding keep table child_in where_expr
  agree P c o r (inl is) =
      by_rows (λ r cs. All P cs → Agree (where_expr r)) constraint r is (
        λ l h p. either Agree (eqb r.sub 2) (c _ p.0) (c _ p.0, c _ p.1.0),
        (λ l h p. rw (eq-eqb r.sub 2 (omega arith)) (c _ p.0), (λ l h p. o _ p.0, (λ l h p. (o _ p.0, o _ p.1.0), tt))),
      )
  agree P c o r (inr is) =
      let leaf = either Agree (eqb r.sub 4) tt tt in
      by_rows (λ r cs. All P cs → Agree (where_expr r)) Group.operand r is
      (λ l h p. leaf, (λ l h p. leaf, (λ l h p. leaf, (λ l h p. leaf, (λ l h p. leaf, tt)))))

pub whole_constraints : WholeConstraints
unfolding lower_where_expr
whole_constraints book sound n less is more s =
    ap (λ m. m s)
    (whole book.records Of (λ d. lower_where_expr d book) sound low
    (λ d e n is p. same _ _ _ (agree _ _ _ (λ m h. h.1 (inl h.0)) (λ m h. h.1 (inr h.0)) (book ! n) is p))
    n less is more)
