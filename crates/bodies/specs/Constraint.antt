-- Constraints: `lower_where_expr` and `lower_where_operand` of the original. Words in quotation marks are rules of
-- docs/FORMAT.md in brief.
-- Assumes nothing.
use Rattle.std.specs.Prelude.{ℕ, zero, suc, cond, ◌&&◌, eqb}
use Rattle.record.specs.declared.Record.{Record}
use Rattle.book.specs.Faults.{is_kind}
use Rattle.book.specs.Outline.{Book, ◌!◌}
use Rattle.types.specs.Step.{Step, ◌>>=◌, give, emit, bare}

-- a constraint or operand record, its children by their record numbers: `WhereExpr` and `WhereOperand` of the original
pub data WhereExpr : Type 0 where
  -- And, Or: sub, children
  and_or : ℕ → ℕ → ℕ → WhereExpr
  negated : ℕ → WhereExpr
  -- sub, operand, of the length or of the value
  compare : ℕ → ℕ → ℕ → WhereExpr
  -- sub, operands, of the length or of the value
  range : ℕ → ℕ → ℕ → ℕ → WhereExpr
  -- sub, string or name, bits
  operand : ℕ → ℕ → ℕ → WhereExpr

-- "16 (sub 0 Int, 1 Float, 2 String, 3 Bool, 4 Value, 5 reference; [..])"; "Value becomes Int 0"
abbrev lower_where_operand : Record → WhereExpr
lower_where_operand r = cond (eqb r.sub 4) (operand 0 0 0) (operand r.sub r.a r.v)

-- the constraint or operand that a record is, by its kind
unfoldable pub where_expr : Record → WhereExpr
where_expr r =
    cond (is_kind 13 r && eqb r.sub 2) (negated r.a)
    (cond (is_kind 13 r) (and_or r.sub r.a r.b)
    (cond (is_kind 14 r) (compare r.sub r.a r.c)
    (cond (is_kind 15 r) (range r.sub r.a r.b r.c) (lower_where_operand r))))

-- one record, given what is done with its children
unfoldable pub lower_where_by : (ℕ → Step ℕ) → WhereExpr → Step ℕ
lower_where_by child (and_or sub a b) s = (child a >>= λ l. child b >>= λ r. emit (bare 13 sub l r 0 0)) s
lower_where_by child (negated a) s = (child a >>= λ l. emit (bare 13 2 l 0 0 0)) s
lower_where_by child (compare sub a c) s = (child a >>= λ l. emit (bare 14 sub l 0 c 0)) s
lower_where_by child (range sub a b c) s = (child a >>= λ l. child b >>= λ r. emit (bare 15 sub l r c 0)) s
lower_where_by child (operand sub a v) s = emit (bare 16 sub a 0 0 v) s

-- the first `levels` levels of the tree at record n; its root's number. In an accepted book no tree has more than 64.
unfoldable pub lower_where_expr : ℕ → Book → ℕ → Step ℕ
lower_where_expr zero book n s = give 0 s
lower_where_expr (suc levels) book n s = lower_where_by (λ a t. lower_where_expr levels book a t) (where_expr (book ! n)) s
