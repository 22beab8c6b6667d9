-- The value of an expression: `eval_const_expr` of the original. Words in quotation marks are rules of docs/FORMAT.md
-- in brief.
-- Assumes nothing.
use Rattle.std.specs.Prelude.{ℕ, cond, eqb, ℤ}
use Rattle.std.proofs.Math.Option.{Option, some, none}
use Rattle.arith.specs.Word.{signed, as_i64}
use Rattle.arith.specs.Checked.{checked_add, checked_sub, checked_mul, checked_div}
use Rattle.constants.specs.Expr.{Literal, int, uint, float, hex, bool}
use Rattle.constants.specs.Expr.{Op, add, sub, mul, div, eq, ne, lt, le, gt, ge}
use Rattle.constants.specs.Expr.{Expr, literal, reference, operation}

-- the values of names
abbrev pub Table : Type 0
Table = ℕ → Option ℤ

-- no name has a value
abbrev pub empty : Table
empty n = none

-- a value is stored; none leaves the table
unfoldable pub store : Table → ℕ → Option ℤ → Table
store t name none m = t m
store t name (some z) m = cond (eqb m name) (some z) (t m)

-- "UInt and Hex cast to i64; Float, Bool [..] give none"
unfoldable pub literal_value : Literal → ℕ → Option ℤ
literal_value int v = some (signed v)
literal_value uint v = some (as_i64 v)
literal_value hex v = some (as_i64 v)
literal_value float v = none
literal_value bool v = none

-- "comparisons, zero divisors and overflow give none. Division drops the fraction."
unfoldable pub apply : Op → ℤ → ℤ → Option ℤ
apply add x y = checked_add x y
apply sub x y = checked_sub x y
apply mul x y = checked_mul x y
apply div x y = checked_div x y
apply eq x y = none
apply ne x y = none
apply lt x y = none
apply le x y = none
apply gt x y = none
apply ge x y = none

-- both sides have to have a value
unfoldable pub apply_to : Op → Option ℤ → Option ℤ → Option ℤ
apply_to o none y = none
apply_to o (some x) none = none
apply_to o (some x) (some y) = apply o x y

-- the value of an expression over the values of names; a name that has none gives none
unfoldable pub eval_const_expr : Table → Expr → Option ℤ
eval_const_expr t (literal l v) = literal_value l v
eval_const_expr t (reference n) = t n
eval_const_expr t (operation o l r) = apply_to o (eval_const_expr t l) (eval_const_expr t r)
