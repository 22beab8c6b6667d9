-- 64 levels are the whole tree of an expression: what a record gives depends on what its children give, and on no other
-- record.
-- Assumes nothing.
use Prim.Native.Nat.{ℕ, ◌<◌}
use mathlib.Core.Bool.{true}
use mathlib.Core.List.{List}
use mathlib.Core.Path.{◌≡◌, refl, sym}
use native.Mathlib.Omega.{arith}
use lib.ListN.{length}
use Rattle.record.specs.declared.Record.{Record}
use Rattle.book.specs.Lists.{All, keep}
use Rattle.book.specs.Shape.{constant, table, Child, child_in, children, is_of}
use Rattle.book.specs.Faults.{record_of}
use Rattle.book.specs.Trees.{WellFormed}
use Rattle.book.proofs.Trees.{by_rows, whole}
use Rattle.constants.specs.Expr.{Expr, operation, op_of, expr_of, expr_at}
use Rattle.constants.specs.Whole.{WholeExpressions}

low : (r : Record) → is_of constant r ≡ true → r.kind < 20
unfolding keep table
low r is = by_rows (λ r cs. r.kind < 20) constant r is (omega arith)

-- two ways to trees that agree on the children of the record. The rows: two of literals, references, operations
same :
    (f g : ℕ → Expr) (P : Child → Type 0) → ((n : ℕ) → P (record { group = constant; number = n }) → f n ≡ g n) →
    (r : Record) → is_of constant r ≡ true → All P (children r) → expr_of f r ≡ expr_of g r
unfolding keep table child_in expr_of
same f g P agree r is =
    by_rows (λ r cs. All P cs → expr_of f r ≡ expr_of g r) constant r is (
      λ l h p. refl,
      (λ l h p. refl, (λ l h p. refl, (λ l h p i. operation (op_of r.sub) (agree _ p.0 i) (agree _ p.1.0 i), tt))),
    )

pub whole_expressions : WholeExpressions
unfolding expr_at
whole_expressions rs sound =
    whole rs (λ r. is_of constant r ≡ true) (λ d. expr_at d rs) sound low
    (λ d e n. same (expr_at d rs) (expr_at e rs) _ (λ m h. h.1 h.0) (record_of rs n))

-- so it is what its record gives, from the whole trees of its children
pub one_more_lem :
    (rs : List Record) → WellFormed rs → (n : ℕ) → n < length rs → is_of constant (record_of rs n) ≡ true →
    expr_at 64 rs n ≡ expr_of (expr_at 64 rs) (record_of rs n)
unfolding expr_at
one_more_lem rs sound n less is = sym (whole_expressions rs sound n less is 1)
