-- Which names are stored with which values, told without an order. Words in quotation marks are rules of docs/FORMAT.md
-- in brief.
-- Assumes nothing.
use Rattle.std.specs.Prelude.{ℕ, List, ◌≡◌, ℤ}
use Rattle.std.proofs.Math.Option.{some}
use Rattle.constants.specs.Eval.{Table, eval_const_expr}
use Rattle.constants.specs.Order.{Constant, Way, Reached}

-- "Stored means reached and evaluated over stored values", no constant having a value beforehand: the name n is stored
-- with the value z. The values are those of some table that has stored ones only.
pub data Stored (w : Way) (cs : List Constant) : ℕ → ℤ → Type 0 where
  stored :
      {n : ℕ} {z : ℤ} (c : Constant) (values : Table) →
      c.name ≡ n →
      Reached w cs c →
      ((m : ℕ) (y : ℤ) → values m ≡ some y → Stored w cs m y) →
      eval_const_expr values c.expr ≡ some z →
      Stored w cs n z
