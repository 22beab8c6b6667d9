-- Constant tables that a rule fills: what stands in a cell.
-- Assumes nothing.
use Prim.Native.Nat.{ℕ, zero, suc, ◌+◌, ◌<◌}
use mathlib.Core.List.{List, [], ◌∷◌}
use mathlib.Core.Path.{◌≡◌, ap, ◌∙◌}
use native.Mathlib.Omega.{arith}
use lib.ListN.{get_or}

-- the values of a rule at the n numbers from i on
module _ {A : Type 0} where
  abbrev pub tab : (ℕ → A) → ℕ → ℕ → List A
  tab f i zero = []
  tab f i (suc n) = f i ∷ tab f (suc i) n

  tab_from : (f : ℕ → A) (d : A) (i n k : ℕ) → k < n → get_or (tab f i n) k d ≡ f (i + k)
  tab_from f d i zero k less = absurd (omega arith)
  tab_from f d i (suc n) zero less = ap f (omega arith)
  tab_from f d i (suc n) (suc k) less = tab_from f d (suc i) n k (omega arith) ∙ ap f (omega arith)

  -- a table of n cells
  pub cell_at : (f : ℕ → A) (d : A) (n k : ℕ) → k < n → get_or (tab f 0 n) k d ≡ f k
  cell_at f d n k less = tab_from f d 0 n k less ∙ ap f (omega arith)
