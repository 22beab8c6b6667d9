-- Lists by a test, and numbers below a bound.
-- Assumes nothing.
use Rattle.std.specs.Prelude.{ℕ, zero, suc, Bool, true, false, cond, List, [], ◌∷◌}
use Rattle.std.proofs.Math.Option.{Option, some, none}

module _ {A : Type 0} where
  -- each element has a property
  abbrev pub All : (A → Type 0) → List A → Type 0
  All P [] = Unit
  All P (x ∷ xs) = P x × All P xs

  -- some element passes
  unfoldable pub any : (A → Bool) → List A → Bool
  any test [] = false
  any test (x ∷ xs) = elim (test x) [ true ↦ true | false ↦ any test xs ]

  -- the first element that passes
  unfoldable pub find : (A → Bool) → List A → Option A
  find test [] = none
  find test (x ∷ xs) = elim (test x) [ true ↦ some x | false ↦ find test xs ]

  -- element n, if there is one
  unfoldable pub at : List A → ℕ → Option A
  at [] n = none
  at (x ∷ l) zero = some x
  at (x ∷ l) (suc n) = at l n

  -- the elements that pass, in their order
  unfoldable pub keep : (A → Bool) → List A → List A
  keep test [] = []
  keep test (x ∷ xs) =
      let rest : List A = keep test xs in
      cond (test x) (x ∷ rest) rest

  -- the elements up to the first that does not pass
  unfoldable pub keep_while : (A → Bool) → List A → List A
  keep_while test [] = []
  keep_while test (x ∷ xs) = cond (test x) (x ∷ keep_while test xs) []

  -- the elements with their numbers, from n on
  unfoldable pub numbered_from : ℕ → List A → List (ℕ × A)
  numbered_from n [] = []
  numbered_from n (x ∷ xs) = (n, x) ∷ numbered_from (suc n) xs

-- the m numbers from n on
unfoldable pub from : ℕ → ℕ → List ℕ
from n zero = []
from n (suc m) = n ∷ from (suc n) m

-- the numbers below n
abbrev pub up_to : ℕ → List ℕ
up_to n = from 0 n
