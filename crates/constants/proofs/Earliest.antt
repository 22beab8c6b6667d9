-- The first of a list that passes a test, by its number.
-- Assumes nothing.
use Prim.Native.Nat.{ℕ, zero, suc, ◌<◌}
use mathlib.Core.Bool.{Bool, true, false}
use mathlib.Core.List.{List, [], ◌∷◌}
use mathlib.Core.Option.{some, none}
use mathlib.Core.Path.{◌≡◌, refl, ◌∙◌}
use native.Mathlib.Omega.{arith}
use lib.ListN.{length, get_or}
use Rattle.book.specs.Lists.{find}
use Rattle.book.proofs.Scans.{find_hit, find_miss}

-- the first that passes, by its number
module _ {A : Type 0} (test : A → Bool) (d : A) where
  pub find_at :
      (l : List A) (i : ℕ) → i < length l → ((j : ℕ) → j < i → test (get_or l j d) ≡ false) → test (get_or l i d) ≡ true →
      find test l ≡ some (get_or l i d)
  find_at [] i less before here = absurd (omega arith)
  find_at (x ∷ l) zero less before here = find_hit test x l here
  find_at (x ∷ l) (suc i) less before here =
      find_miss test x l (before 0 (omega arith)) ∙ find_at l i (omega arith) (λ j h. before (suc j) (omega arith)) here

  pub find_past : (l : List A) → ((j : ℕ) → j < length l → test (get_or l j d) ≡ false) → find test l ≡ none
  unfolding find
  find_past [] before = refl
  find_past (x ∷ l) before =
      find_miss test x l (before 0 (omega arith)) ∙ find_past l (λ j h. before (suc j) (omega arith))
