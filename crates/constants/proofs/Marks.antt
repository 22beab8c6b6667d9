-- Marks by name: a name that is marked has a place.
-- Assumes nothing.
use Prim.Native.Nat.{ℕ, ◌<◌}
use mathlib.Core.Bool.{Bool, true, false, true≢false}
use mathlib.Core.List.{List}
use mathlib.Core.Path.{◌≡◌, sym, ◌∙◌}
use native.Mathlib.Decide.{dec_lt}
use native.Mathlib.Omega.{arith}
use lib.ListN.{length, get_or, get_or-eq_default}

pub marked_inside : (marks : List Bool) (n : ℕ) → get_or marks n false ≡ true → n < length marks
marked_inside marks n e = go (dec_lt n (length marks))
  where
    go : Dec (n < length marks) → n < length marks
    go (yes less) = less
    go (no over) = absurd (true≢false (sym e ∙ get_or-eq_default marks false (omega arith)))
