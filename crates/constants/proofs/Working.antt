-- Tables that hold one thing everywhere.
-- Assumes nothing.
use Prim.Native.Nat.{ℕ, ◌≤◌, ◌<◌}
use mathlib.Core.Path.{◌≡◌}
use native.Mathlib.Decide.{dec_lt}
use native.Mathlib.Omega.{arith}
use lib.ListN.{length, get_or, replicate, length-replicate, get_or-replicate, get_or-eq_default}

-- every entry is the one that was repeated, also past the end
pub all_alike : {A : Type 0} (most : ℕ) (x : A) (n : ℕ) → get_or (replicate most x) n x ≡ x
all_alike {A} most x n = go (dec_lt n most)
  where
    go : Dec (n < most) → get_or (replicate most x) n x ≡ x
    go (yes less) = get_or-replicate most n x x less
    go (no over) =
        let outside : length (replicate most x) ≤ n = omega (arith, length-replicate most x) in
        get_or-eq_default (replicate most x) x outside
