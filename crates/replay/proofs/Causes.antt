-- The causes of a header, by their numbers.
-- Assumes nothing.
use Prim.Native.Nat.{ℕ, ◌<◌}
use mathlib.Core.Path.{◌≡◌}
use native.Mathlib.Omega.{arith}
use borrow.Author.Tests.{ne_eqb}
use Rattle.std.specs.Prelude.{None}
use Rattle.record.specs.Refused.{cause_from}
use Rattle.replay.specs.Layout.{cause_numbered}

-- a number of more than one byte is no cause's
pub numbered_far : (n : ℕ) → 255 < n → cause_numbered n ≡ None
unfolding cause_from
numbered_far n far =
    rw (
      ne_eqb n 1 (omega arith),
      ne_eqb n 2 (omega arith),
      ne_eqb n 3 (omega arith),
      ne_eqb n 4 (omega arith),
      ne_eqb n 5 (omega arith),
      ne_eqb n 6 (omega arith),
      ne_eqb n 7 (omega arith),
      ne_eqb n 8 (omega arith),
      ne_eqb n 9 (omega arith),
      ne_eqb n 10 (omega arith),
    )
