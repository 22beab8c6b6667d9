-- Checked arithmetic of i64, as the standard library documents `i64::checked_add` and its kin: an exact result over the
-- integers, given where i64 holds it.
-- Assumes nothing.
use Rattle.std.specs.Prelude.{cond, ◌&&◌, eqb, ℤ, ◌+ℤ◌, ◌-ℤ◌, ◌*ℤ◌, nat_abs, Option as Answer, Some, None}
use Rattle.std.proofs.Math.Option.{Option, some, none}
use Rattle.std.specs.Int.Signed.{le_z, quot_z}
use Rattle.arith.specs.Word.{MIN, MAX}

-- "returning None if overflow occurred"
unfoldable pub fitting : ℤ → Option ℤ
fitting z = cond (le_z MIN z && le_z z MAX) (some z) none

unfoldable pub checked_add : ℤ → ℤ → Option ℤ
checked_add x y = fitting (x +ℤ y)

unfoldable pub checked_sub : ℤ → ℤ → Option ℤ
checked_sub x y = fitting (x -ℤ y)

unfoldable pub checked_mul : ℤ → ℤ → Option ℤ
checked_mul x y = fitting (x *ℤ y)

-- "returning None if rhs == 0 or the division results in overflow". `quot_z` is rounded toward zero, as the Rust
-- Reference says of `/` ("Integer division rounds towards zero"), so only MIN / -1 overflows.
unfoldable pub checked_div : ℤ → ℤ → Option ℤ
checked_div x y = cond (eqb (nat_abs y) 0) none (fitting (quot_z x y))

-- what an answer of the code says: the integer, or that there is none
abbrev pub answer : Answer ℤ → Option ℤ
answer (Some z) = some z
answer None = none
