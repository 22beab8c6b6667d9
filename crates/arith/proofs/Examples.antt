-- The definitions at work: the examples that the standard library's documentation gives for each operation, and those
-- of docs/FORMAT.md.
-- Assumes nothing.
use Prim.Native.Nat.{◌^◌, ◌-◌}
use mathlib.Core.Option.{some, none}
use mathlib.Core.Path.{◌≡◌, refl}
use lib.IntN.{pos, negsuc, ◌+ℤ◌, ◌-ℤ◌}
use Rattle.arith.specs.Checked.{fitting, checked_add, checked_sub, checked_mul, checked_div}
use Rattle.arith.specs.Word.{MIN, MAX, as_i64}

-- (i64::MAX - 2).checked_add(1) == Some(i64::MAX - 1), (i64::MAX - 2).checked_add(3) == None
add : (checked_add (MAX -ℤ pos 2) (pos 1) ≡ some (MAX -ℤ pos 1)) × (checked_add (MAX -ℤ pos 2) (pos 3) ≡ none)
unfolding checked_add fitting
add = (refl, refl)

-- (i64::MIN + 2).checked_sub(1) == Some(i64::MIN + 1), (i64::MIN + 2).checked_sub(3) == None
sub : (checked_sub (MIN +ℤ pos 2) (pos 1) ≡ some (MIN +ℤ pos 1)) × (checked_sub (MIN +ℤ pos 2) (pos 3) ≡ none)
unfolding checked_sub fitting
sub = (refl, refl)

-- i64::MAX.checked_mul(1) == Some(i64::MAX), i64::MAX.checked_mul(2) == None
mul : (checked_mul MAX (pos 1) ≡ some MAX) × (checked_mul MAX (pos 2) ≡ none)
unfolding checked_mul fitting
mul = (refl, refl)

-- (i64::MIN + 1).checked_div(-1) == Some(i64::MAX), i64::MIN.checked_div(-1) == None, (1i64).checked_div(0) == None
div : (checked_div (MIN +ℤ pos 1) (negsuc 0) ≡ some MAX) × (checked_div MIN (negsuc 0) ≡ none) × (checked_div (pos 1) (pos 0) ≡ none)
unfolding checked_div fitting
div = (refl, refl, refl)

-- K2 9223372036854775807 + 1, K4 -9223372036854775808 ÷ -1: none. K5 -7 ÷ 2: -3, and the other signs
overflow : (checked_add (pos 9223372036854775807) (pos 1) ≡ none) × (checked_div (negsuc 9223372036854775807) (negsuc 0) ≡ none)
unfolding checked_add checked_div fitting
overflow = (refl, refl)

fraction : (checked_div (negsuc 6) (pos 2) ≡ some (negsuc 2)) × (checked_div (pos 7) (negsuc 1) ≡ some (negsuc 2)) × (checked_div (negsuc 6) (negsuc 1) ≡ some (pos 3))
unfolding checked_div fitting
fraction = (refl, refl, refl)

-- K3 UInt 9223372036854775808: -9223372036854775808; the neighbours, and the word of all ones
cast : (as_i64 9223372036854775808 ≡ negsuc 9223372036854775807) × (as_i64 9223372036854775807 ≡ MAX) × (as_i64 (2 ^ 64 - 1) ≡ negsuc 0)
unfolding as_i64
cast = (refl, refl, refl)
