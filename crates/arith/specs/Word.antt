-- The integer type i64, and the integer that a word of 64 bits stands for when it is read as one.
-- Assumes nothing.
use Rattle.std.specs.Prelude.{ℕ, suc, ◌-◌, ◌*◌, ◌/◌, ◌%◌, ◌^◌, ◌<◌, cond, ◌≡◌, ltb, ℤ, pos, negsuc, ◌-ℤ◌, ◌≤ℤ◌}
use Rattle.std.specs.Int.{w64}
use Rattle.std.proofs.Common.{to_z}

-- i64::MIN and i64::MAX: -2^63 and 2^63 - 1 (the Rust Reference, "Numeric types")
abbrev pub MIN : ℤ
MIN = pos 0 -ℤ pos (2 ^ 63)

abbrev pub MAX : ℤ
MAX = pos (2 ^ 63) -ℤ pos 1

-- two's complement: of the 64 bits of w the lower 63 weigh 2^0 to 2^62, and the top one -2^63
unfoldable pub signed : ℕ → ℤ
signed w = pos (w % 2 ^ 63) -ℤ pos (2 ^ 63 * (w / 2 ^ 63))

-- `x as i64` for a u64 x: x where i64 holds it, else x - 2^64. "Casting between two integers of the same size (e.g. i32
-- -> u32) is a no-op (Rust uses 2's complement for negative values of fixed integers)": the Rust Reference, "Type cast
-- expressions".
unfoldable pub as_i64 : ℕ → ℤ
as_i64 x = cond (ltb x (2 ^ 63)) (pos x) (pos x -ℤ pos (2 ^ 64))

-- the 64 bits of an i64: z, or z + 2^64 where z is negative
unfoldable pub word : ℤ → ℕ
word (pos n) = n
word (negsuc n) = 2 ^ 64 - suc n

-- What is claimed of these; the proofs are in proofs/Words.antt. A word is known by the integer that it stands for, so
-- a promise over the integers leaves no bit open.
abbrev pub WordAndBack : Type 0
WordAndBack = (w : ℕ) → w < 2 ^ 64 → word (signed w) ≡ w

abbrev pub IntegerAndBack : Type 0
IntegerAndBack = (z : ℤ) → MIN ≤ℤ z → z ≤ℤ MAX → signed (word z) ≡ z

-- a word stands for an integer that i64 holds
abbrev pub SignedIsI64 : Type 0
SignedIsI64 = (w : ℕ) → w < 2 ^ 64 → (MIN ≤ℤ signed w) × (signed w ≤ℤ MAX)

-- Rattle itself reads the bits of an i64 in the same way
abbrev pub SignedAsInRattle : Type 0
SignedAsInRattle = (w : ℕ) → w < 2 ^ 64 → signed w ≡ to_z w64 w
