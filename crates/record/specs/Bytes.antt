-- Numbers as bytes. "Numbers are little-endian."
-- Assumes nothing.
use Rattle.std.specs.Prelude.{ℕ, zero, suc, ◌+◌, ◌*◌, ◌/◌, ◌%◌, ◌<◌, List, [], ◌∷◌, get_or}

-- each element is a byte
pub record AreBytes (s : List ℕ) : Type 0 where
  pub byte : (i : ℕ) → get_or s i 0 < 256

-- the number in the first n bytes of s, least significant first; a byte past the end counts as 0
unfoldable pub little_endian : ℕ → List ℕ → ℕ
little_endian zero s = 0
little_endian (suc n) [] = 0
little_endian (suc n) (b ∷ s) = b + 256 * little_endian n s

-- the n bytes of a number, least significant first
unfoldable pub little_bytes : ℕ → ℕ → List ℕ
little_bytes zero x = []
little_bytes (suc n) x = (x % 256) ∷ little_bytes n (x / 256)
