-- The check of a block, from RFC 1071 (the Internet checksum), whose steps (1) and (2) are said here in other words.
-- Assumes nothing.
use Rattle.std.specs.Prelude.{ℕ, ◌+◌, ◌-◌, ◌*◌, ◌/◌, ◌%◌, ◌^◌, ◌<◌, Bool, List, [], ◌∷◌, ◌≡◌, eqb, take, drop, get_or}

-- RFC 1071 (1): neighbouring bytes are paired to 16-bit words, the first of a pair the more significant; an odd last
-- byte is paired with 0
unfoldable pub words : List ℕ → List ℕ
words [] = []
words (a ∷ []) = (256 * a) ∷ []
words (a ∷ b ∷ s) = (256 * a + b) ∷ words s

-- the carry out of 16 bits, added in again at the bottom
abbrev pub once : ℕ → ℕ
once x = x % 65536 + x / 65536

-- RFC 1071 (1): the one's complement sum of the words, whose carry goes round at each addition
unfoldable pub ones_sum : List ℕ → ℕ
ones_sum [] = 0
ones_sum (w ∷ ws) = once (w + ones_sum ws)

-- RFC 1071 (2): the one's complement of that sum, all bits inverted
unfoldable pub checksum : List ℕ → ℕ
checksum ws = 65535 - ones_sum ws

-- the 256 words of block k
unfoldable pub block_words : List ℕ → ℕ → List ℕ
block_words book k = words (take 512 (drop (512 * k) book))

-- the check that block k should carry: over all its words but the last
unfoldable pub block_check : List ℕ → ℕ → ℕ
block_check book k = checksum (take 255 (block_words book k))

-- "the last word equals this"
unfoldable pub check_holds : List ℕ → ℕ → Bool
check_holds book k = eqb (get_or (block_words book k) 255 0) (block_check book k)

-- "add the first 255": the sum with its carries
unfoldable pub total : List ℕ → ℕ
total [] = 0
total (w ∷ ws) = w + total ws

-- a sum of the first 255 words of s: three folds of its carries give their one's complement sum
pub record SumsUp (s : List ℕ) (sum : ℕ) : Type 0 where
  pub folds : once (once (once sum)) ≡ ones_sum (take 255 (words s))
  pub small : sum < 2 ^ 39

-- What is claimed of another way to the same check, "add the first 255, fold carries into 16 bits until none is left,
-- invert all bits": of the sum of the first 255 words none is left after two folds, and the inverted rest is the
-- checksum of RFC 1071. The proof is in proofs/Sums.antt.
abbrev pub FoldedLate : Type 0
FoldedLate =
    (ws : List ℕ) →
    ((k : ℕ) → get_or ws k 0 < 65536) →
    let folded : ℕ = once (once (total (take 255 ws))) in
    (folded < 65536) × (checksum (take 255 ws) ≡ 65535 - folded)
