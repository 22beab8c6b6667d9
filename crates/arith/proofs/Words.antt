-- What a word stands for, and which integers i64 holds: each definition by its halves.
-- Assumes nothing.
use Prim.Native.Nat.{ℕ, suc, ◌-◌, ◌/◌, ◌%◌, ◌^◌, ◌≤◌, ◌<◌}
use mathlib.Core.Option.{some, none}
use mathlib.Core.Path.{◌≡◌, sym, ap, ◌∙◌}
use native.Mathlib.Decide.{dec_le}
use native.Mathlib.Omega.{arith}
use lib.Dec.{leb→le, le→leb}
use lib.IntN.{ℤ, pos, negsuc}
use lib.Signed.{mag, ◌≤ℤ◌}
use mir.Facts.{to_z_pos}
use mir.Syntax.{w64}
use mir.Val.{to_z}
use borrow.Author.Tests.{lt-ltb, le-ltb, le-leb, lt-leb}
use Rattle.arith.specs.Checked.{fitting}
use Rattle.arith.specs.Word.{MIN, MAX, signed, as_i64, word, WordAndBack, IntegerAndBack, SignedIsI64, SignedAsInRattle}

pub signed_low : (w : ℕ) → w < 2 ^ 63 → signed w ≡ pos w
unfolding signed
signed_low w h =
    let r : w % 2 ^ 63 ≡ w = omega arith in
    let q : w / 2 ^ 63 ≡ 0 = omega arith in
    rw (r, q) (ap pos (omega arith))

signed-negsuc : (w : ℕ) → 2 ^ 63 ≤ w → w < 2 ^ 64 → signed w ≡ negsuc (2 ^ 64 - 1 - w)
unfolding signed
signed-negsuc w l h =
    let r : w % 2 ^ 63 ≡ w - 2 ^ 63 = omega arith in
    let q : w / 2 ^ 63 ≡ 1 = omega arith in
    let t : w - 2 ^ 63 < 2 ^ 63 = omega arith in
    rw (r, q, lt-ltb (w - 2 ^ 63) (2 ^ 63) t) (ap negsuc (omega arith))

-- what holds of the words of both halves holds of every word
by_half :
    (P : ℕ → Type 0) →
    ((w : ℕ) → w < 2 ^ 63 → P w) →
    ((w : ℕ) → 2 ^ 63 ≤ w → w < 2 ^ 64 → P w) →
    (w : ℕ) →
    w < 2 ^ 64 →
    P w
by_half P low high w h = go (dec_le (2 ^ 63) w)
  where
    go : Dec (2 ^ 63 ≤ w) → P w
    go (yes l) = high w l h
    go (no l) = low w (omega arith)

-- the cast keeps the bits
pub cast_signed : (x : ℕ) → x < 2 ^ 64 → signed x ≡ as_i64 x
unfolding as_i64
cast_signed =
    by_half (λ x. signed x ≡ as_i64 x)
    (λ x h. rw (lt-ltb x (2 ^ 63) h) (signed_low x h))
    (λ x l h. rw (le-ltb x (2 ^ 63) l, lt-ltb x (2 ^ 64) h) (signed-negsuc x l h ∙ ap negsuc (omega arith)))

pub word_and_back : WordAndBack
unfolding word
word_and_back =
    by_half (λ w. word (signed w) ≡ w)
    (λ w h. ap word (signed_low w h))
    (λ w l h. ap word (signed-negsuc w l h) ∙ omega arith)

pub integer_and_back : IntegerAndBack
unfolding word
integer_and_back (pos n) low high = signed_low n (omega (arith, leb→le n (2 ^ 63 - 1) high.le))
integer_and_back (negsuc n) low high =
    let h : n < 2 ^ 63 = omega (arith, leb→le n (2 ^ 63 - 1) low.le) in
    signed-negsuc (2 ^ 64 - suc n) (omega arith) (omega arith) ∙ ap negsuc (omega arith)

-- the 64 bits of an i64 are 64
pub word_below : (z : ℤ) → MIN ≤ℤ z → z ≤ℤ MAX → word z < 2 ^ 64
unfolding word
word_below (pos n) low high = omega (arith, leb→le n (2 ^ 63 - 1) high.le)
word_below (negsuc n) low high = omega arith

pub signed_is_i64 : SignedIsI64
signed_is_i64 =
    by_half (λ w. (MIN ≤ℤ signed w) × (signed w ≤ℤ MAX))
    (λ w h. rw (signed_low w h) (record { le = tt }, record { le = le→leb w (2 ^ 63 - 1) (omega arith) }))
    (λ w l h. rw (signed-negsuc w l h) (record { le = le→leb (2 ^ 64 - 1 - w) (2 ^ 63 - 1) (omega arith) }, record { le = tt }))

pub signed_as_in_rattle : SignedAsInRattle
signed_as_in_rattle =
    by_half (λ w. signed w ≡ to_z w64 w)
    (λ w h. signed_low w h ∙ sym (to_z_pos w64 h))
    (λ w l h. rw (le-ltb w (2 ^ 63) l) (signed-negsuc w l h ∙ ap negsuc (omega arith)))

-- i64 holds n and -(n + 1) exactly where n is below 2^63
pub fits : (z : ℤ) → mag z < 2 ^ 63 → fitting z ≡ some z
unfolding fitting
fits (pos n) h = rw (le-leb n (2 ^ 63 - 1) (omega arith))
fits (negsuc n) h = rw (le-leb n (2 ^ 63 - 1) (omega arith))

pub over : (z : ℤ) → 2 ^ 63 ≤ mag z → fitting z ≡ none
unfolding fitting
over (pos n) h = rw (lt-leb n (2 ^ 63 - 1) (omega arith))
over (negsuc n) h = rw (lt-leb n (2 ^ 63 - 1) (omega arith))

-- and that is from MIN to MAX
pub within : (z : ℤ) → mag z < 2 ^ 63 → (MIN ≤ℤ z) × (z ≤ℤ MAX)
within (pos n) h = (record { le = tt }, record { le = le→leb n (2 ^ 63 - 1) (omega arith) })
within (negsuc n) h = (record { le = le→leb n (2 ^ 63 - 1) (omega arith) }, record { le = tt })
