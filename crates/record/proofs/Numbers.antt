-- Little-endian numbers, for every width: read in two parts, read back from their bytes, and their bytes read back.
-- Assumes nothing.
use Prim.Native.Nat.{ℕ, zero, suc, ◌+◌, ◌*◌, ◌/◌, ◌%◌, ◌^◌, ◌≤◌, ◌<◌}
use mathlib.Core.List.{List, [], ◌∷◌, ◌++◌}
use mathlib.Core.Path.{◌≡◌, refl, sym, ap, ◌∙◌}
use native.Mathlib.Nat.{zero-add, add-zero, suc-add, pow-suc, one-le-pow, div-lt_iff_lt-mul}
use native.Mathlib.Omega.{arith}
use lib.Dec.{lit<, lit≤}
use lib.ListN.{length, take, drop, get_or, get_or-eq_default}
use lib.Seq.{get_or-drop, drop-drop}
use Rattle.record.specs.Bytes.{AreBytes, little_endian, little_bytes}

behind : {b : ℕ} {s : List ℕ} → AreBytes (b ∷ s) → AreBytes s
behind each = record { byte = λ i. each.byte (suc i) }

pub none_there : (n : ℕ) → little_endian n [] ≡ 0
unfolding little_endian
none_there zero = refl
none_there (suc n) = refl

-- one byte is what stands at the front
pub one_there : (s : List ℕ) → little_endian 1 s ≡ get_or s 0 0
unfolding little_endian
one_there [] = refl
one_there (b ∷ s) = omega arith

-- and 0 where nothing stands there
pub one_absent : (s : List ℕ) → length s ≤ 0 → little_endian 1 s ≡ 0
one_absent s gone = one_there s ∙ get_or-eq_default s 0 gone

-- the first m + n bytes are the first m and, 256^m times as heavy, the n behind them
pub parts : (m n : ℕ) (s : List ℕ) → little_endian (m + n) s ≡ little_endian m s + 256 ^ m * little_endian n (drop m s)
unfolding little_endian
parts zero n s = rw (zero-add n) (omega arith)
parts (suc m) n [] = rw (suc-add m n, none_there n) (omega arith)
parts (suc m) n (b ∷ s) = rw (suc-add m n, parts m n s, pow-suc 256 m) (omega arith)

-- x is below 256^n: its n bytes give it back, whatever stands behind them
pub read_back : (n x : ℕ) (s : List ℕ) → x < 256 ^ n → little_endian n (little_bytes n x ++ s) ≡ x
unfolding little_endian little_bytes
read_back zero x s h = omega arith
read_back (suc n) x s h =
    let less : x < 256 ^ n * 256 = rw (pow-suc 256 n) at h in
    let left : x / 256 < 256 ^ n = (div-lt_iff_lt-mul (lit< tt)).1 less in
    rw (read_back n (x / 256) s left) (omega arith)

-- the bytes of the number that n bytes make are those bytes
pub bytes_back : (n : ℕ) (s : List ℕ) → AreBytes s → n ≤ length s → little_bytes n (little_endian n s) ≡ take n s
unfolding little_endian little_bytes
bytes_back zero s each h = refl
bytes_back (suc n) [] each h = absurd (omega arith)
bytes_back (suc n) (b ∷ s) each h =
    let x = little_endian n s in
    let byte : b < 256 = each.byte 0 in
    let low : (b + 256 * x) % 256 ≡ b = omega arith in
    let high : (b + 256 * x) / 256 ≡ x = omega arith in
    rw (low, high) (ap (λ (t : List ℕ). b ∷ t) (bytes_back n s (behind each) (omega arith)))

-- two numbers of k bytes that stand one behind the other are one of k + k
pub halves :
    (k : ℕ) (s t : List ℕ) {low high : ℕ} →
    low ≡ little_endian k s →
    t ≡ drop k s →
    high ≡ little_endian k t →
    low + 256 ^ k * high ≡ little_endian (k + k) s
halves k s t l d h = rw (l, h, d) (sym (parts k k s))

-- the same at a place
pub halves_at :
    (k : ℕ) (s : List ℕ) (at : ℕ) {low high : ℕ} →
    low ≡ little_endian k (drop at s) →
    high ≡ little_endian k (drop (at + k) s) →
    low + 256 ^ k * high ≡ little_endian (k + k) (drop at s)
halves_at k s at l h = halves k (drop at s) (drop (at + k) s) l (sym (drop-drop k at s)) h

-- a byte at a place
pub one_at : (s : List ℕ) (at : ℕ) → get_or s at 0 ≡ little_endian 1 (drop at s)
one_at s at = sym (one_there (drop at s) ∙ get_or-drop at s 0 0 ∙ ap (λ (i : ℕ). get_or s i 0) (add-zero at))

-- two, four and eight bytes from a place on, each as heavy as it stands
pub two_at : (s : List ℕ) (at : ℕ) → get_or s at 0 + get_or s (at + 1) 0 * 256 ≡ little_endian 2 (drop at s)
two_at s at = omega (arith, halves_at 1 s at (one_at s at) (one_at s (at + 1)))

pub four_at :
    (s : List ℕ) (at : ℕ) →
    get_or s at 0 + get_or s (at + 1) 0 * 256 + get_or s (at + 2) 0 * 65536 + get_or s (at + 3) 0 * 16777216
    ≡ little_endian 4 (drop at s)
four_at s at =
    let e : at + 2 + 1 ≡ at + 3 = omega arith in
    omega (arith, rw e at (halves_at 2 s at (two_at s at) (two_at s (at + 2))))

pub eight_at :
    (s : List ℕ) (at : ℕ) →
    get_or s at 0 + get_or s (at + 1) 0 * 256 + get_or s (at + 2) 0 * 65536 + get_or s (at + 3) 0 * 16777216
    + get_or s (at + 4) 0 * 4294967296 + get_or s (at + 5) 0 * 1099511627776
    + get_or s (at + 6) 0 * 281474976710656 + get_or s (at + 7) 0 * 72057594037927936
    ≡ little_endian 8 (drop at s)
eight_at s at =
    let e : at + 4 + 1 ≡ at + 5 = omega arith in
    let f : at + 4 + 2 ≡ at + 6 = omega arith in
    let g : at + 4 + 3 ≡ at + 7 = omega arith in
    omega (arith, rw (e, f, g) at (halves_at 4 s at (four_at s at) (four_at s (at + 4))))

-- and at the front
pub two_there : (s : List ℕ) → get_or s 0 0 + get_or s 1 0 * 256 ≡ little_endian 2 s
two_there s = two_at s 0

pub four_there :
    (s : List ℕ) → get_or s 0 0 + get_or s 1 0 * 256 + get_or s 2 0 * 65536 + get_or s 3 0 * 16777216 ≡ little_endian 4 s
four_there s = four_at s 0

-- a number is told by its bytes alone
front : (n : ℕ) (s : List ℕ) → little_endian (suc n) s ≡ get_or s 0 0 + 256 * little_endian n (drop 1 s)
unfolding little_endian
front n [] = rw (none_there n)
front n (b ∷ s) = refl

pub same_number : (n : ℕ) (s t : List ℕ) → ((j : ℕ) → j < n → get_or s j 0 ≡ get_or t j 0) → little_endian n s ≡ little_endian n t
unfolding little_endian
same_number zero s t same = refl
same_number (suc n) s t same =
    let rest : little_endian n (drop 1 s) ≡ little_endian n (drop 1 t) =
    same_number n (drop 1 s) (drop 1 t) (λ j less. rw (get_or-drop 1 s j 0, get_or-drop 1 t j 0) (same (1 + j) (omega arith))) in
    front n s ∙ rw (same 0 (omega arith), rest) (sym (front n t))

-- n bytes make a number below 256^n
pub number_below : (n : ℕ) (s : List ℕ) → AreBytes s → little_endian n s < 256 ^ n
unfolding little_endian
number_below zero s each = lit< tt
number_below (suc n) [] each = one-le-pow (suc n) 256 (lit≤ tt)
number_below (suc n) (b ∷ s) each =
    let byte : b < 256 = each.byte 0 in
    let less : little_endian n s < 256 ^ n = number_below n s (behind each) in
    rw (pow-suc 256 n) (omega arith)

-- the bytes of a number are bytes, and so are two lists of them one behind the other
byte_at : (n x i : ℕ) → get_or (little_bytes n x) i 0 < 256
unfolding little_bytes
byte_at zero x i = lit< tt
byte_at (suc n) x zero = omega arith
byte_at (suc n) x (suc i) = byte_at n (x / 256) i

pub are_bytes : (n x : ℕ) → AreBytes (little_bytes n x)
are_bytes n x = record { byte = byte_at n x }

pub bytes_append : {s t : List ℕ} → AreBytes s → AreBytes t → AreBytes (s ++ t)
bytes_append {s} {t} p q = record { byte = go s p }
  where
    go : (s : List ℕ) → AreBytes s → (i : ℕ) → get_or (s ++ t) i 0 < 256
    go [] p i = q.byte i
    go (b ∷ s) p zero = p.byte 0
    go (b ∷ s) p (suc i) = go s (behind p) i

pub bytes_drop : {s : List ℕ} (n : ℕ) → AreBytes s → AreBytes (drop n s)
bytes_drop {s} n each = record { byte = λ i. rw (get_or-drop n s i 0) (each.byte (n + i)) }

pub ruleset places = (one_at, two_at, four_at, eight_at)
