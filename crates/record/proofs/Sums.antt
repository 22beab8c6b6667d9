-- The words of a block, and the one's complement sum: carries folded as they come or all at the end, the sum is the
-- same.
-- Assumes nothing.
use Prim.Native.Nat.{ℕ, zero, suc, ◌+◌, ◌-◌, ◌*◌, ◌/◌, ◌%◌, ◌^◌, ◌≤◌, ◌<◌}
use mathlib.Core.List.{List, [], ◌∷◌}
use mathlib.Core.Path.{◌≡◌, refl, sym, ap, ◌∙◌}
use native.Mathlib.Nat.{zero-add, add-zero, suc-add}
use native.Mathlib.Numerals.{add-one}
use native.Mathlib.Omega.{arith}
use lib.Dec.{lit<, lit≤}
use lib.ListN.{take, drop, get_or}
use lib.Seq.{drop-nil, drop-drop, take-nil, take-take, get_or-take}
use Rattle.record.specs.Bytes.{AreBytes, little_endian}
use Rattle.record.specs.Check.{words, once, ones_sum, checksum, block_words, block_check, total, SumsUp, FoldedLate}
use Rattle.record.proofs.Numbers.{number_below, one_at, bytes_drop}

twice_suc : (k : ℕ) → 2 * suc k ≡ suc (suc (2 * k))
twice_suc k = omega arith

-- word k is made of the bytes at 2 k and behind it
pub word_there :
    (s : List ℕ) (k : ℕ) →
    get_or (words s) k 0 ≡ 256 * little_endian 1 (drop (2 * k) s) + little_endian 1 (drop 1 (drop (2 * k) s))
unfolding words little_endian
word_there [] k = rw (drop-nil (2 * k))
word_there (a ∷ []) zero = omega arith
word_there (a ∷ []) (suc k) = rw (twice_suc k)
word_there (a ∷ b ∷ s) zero = omega arith
word_there (a ∷ b ∷ s) (suc k) = rw (twice_suc k) (word_there s k)

pub word_at : (s : List ℕ) (k : ℕ) → get_or (words s) k 0 ≡ 256 * get_or s (2 * k) 0 + get_or s (2 * k + 1) 0
word_at s k = rw (word_there s k, drop-drop 1 (2 * k) s, one_at s (2 * k), one_at s (2 * k + 1))

-- two words, by the four bytes that make them
pub pair_there :
    (s : List ℕ) (k : ℕ) →
    16777216 * get_or s (4 * k) 0 + 65536 * get_or s (4 * k + 1) 0 + 256 * get_or s (4 * k + 2) 0 + get_or s (4 * k + 3) 0
    ≡ 65536 * get_or (words s) (2 * k) 0 + get_or (words s) (2 * k + 1) 0
pair_there s k =
    let a : 2 * (2 * k) ≡ 4 * k = omega arith in
    let b : 2 * (2 * k + 1) ≡ 4 * k + 2 = omega arith in
    let c : 4 * k + 2 + 1 ≡ 4 * k + 3 = omega arith in
    rw (word_at s (2 * k), word_at s (2 * k + 1), a, b, c) (omega arith)

-- the words of the first 2 n bytes are the first n words
pub words_take : (n : ℕ) (s : List ℕ) → words (take (2 * n) s) ≡ take n (words s)
unfolding words
words_take zero s = refl
words_take (suc n) [] = rw (twice_suc n)
words_take (suc n) (a ∷ []) = rw (twice_suc n, take-nil n)
words_take (suc n) (a ∷ b ∷ s) = rw (twice_suc n) (ap (λ (t : List ℕ). (256 * a + b) ∷ t) (words_take n s))

pub total-suc : (ws : List ℕ) (k : ℕ) → total (take (suc k) ws) ≡ total (take k ws) + get_or ws k 0
unfolding total
total-suc [] zero = refl
total-suc [] (suc k) = refl
total-suc (w ∷ ws) zero = omega arith
total-suc (w ∷ ws) (suc k) = rw (total-suc ws k) (omega arith)

-- a word is below 2^16
pub word_below : (s : List ℕ) → AreBytes s → (k : ℕ) → get_or (words s) k 0 < 65536
word_below s each k =
    let at = drop (2 * k) s in
    let high : little_endian 1 at < 256 = number_below 1 at (bytes_drop (2 * k) each) in
    let low : little_endian 1 (drop 1 at) < 256 = number_below 1 (drop 1 at) (bytes_drop 1 (bytes_drop (2 * k) each)) in
    rw (word_there s k) (omega arith)

-- every carry folded: the number from 1 to 65,535 that is x but for a multiple of 65,535, and 0 only for 0
folded : ℕ → ℕ
folded zero = 0
folded (suc x) = suc (x % 65535)

folded_add : (w t : ℕ) → w < 65536 → once (w + folded t) ≡ folded (w + t)
unfolding folded
folded_add zero zero h = refl
folded_add zero (suc t) h = rw (zero-add (suc (t % 65535)), zero-add (suc t)) (omega arith)
folded_add (suc w) zero h = rw (add-zero (suc w)) (omega arith)
folded_add (suc w) (suc t) h = rw (suc-add w (suc t)) (omega arith)

folded_twice : (x : ℕ) → x ≤ 255 * 65535 → once (once x) ≡ folded x
unfolding folded
folded_twice zero h = refl
folded_twice (suc x) h = omega arith

folded_sum : (n : ℕ) (ws : List ℕ) → ((j : ℕ) → get_or ws j 0 < 65536) → ones_sum (take n ws) ≡ folded (total (take n ws))
unfolding ones_sum total folded
folded_sum zero ws small = refl
folded_sum (suc n) [] small = refl
folded_sum (suc n) (w ∷ ws) small =
    ap (λ (y : ℕ). once (w + y)) (folded_sum n ws (λ j. small (suc j))) ∙ folded_add w (total (take n ws)) (small 0)

total_below : (n : ℕ) (ws : List ℕ) → ((j : ℕ) → get_or ws j 0 < 65536) → total (take n ws) ≤ n * 65535
unfolding total
total_below zero ws small = omega arith
total_below (suc n) ws small =
    let less : total (take n ws) ≤ n * 65535 = total_below n ws small in
    let word : get_or ws n 0 < 65536 = small n in
    rw (total-suc ws n) (omega arith)

pub folded_late : FoldedLate
unfolding checksum
folded_late ws small =
    let bound : total (take 255 ws) ≤ 255 * 65535 = total_below 255 ws small in
    let same = folded_sum 255 ws small ∙ sym (folded_twice (total (take 255 ws)) bound) in
    (omega arith, ap (λ (y : ℕ). 65535 - y) same)

-- carries that went round leave what a sum folds to
folded_round : (t h : ℕ) → h ≤ t → folded (t + 65535 * h) ≡ folded t
unfolding folded
folded_round zero h le = let none : h ≡ 0 = omega arith in rw none
folded_round (suc t) h le = rw (suc-add t (65535 * h)) (omega arith)

folded-once : (x : ℕ) → folded (once x) ≡ folded x
folded-once x =
    let round : x ≡ once x + 65535 * (x / 65536) = omega arith in
    sym (ap folded round ∙ folded_round (once x) (x / 65536) (omega arith))

folded_thrice : (x : ℕ) → x < 2 ^ 39 → once (once (once x)) ≡ folded x
folded_thrice x h = folded_twice (once x) (omega arith) ∙ folded-once x

pub thrice_below : (x : ℕ) → x < 2 ^ 39 → once (once (once x)) < 65536
thrice_below x h =
    let few : once x ≤ 255 * 65535 = omega arith in
    go (once x) few
  where
    go : (y : ℕ) → y ≤ 255 * 65535 → once (once y) < 65536
    go y few = omega arith

-- a sum of n words, some of them carried round already
abbrev pub Sum : List ℕ → ℕ → ℕ → Type 0
Sum ws n sum = (h : ℕ) × (sum ≡ total (take n ws) + 65535 * h) × (h ≤ total (take n ws))

pub sum_none : (ws : List ℕ) → Sum ws 0 0
unfolding total
sum_none ws = (0, refl, omega arith)

-- one word more, and two as one number
pub sum_word : (ws : List ℕ) (n sum w : ℕ) → Sum ws n sum → w ≡ get_or ws n 0 → Sum ws (n + 1) (sum + w)
sum_word ws n sum w s e =
    rw (add-one n) (s.0, rw (total-suc ws n) (omega arith), rw (total-suc ws n) (omega arith))

pub sum_pair :
    (ws : List ℕ) (k sum p : ℕ) → Sum ws (2 * k) sum → p ≡ 65536 * get_or ws (2 * k) 0 + get_or ws (2 * k + 1) 0 → Sum ws (2 * (k + 1)) (sum + p)
sum_pair ws k sum p s e =
    let next : 2 * (k + 1) ≡ suc (suc (2 * k)) = omega arith in
    let more : total (take (suc (suc (2 * k))) ws) ≡ total (take (2 * k) ws) + get_or ws (2 * k) 0 + get_or ws (suc (2 * k)) 0 =
    rw (total-suc ws (suc (2 * k)), total-suc ws (2 * k)) in
    let is : p ≡ 65536 * get_or ws (2 * k) 0 + get_or ws (suc (2 * k)) 0 = rw (add-one (2 * k)) at e in
    rw next (s.0 + get_or ws (2 * k) 0, rw more (omega arith), rw more (omega arith))

-- a sum of all 255 words folds to their one's complement sum
pub sums_up : (s : List ℕ) (sum : ℕ) → AreBytes s → Sum (words s) 255 sum → sum < 2 ^ 39 → SumsUp s sum
sums_up s sum each is small =
    record {
      folds =
          folded_thrice sum small
          ∙ ap folded is.1
          ∙ folded_round (total (take 255 (words s))) is.0 is.2
          ∙ sym (folded_sum 255 (words s) (word_below s each));
      small = small;
    }

module _ (book : List ℕ) (k : ℕ) where
  -- the words of the rest of the book from block k on
  abbrev pub rest : List ℕ
  rest = words (drop (512 * k) book)

  pub check_words : take 255 (block_words book k) ≡ take 255 rest
  unfolding block_words
  check_words = ap (take 255) (words_take 256 (drop (512 * k) book)) ∙ take-take 255 256 rest (lit≤ tt)

  pub last_word : get_or (block_words book k) 255 0 ≡ get_or rest 255 0
  unfolding block_words
  last_word = ap (λ (ws : List ℕ). get_or ws 255 0) (words_take 256 (drop (512 * k) book)) ∙ get_or-take 256 rest 255 0 (lit< tt)

  -- the code's way: all words added up, three folds, the rest inverted
  pub check_late : (sum : ℕ) → SumsUp (drop (512 * k) book) sum → 65535 - once (once (once sum)) ≡ block_check book k
  unfolding block_check checksum
  check_late sum up = rw (up.folds, check_words)

pub ruleset lates = (check_late, thrice_below)
