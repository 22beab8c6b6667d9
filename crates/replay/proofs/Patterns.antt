-- The bytes of a slice as lent: how they are computed, filled in and compared.
-- Assumes nothing.
use Prim.Native.Nat.{ℕ, zero, suc, ◌+◌, ◌*◌, ◌/◌, ◌%◌, ◌<◌}
use mathlib.Core.Bool.{◌&&◌}
use mathlib.Core.List.{List, [], ◌∷◌, ◌++◌, map, map-append}
use mathlib.Core.Path.{◌≡◌, refl, sym, ap, ◌∙◌}
use native.Mathlib.Numerals.{add-one}
use native.Mathlib.Nat.{div-add-mod}
use native.Mathlib.Omega.{arith}
use lib.Dec.{eqb}
use lib.ListN.{length, take, drop, get_or, set, length-map}
use lib.Seq.{take-suc-set}
use Rattle.std.specs.List.{list_all, enumerate_from}
use Rattle.book.specs.Lists.{up_to, from}
use Rattle.book.proofs.Lists.{from-length}
use Rattle.book.proofs.Marks.{up_to_last}
use Rattle.book.proofs.Members.{at_from}
use Rattle.book.proofs.Records.{at_map}
use Rattle.replay.specs.Lent.{lent_byte, patterned}
use Rattle.replay.specs.Said.{same}

-- a byte goes by the last eight bits of its place
pub byte_is : (step first i : ℕ) → (step * (i % 256) % 256 + first) % 256 ≡ lent_byte step first i
byte_is step first i =
    let whole : 256 * (step * (i / 256)) + step * (i % 256) ≡ step * i = omega (arith, ap (λ n. step * n) (div-add-mod i 256)) in
    omega arith

module _ (step first : ℕ) where
  -- how many bytes there are, the byte at i, and one byte more
  pub pattern_length : (n : ℕ) → length (patterned n step first) ≡ n
  unfolding patterned
  pattern_length n = length-map (up_to n) (lent_byte step first) ∙ from-length 0 n

  pub pattern_at : (n i : ℕ) → i < n → get_or (patterned n step first) i 0 ≡ lent_byte step first i
  unfolding patterned
  pattern_at n i less =
      let there : i < length (up_to n) = omega (arith, from-length 0 n) in
      at_map (lent_byte step first) (up_to n) i 0 0 there ∙ ap (lent_byte step first) (at_from 0 n i 0 less ∙ omega arith)

  pub pattern_none : (s : List ℕ) → take 0 s ≡ patterned 0 step first
  unfolding patterned from
  pattern_none s = refl

  pattern_next : (n : ℕ) → patterned (suc n) step first ≡ patterned n step first ++ (lent_byte step first n ∷ [])
  unfolding patterned
  pattern_next n = ap (map (lent_byte step first)) (up_to_last n) ∙ map-append (lent_byte step first) (up_to n) (n ∷ [])

  -- byte i is stored, with those before it as lent
  pub pattern_on :
      (s : List ℕ) (i : ℕ) {b : ℕ} →
      i < length s →
      take i s ≡ patterned i step first →
      b ≡ lent_byte step first i →
      take (i + 1) (set s i b) ≡ patterned (i + 1) step first
  pattern_on s i {b} less before is =
      rw (add-one i, take-suc-set s i b less, before, is) (sym (pattern_next i))

  -- each byte from a place on is tested, with its place
  tested :
      (at k : ℕ) (s : List ℕ) →
      list_all (λ (p : ℕ × ℕ). eqb p.1 (lent_byte step first p.0)) (drop at (enumerate_from k s))
      ≡ same (drop at s) (drop at (map (lent_byte step first) (from k (length s))))
  unfolding same from
  tested zero k [] = refl
  tested zero k (b ∷ s) =
      rw (add-one k) (ap (λ t. eqb b (lent_byte step first k) && t) (tested zero (suc k) s))
  tested (suc at) k [] = refl
  tested (suc at) k (b ∷ s) = rw (add-one k) (tested at (suc k) s)

  pub goes_on :
      (at : ℕ) (s : List ℕ) →
      list_all (λ (p : ℕ × ℕ). eqb p.1 (lent_byte step first p.0)) (drop at (enumerate_from 0 s))
      ≡ same (drop at s) (drop at (patterned (length s) step first))
  unfolding patterned
  goes_on at s = tested at 0 s
