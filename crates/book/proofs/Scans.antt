-- The first of the faults of a part of a book, place after place: what a loop over the places below n knows at place k.
-- Assumes nothing.
use Prim.Native.Nat.{ℕ, zero, suc, ◌+◌, ◌-◌, ◌≤◌, ◌<◌}
use mathlib.Core.Bool.{Bool, true, false}
use mathlib.Core.List.{List, ◌∷◌, flat_map}
use mathlib.Core.Option.{Option, some, none, or_else, some-ne-none}
use mathlib.Core.Path.{◌≡◌, refl, sym, ap, ◌∙◌, subst}
use native.Mathlib.Decide.{ℕ_discrete}
use native.Mathlib.Numerals.{add-one}
use native.Mathlib.Omega.{arith}
use Rattle.book.specs.Lists.{find, from, up_to}
use Rattle.book.proofs.First.{find-append}

-- the first passes, or is passed over
module _ {A : Type 0} (test : A → Bool) (x : A) (l : List A) where
  pub find_hit : test x ≡ true → find test (x ∷ l) ≡ some x
  unfolding find
  find_hit e = rw (e, find)

  pub find_miss : test x ≡ false → find test (x ∷ l) ≡ find test l
  unfolding find
  find_miss e = rw (e, find)

module _ {A : Type 0} (test : A → Bool) (f : ℕ → List A) where
  -- the first that passes of what the places from k to below n give
  abbrev pub left_at : ℕ → ℕ → Option A
  left_at k n = find test (flat_map f (from k (n - k)))

  -- the invariant of such a loop: the places before k gave none
  abbrev pub Passed : ℕ → ℕ → Type 0
  Passed k n = (k ≤ n) × (find test (flat_map f (up_to n)) ≡ left_at k n)

  pub scan_start : (n : ℕ) → find test (flat_map f (up_to n)) ≡ left_at 0 n
  scan_start n = let e : n ≡ n - 0 = omega arith in ap (λ (m : ℕ). find test (flat_map f (from 0 m))) e

  -- place k and those behind it
  scan_step : (k n : ℕ) → k < n → left_at k n ≡ or_else (find test (f k)) (left_at (k + 1) n)
  unfolding flat_map from
  scan_step k n less =
      let e : n - k ≡ suc (n - suc k) = omega arith in
      rw (e, add-one k) (find-append test (f k) (flat_map f (from (suc k) (n - suc k))))

  pub scan_here : (k n : ℕ) (x : A) → k < n → find test (f k) ≡ some x → left_at k n ≡ some x
  unfolding or_else
  scan_here k n x less e = rw (scan_step k n less, e)

  pub scan_on : (k n : ℕ) → k < n → find test (f k) ≡ none → left_at k n ≡ left_at (k + 1) n
  unfolding or_else
  scan_on k n less e = rw (scan_step k n less, e)

  pub scan_end : (k n : ℕ) → n ≤ k → left_at k n ≡ none
  unfolding flat_map from find
  scan_end k n past = let e : n - k ≡ 0 = omega arith in rw e

  -- none passes at any of the places
  pub scan_none :
      (m k : ℕ) → find test (flat_map f (from k m)) ≡ none → (j : ℕ) → k ≤ j → j < k + m → find test (f j) ≡ none
  unfolding flat_map from or_else
  scan_none zero k e j low high = absurd (omega arith)
  scan_none (suc m) k e j low high =
      go (find test (f k)) refl (sym (find-append test (f k) (flat_map f (from (suc k) m))) ∙ e) (scan_none m (suc k)) (ℕ_discrete k j)
    where
      go :
          (o : Option A) → find test (f k) ≡ o → or_else o (find test (flat_map f (from (suc k) m))) ≡ none →
          (find test (flat_map f (from (suc k) m)) ≡ none → (j : ℕ) → suc k ≤ j → j < suc k + m → find test (f j) ≡ none) →
          Dec (k ≡ j) → find test (f j) ≡ none
      go (some x) is e rest d = absurd (some-ne-none _ e)
      go none is e rest (yes same) = subst (λ j. find test (f j) ≡ none) same is
      go none is e rest (no other) = rest e j (omega arith) (omega arith)
