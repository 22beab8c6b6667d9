-- Names that are all different, and what their numbers are, one after the other.
-- Assumes nothing.
use Rattle.std.proofs.Common.{◌≡◌, ℕ, zero, suc, ◌+◌, ◌≤◌, ◌<◌, Bool, true, false, not, cond, ◌||◌, List, [], ◌∷◌, ◌++◌}
use Rattle.std.proofs.Common.{length, map, nat_lt, refl, sym, ap, ◌∙◌, arith, subst, eqb}
use Rattle.std.proofs.lemmas.Bool.Decides.{nat_tests}
use mathlib.Core.Option.{Option as Maybe, some, none}
use mathlib.Core.Option as maybe
use Rattle.book.specs.Lists.{All, any, find, keep, at, numbered_from}
use Rattle.book.proofs.Lists.{any_append}
use Rattle.types.specs.Resolved.{entry}
use Rattle.types.specs.Stands.{below_types}

-- name m is one of some
abbrev pub is_in : ℕ → List ℕ → Bool
is_in m l = any (λ x. eqb x m) l

-- no name comes twice
abbrev pub Distinct : List ℕ → Type 0
Distinct [] = Unit {0}
Distinct (x ∷ xs) = (is_in x xs ≡ false) × Distinct xs

neither : (a b : Bool) → a || b ≡ false → (a ≡ false) × (b ≡ false)
neither true b e = cc
neither false b e = (refl, e)

not_first : (b : Bool) (rest : Bool) → elim b [ true ↦ true | false ↦ rest ] ≡ false → (b ≡ false) × (rest ≡ false)
not_first true rest e = cc
not_first false rest e = (refl, e)

other_way : (x y : ℕ) → eqb x y ≡ false → eqb y x ≡ false
other_way x y e = grind (arith, nat_tests)

pub distinct_before : (xs : List ℕ) (y : ℕ) (zs : List ℕ) → Distinct (xs ++ y ∷ zs) → is_in y xs ≡ false
unfolding any
distinct_before [] y zs d = refl
distinct_before (x ∷ xs) y zs d =
    let e : is_in x (y ∷ zs) ≡ false = (neither (is_in x xs) (is_in x (y ∷ zs))
    (sym (any_append (λ z. eqb z x) xs (y ∷ zs)) ∙ d.0)).1 in
    let q : eqb x y ≡ false = other_way y x (not_first (eqb y x) (is_in x zs) e).0 in
    ap (λ (b : Bool). elim b [ true ↦ true | false ↦ is_in y xs ]) q ∙ distinct_before xs y zs d.1

-- names below n that are distinct are at most n
module _ (test : ℕ → Bool) where
  none_kept : (m : ℕ) (xs : List ℕ) → is_in m xs ≡ false → is_in m (keep test xs) ≡ false
  unfolding any keep
  none_kept m [] e = refl
  none_kept m (x ∷ xs) e = let q = not_first (eqb x m) (is_in m xs) e in go (test x) q.0 (none_kept m xs q.1)
    where
      go : (b : Bool) → eqb x m ≡ false → is_in m (keep test xs) ≡ false
          → is_in m (cond b (x ∷ keep test xs) (keep test xs)) ≡ false
      go true p h = ap (λ (b : Bool). elim b [ true ↦ true | false ↦ is_in m (keep test xs) ]) p ∙ h
      go false p h = h

  pub distinct_kept : (xs : List ℕ) → Distinct xs → Distinct (keep test xs)
  unfolding keep
  distinct_kept [] d = tt
  distinct_kept (x ∷ xs) d = go (test x) (none_kept x xs d.0) (distinct_kept xs d.1)
    where
      go : (b : Bool) → is_in x (keep test xs) ≡ false → Distinct (keep test xs)
          → Distinct (cond b (x ∷ keep test xs) (keep test xs))
      go true p h = (p, h)
      go false p h = h

abbrev but : ℕ → ℕ → Bool
but n x = not (eqb x n)

below_kept : (n : ℕ) (xs : List ℕ) → All (λ x. x < suc n) xs → All (λ x. x < n) (keep (but n) xs)
unfolding keep
below_kept n [] a = tt
below_kept n (x ∷ xs) a = go (eqb x n) refl (below_kept n xs a.1)
  where
    less : eqb x n ≡ false → x < suc n → x < n
    less e h = grind (arith, nat_tests)

    go : (b : Bool) → eqb x n ≡ b → All (λ x. x < n) (keep (but n) xs)
        → All (λ x. x < n) (cond (not b) (x ∷ keep (but n) xs) (keep (but n) xs))
    go true e h = h
    go false e h = (less e a.0, h)

none_lost : (n : ℕ) (xs : List ℕ) → is_in n xs ≡ false → length xs ≤ length (keep (but n) xs)
unfolding any keep
none_lost n [] e = omega arith
none_lost n (x ∷ xs) e = let q = not_first (eqb x n) (is_in n xs) e in go (eqb x n) q.0 (none_lost n xs q.1)
  where
    go : (b : Bool) → b ≡ false → length xs ≤ length (keep (but n) xs)
        → suc (length xs) ≤ length (cond (not b) (x ∷ keep (but n) xs) (keep (but n) xs))
    go true e h = cc
    go false e h = omega arith

one_lost : (n : ℕ) (xs : List ℕ) → Distinct xs → length xs ≤ suc (length (keep (but n) xs))
unfolding keep
one_lost n [] d = omega arith
one_lost n (x ∷ xs) d = go (eqb x n) refl (one_lost n xs d.1)
  where
    same : eqb x n ≡ true → x ≡ n
    same e = grind (arith, nat_tests)

    go : (b : Bool) → eqb x n ≡ b → length xs ≤ suc (length (keep (but n) xs))
        → suc (length xs) ≤ suc (length (cond (not b) (x ∷ keep (but n) xs) (keep (but n) xs)))
    go true e h = let q : length xs ≤ length (keep (but n) xs) = none_lost n xs
        (subst (λ (m : ℕ). is_in m xs ≡ false) (same e) d.0) in omega arith
    go false e h = omega arith

pub few_distinct : (n : ℕ) (xs : List ℕ) → All (λ x. x < n) xs → Distinct xs → length xs ≤ n
few_distinct n [] a d = omega arith
few_distinct zero (x ∷ xs) a d = absurd (omega (arith, a.0))
few_distinct (suc n) (x ∷ xs) a d =
    let l : List ℕ = x ∷ xs in
    let fewer : length (keep (but n) l) ≤ n = few_distinct n (keep (but n) l) (below_kept n l a)
    (distinct_kept (but n) l d) in
    let lost : length l ≤ suc (length (keep (but n) l)) = one_lost n l d in
    omega arith

-- some names with their numbers, from k on
abbrev pub entered : ℕ → List ℕ → List (ℕ × ℕ)
entered k xs = map (λ x. (x.1, x.0)) (numbered_from k xs)

pub entered_more : (k : ℕ) (xs : List ℕ) (y : ℕ) → entered k (xs ++ y ∷ []) ≡ entered k xs ++ (y, k + length xs) ∷ []
unfolding numbered_from
entered_more k [] y = let e : k ≡ k + 0 = omega arith in ap (λ (i : ℕ). (y, i) ∷ []) e
entered_more k (x ∷ xs) y =
    let e : suc k + length xs ≡ k + suc (length xs) = omega arith in
    ap (λ (l : List (ℕ × ℕ)). (x, k) ∷ l) (entered_more (suc k) xs y
    ∙ ap (λ (i : ℕ). entered (suc k) xs ++ (y, i) ∷ []) e)

pub entered_new : (m k : ℕ) (xs : List ℕ) → is_in m xs ≡ false → entry m (entered k xs) ≡ none
unfolding entry find numbered_from any
entered_new m k [] e = refl
entered_new m k (x ∷ xs) e =
    let q = not_first (eqb x m) (is_in m xs) e in
    ap (λ (b : Bool). maybe.map (λ (x : ℕ × ℕ). x.1) (elim b as
    (λ _. Maybe (ℕ × ℕ)) [ true ↦ some (x, k) | false ↦ find (λ x. eqb x.0 m) (entered (suc k) xs) ])) q.0
    ∙ entered_new m (suc k) xs q.1

-- names with numbers from j on are not below j
entered_above : (m j k : ℕ) (xs : List ℕ) → j ≤ k → below_types j (entry m (entered k xs)) ≡ false
unfolding entry find numbered_from
entered_above m j k [] h = refl
entered_above m j k (x ∷ xs) h = go (eqb x m) (entered_above m j (suc k) xs (omega arith))
  where
    over : nat_lt k j ≡ false
    over = grind (arith, nat_tests)

    go : (b : Bool) → below_types j (entry m (entered (suc k) xs)) ≡ false
        → below_types j (maybe.map (λ (x : ℕ × ℕ). x.1)
        (elim b as (λ _. Maybe (ℕ × ℕ)) [ true ↦ some (x, k) | false ↦ find (λ x. eqb x.0 m) (entered (suc k) xs) ]))
        ≡ false
    go true e = over
    go false e = e

-- so the first names are told by their numbers from those behind them
pub entered_first : (m k : ℕ) (xs ys : List ℕ) → below_types (k + length xs) (entry m (entered k (xs ++ ys)))
    ≡ is_in m xs
unfolding entry find numbered_from any
entered_first m k [] ys = entered_above m (k + 0) k ys (omega arith)
entered_first m k (x ∷ xs) ys =
    let e : suc k + length xs ≡ k + suc (length xs) = omega arith in
    go (eqb x m) (subst (λ (i : ℕ). below_types i (entry m (entered (suc k) (xs ++ ys))) ≡ is_in m xs) e
    (entered_first m (suc k) xs ys))
  where
    under : nat_lt k (k + suc (length xs)) ≡ true
    under = grind (arith, nat_tests)

    go : (b : Bool) → below_types (k + suc (length xs)) (entry m (entered (suc k) (xs ++ ys))) ≡ is_in m xs
        → below_types (k + suc (length xs)) (maybe.map (λ (x : ℕ × ℕ). x.1)
        (elim b as (λ _. Maybe (ℕ × ℕ)) [
          | true ↦ some (x, k)
          | false ↦ find (λ x. eqb x.0 m)
              (entered (suc k) (xs ++ ys))
        ]))
        ≡ elim b [ true ↦ true | false ↦ is_in m xs ]
    go true e = under
    go false e = e

-- what stands under a number, in a list that is numbered from k on
module _ {A : Type 0} where
  pub numbered_low : (m k : ℕ) (l : List A) → m < k → entry m (numbered_from k l) ≡ none
  unfolding entry find numbered_from
  numbered_low m k [] h = refl
  numbered_low m k (x ∷ l) h =
      let q : eqb k m ≡ false = grind (arith, nat_tests) in
      ap (λ (b : Bool). maybe.map (λ (x : ℕ × A). x.1) (elim b as
      (λ _. Maybe (ℕ × A)) [ true ↦ some (k, x) | false ↦ find (λ x. eqb x.0 m) (numbered_from (suc k) l) ])) q
      ∙ numbered_low m (suc k) l (omega arith)

  pub numbered_at : (k i : ℕ) (l : List A) → entry (k + i) (numbered_from k l) ≡ at l i
  unfolding entry find numbered_from at
  numbered_at k i [] = refl
  numbered_at k zero (x ∷ l) =
      let q : eqb k (k + 0) ≡ true = grind (arith, nat_tests) in
      ap (λ (b : Bool). maybe.map (λ (x : ℕ × A). x.1) (elim b as
      (λ _. Maybe (ℕ × A)) [
        | true ↦ some (k, x)
        | false ↦ find (λ x. eqb x.0 (k + 0))
            (numbered_from (suc k) l)
      ])) q
  numbered_at k (suc i) (x ∷ l) =
      let q : eqb k (k + suc i) ≡ false = grind (arith, nat_tests) in
      let e : suc k + i ≡ k + suc i = omega arith in
      ap (λ (b : Bool). maybe.map (λ (x : ℕ × A). x.1) (elim b as
      (λ _. Maybe (ℕ × A)) [
        | true ↦ some (k, x)
        | false ↦ find (λ x. eqb x.0 (k + suc i))
            (numbered_from (suc k) l)
      ])) q
      ∙ subst (λ (j : ℕ). entry j (numbered_from (suc k) l) ≡ at l i) e (numbered_at (suc k) i l)
