-- The constants of a book by number: constant i stands at the i-th record of kind 24, and no other constant has its
-- name.
-- Assumes nothing.
use Prim.Native.Nat.{ℕ, zero, suc, ◌≤◌, ◌<◌}
use mathlib.Core.Bool.{Bool}
use mathlib.Core.List.{List, [], ◌∷◌, map, Memᴰ}
use mathlib.Core.Path.{◌≡◌, refl, sym, ap, ◌∙◌, subst}
use native.Mathlib.Omega.{arith}
use lib.ListN.{length, get_or, length-map, get_or-map}
use lib.Seq.{take-length}
use Rattle.book.specs.Lists.{keep, from}
use Rattle.book.specs.Faults.{is_kind}
use Rattle.book.specs.Outline.{Book, ◌!◌, numbers_of}
use Rattle.book.specs.Trees.{WellFormed}
use Rattle.book.proofs.Lists.{either}
use Rattle.book.proofs.Members.{at_mem_take}
use Rattle.constants.specs.Order.{Constant}
use Rattle.constants.specs.OfBook.{constant_at, constants}
use Rattle.constants.specs.Tables.{constant_in}
use Rattle.constants.proofs.Distinct.{distinct}

-- numbers from n on that ascend, as those that a test keeps do
abbrev Ascends : ℕ → List ℕ → Type 0
Ascends n [] = Unit
Ascends n (x ∷ l) = (n ≤ x) × Ascends (suc x) l

ascends_sooner : (n : ℕ) (l : List ℕ) → Ascends (suc n) l → Ascends n l
ascends_sooner n [] a = tt
ascends_sooner n (x ∷ l) a = (omega (arith, a.0), a.1)

kept_ascend : (test : ℕ → Bool) (n m : ℕ) → Ascends n (keep test (from n m))
unfolding keep from
kept_ascend test n zero = tt
kept_ascend test n (suc m) =
    let rest = kept_ascend test (suc n) m in
    either (Ascends n) (test n) {x = n ∷ keep test (from (suc n) m)} (omega arith, rest) (ascends_sooner n (keep test (from (suc n) m)) rest)

-- none is below n, and of two the one behind is larger
at_least : (n : ℕ) (l : List ℕ) → Ascends n l → (i : ℕ) → i < length l → n ≤ get_or l i 0
at_least n [] a i less = absurd (omega arith)
at_least n (x ∷ l) a zero less = a.0
at_least n (x ∷ l) a (suc i) less = omega (arith, at_least (suc x) l a.1 i (omega arith), a.0)

ascending : (n : ℕ) (l : List ℕ) → Ascends n l → (i j : ℕ) → i < j → j < length l → get_or l i 0 < get_or l j 0
ascending n [] a i j first less = absurd (omega arith)
ascending n (x ∷ l) a i zero first less = absurd (omega arith)
ascending n (x ∷ l) a zero (suc j) first less = at_least (suc x) l a.1 j (omega arith)
ascending n (x ∷ l) a (suc i) (suc j) first less = ascending (suc x) l a.1 i j (omega arith) (omega arith)

-- the constants of a book
module _ (book : Book) where
  abbrev numbers : List ℕ
  numbers = numbers_of (is_kind 24) book

  -- there are as many as numbers, and constant i has number i
  pub as_many : length (constants book) ≡ length numbers
  unfolding constants
  as_many = length-map numbers (constant_at book)

  pub number_of : (i : ℕ) → (constant_in (constants book) i).place ≡ get_or numbers i 0
  unfolding constants constant_in constant_at
  number_of i = sym (get_or-map (λ (c : Constant). c.place) (constants book) i _) ∙ ap (λ l. get_or l i 0) (places numbers)
    where
      places : (l : List ℕ) → map (λ (c : Constant). c.place) (map (constant_at book) l) ≡ l
      places [] = refl
      places (n ∷ l) = ap (λ r. n ∷ r) (places l)

  -- it is one of them
  pub among : (i : ℕ) → i < length (constants book) → Memᴰ (constant_in (constants book) i) (constants book)
  unfolding constant_in
  among i less =
      subst (Memᴰ (constant_in (constants book) i)) (take-length (constants book))
      (at_mem_take (constants book) i (length (constants book)) _ less less)

  -- they stand one behind the other
  pub places_ascend :
      (i j : ℕ) → i < j → j < length (constants book) → (constant_in (constants book) i).place < (constant_in (constants book) j).place
  unfolding numbers_of
  places_ascend i j first less =
      let ascend = ascending 0 numbers (kept_ascend (λ n. is_kind 24 (book ! n)) 0 (length book.records)) i j first (omega (arith, as_many)) in
      omega (arith, ascend, number_of i, number_of j)

  -- no other has its name
  pub one_name :
      WellFormed book.records → (i j : ℕ) → i < length (constants book) → j < length (constants book) →
      (constant_in (constants book) i).name ≡ (constant_in (constants book) j).name → i ≡ j
  one_name sound i j less less' same =
      let one = distinct book sound _ _ (among i less) (among j less') same in
      let place = ap (λ (c : Constant). c.place) one in
      let up : ¬ (i < j) = λ first. omega (arith, place, places_ascend i j first less') in
      let down : ¬ (j < i) = λ first. omega (arith, place, places_ascend j i first less) in
      omega arith
