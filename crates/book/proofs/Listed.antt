-- The numbers of the records that pass a test, one record after the other.
-- Assumes nothing.
use Prim.Native.Nat.{ℕ, zero, suc, ◌+◌, ◌≤◌, ◌<◌}
use mathlib.Core.Bool.{Bool, true, false, cond, ◌&&◌, ◌||◌, or-false, true≢false}
use mathlib.Core.List.{List, [], ◌∷◌, ◌++◌, map, append-nil}
use mathlib.Core.Path.{◌≡◌, refl, sym, ap, ◌∙◌}
use native.Mathlib.Omega.{arith}
use lib.ListN.{length, take}
use lib.Seq.{take-suc}
use Rattle.record.specs.declared.Record.{Record}
use Rattle.book.specs.Lists.{any, keep, from, up_to}
use Rattle.book.specs.Faults.{record_of}
use Rattle.book.proofs.Lists.{any_more}
use Rattle.book.proofs.Places.{keep_append}
use Rattle.book.proofs.Marks.{up_to_last}

-- a test of results, and of the elements that pass another one
pub any-map : {A B : Type 0} (test : B → Bool) (f : A → B) (l : List A) → any test (map f l) ≡ any (λ x. test (f x)) l
unfolding any
any-map test f [] = refl
any-map test f (x ∷ l) = let e = any-map test f l in λ i. elim (test (f x)) [ true ↦ true | false ↦ e i ]

module _ {A : Type 0} where
  -- one element more is kept, or is not
  pub keep_more :
      (test : A → Bool) (l : List A) (x : A) → keep test (l ++ (x ∷ [])) ≡ cond (test x) (keep test l ++ (x ∷ [])) (keep test l)
  unfolding keep
  keep_more test l x = keep_append test l (x ∷ []) ∙ last (test x)
    where
      last : (b : Bool) → keep test l ++ cond b (x ∷ []) [] ≡ cond b (keep test l ++ (x ∷ [])) (keep test l)
      last true = refl
      last false = append-nil (keep test l)

  -- two tests that no element passes both of keep no more than there are
  pub keep_apart :
      (p q : A → Bool) → ((x : A) → p x ≡ true → q x ≡ false) → (l : List A) → length (keep p l) + length (keep q l) ≤ length l
  unfolding keep
  keep_apart p q h [] = omega arith
  keep_apart p q h (x ∷ l) = go (p x) (q x) (h x) (keep_apart p q h l)
    where
      go :
          (a b : Bool) → (a ≡ true → b ≡ false) → length (keep p l) + length (keep q l) ≤ length l →
          length (cond a (x ∷ keep p l) (keep p l)) + length (cond b (x ∷ keep q l) (keep q l)) ≤ suc (length l)
      go true true f less = absurd (true≢false (f refl))
      go true false f less = omega arith
      go false true f less = omega arith
      go false false f less = omega arith

-- a test of the records before the one behind n
pub any_next :
    (test : Record → Bool) (rs : List Record) (n : ℕ) → n < length rs →
    any test (take (suc n) rs) ≡ any test (take n rs) || test (record_of rs n)
unfolding record_of
any_next test rs n less =
    let e : take (suc n) rs ≡ take n rs ++ (record_of rs n ∷ []) = take-suc rs n _ less in
    ap (any test) e ∙ any_more test (take n rs) (record_of rs n)

-- the numbers below n of the records that pass; up to the last record they are `numbers_of`
abbrev pub numbers_below : (Record → Bool) → List Record → ℕ → List ℕ
numbers_below test rs n = keep (λ k. test (record_of rs k)) (up_to n)

module _ (test : Record → Bool) (rs : List Record) where
  -- one record more
  pub listed_next :
      (n : ℕ) (b : Bool) → test (record_of rs n) ≡ b →
      numbers_below test rs (suc n) ≡ cond b (numbers_below test rs n ++ (n ∷ [])) (numbers_below test rs n)
  listed_next n b e =
      let passes : ℕ → Bool = λ k. test (record_of rs k) in
      ap (keep passes) (up_to_last n) ∙ keep_more passes (up_to n) n
      ∙ ap (λ b. cond b (numbers_below test rs n ++ (n ∷ [])) (numbers_below test rs n)) e

  -- whether one of them passes another test
  pub any_listed :
      (other : Record → Bool) (n : ℕ) → n ≤ length rs →
      any (λ r. test r && other r) (take n rs) ≡ any (λ k. other (record_of rs k)) (numbers_below test rs n)
  unfolding any keep from
  any_listed other zero less = refl
  any_listed other (suc n) less = any_next both rs n less ∙ go (test (record_of rs n)) refl (any_listed other n (omega arith))
    where
      both : Record → Bool
      both r = test r && other r

      passes : ℕ → Bool
      passes k = other (record_of rs k)

      go :
          (b : Bool) → test (record_of rs n) ≡ b → any both (take n rs) ≡ any passes (numbers_below test rs n) →
          any both (take n rs) || (test (record_of rs n) && passes n) ≡ any passes (numbers_below test rs (suc n))
      go true e h = rw (e, listed_next n true e, h) (sym (any_more passes (numbers_below test rs n) n))
      go false e h = rw (e, listed_next n false e, or-false (any both (take n rs))) h
