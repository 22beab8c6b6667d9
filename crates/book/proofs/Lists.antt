-- What holds of each element of a list, and of what may be there.
-- Assumes nothing.
use Prim.Native.Nat.{ℕ, zero, suc, ◌≤◌, ◌<◌}
use mathlib.Core.Bool.{Bool, true, false, cond, ◌||◌, false≢true}
use mathlib.Core.List.{List, [], ◌∷◌, ◌++◌, map, Memᴰ}
use mathlib.Core.Option.{Option, some, none}
use mathlib.Core.Path.{◌≡◌, refl, sym, ap, ◌∙◌}
use native.Mathlib.Omega.{arith}
use lib.ListN.{length, drop, get_or}
use Rattle.book.specs.Lists.{All, any, find, keep, keep_while, from}

-- a Boolean by its cases
pub itself : (b : Bool) → elim b [ true ↦ true | false ↦ false ] ≡ b
itself true = refl
itself false = refl

-- a test of some elements behind others, of one, and of one behind others
module _ {A : Type 0} (test : A → Bool) where
  pub any_append : (l r : List A) → any test (l ++ r) ≡ any test l || any test r
  unfolding any
  any_append [] r = refl
  any_append (x ∷ l) r = go (test x) (any_append l r)
    where
      go :
          (b : Bool) → any test (l ++ r) ≡ any test l || any test r →
          elim b [ true ↦ true | false ↦ any test (l ++ r) ] ≡ elim b [ true ↦ true | false ↦ any test l ] || any test r
      go true e = refl
      go false e = e

  pub any_one : (x : A) → any test (x ∷ []) ≡ test x
  unfolding any
  any_one x = itself (test x)

  pub any_more : (l : List A) (x : A) → any test (l ++ (x ∷ [])) ≡ any test l || test x
  any_more l x = any_append l (x ∷ []) ∙ ap (λ b. any test l || b) (any_one x)

-- what holds both ways holds whichever is taken
pub either : {A : Type 0} (P : A → Type 0) (b : Bool) {x y : A} → P x → P y → P (cond b x y)
either P true p q = p
either P false p q = q

module _ {A : Type 0} (P : A → Type 0) where
  abbrev pub If : Option A → Type 0
  If none = Unit
  If (some x) = P x

  pub all_append : (l r : List A) → All P l → All P r → All P (l ++ r)
  all_append [] r p q = q
  all_append (x ∷ l) r p q = (p.0, all_append l r p.1 q)

  pub all_keep : (test : A → Bool) (l : List A) → All P l → All P (keep test l)
  unfolding keep
  all_keep test [] p = tt
  all_keep test (x ∷ l) p = either (All P) (test x) (p.0, all_keep test l p.1) (all_keep test l p.1)

  pub all-keep_while : (test : A → Bool) (l : List A) → All P l → All P (keep_while test l)
  unfolding keep_while
  all-keep_while test [] p = tt
  all-keep_while test (x ∷ l) p = either (All P) (test x) (p.0, all-keep_while test l p.1) tt

  pub all_drop : (n : ℕ) (l : List A) → All P l → All P (drop n l)
  all_drop zero l p = p
  all_drop (suc n) [] p = tt
  all_drop (suc n) (x ∷ l) p = all_drop n l p.1

  pub all_at : (l : List A) (n : ℕ) (d : A) → All P l → P d → P (get_or l n d)
  all_at [] n d p q = q
  all_at (x ∷ l) zero d p q = p.0
  all_at (x ∷ l) (suc n) d p q = all_at l n d p.1 q

  pub if-find : (test : A → Bool) (l : List A) → All P l → If (find test l)
  unfolding find
  if-find test [] p = tt
  if-find test (x ∷ l) p = go (test x) (if-find test l p.1)
    where
      go : (b : Bool) → If (find test l) → If (elim b [ true ↦ some x | false ↦ find test l ])
      go true q = p.0
      go false q = q

  pub all_map : {B : Type 0} (f : B → A) → ((b : B) → P (f b)) → (l : List B) → All P (map f l)
  all_map f p [] = tt
  all_map f p (b ∷ l) = (p b, all_map f p l)

-- no more are kept than there are, and as many numbers come as are asked for
pub keep-length : {A : Type 0} (test : A → Bool) (l : List A) → length (keep test l) ≤ length l
unfolding keep
keep-length test [] = omega arith
keep-length test (x ∷ l) =
    let less = keep-length test l in
    either (λ k. length k ≤ suc (length l)) (test x) {x = x ∷ keep test l} (omega arith) (omega arith)

pub from-length : (n m : ℕ) → length (from n m) ≡ m
unfolding from
from-length n zero = refl
from-length n (suc m) = ap suc (from-length (suc n) m)

-- two tests that agree on the members of a list keep the same
pub keep_agree : {A : Type 0} (p q : A → Bool) (l : List A) → ((x : A) → Memᴰ x l → p x ≡ q x) → keep p l ≡ keep q l
unfolding keep
keep_agree p q [] h = refl
keep_agree p q (x ∷ l) h =
    let e = h x (Memᴰ.head refl) in
    let k = keep_agree p q l (λ y m. h y (Memᴰ.tail m)) in
    λ i. cond (e i) (x ∷ k i) (k i)

-- a test that passes fewer keeps fewer
module _ {A : Type 0} (p q : A → Bool) (h : (x : A) → q x ≡ true → p x ≡ true) where
  fewer : (l : List A) → length (keep q l) ≤ length (keep p l)
  unfolding keep
  fewer [] = omega arith
  fewer (x ∷ l) = go (p x) (q x) (h x) (fewer l)
    where
      go :
          (a b : Bool) → (b ≡ true → a ≡ true) → length (keep q l) ≤ length (keep p l) →
          length (cond b (x ∷ keep q l) (keep q l)) ≤ length (cond a (x ∷ keep p l) (keep p l))
      go true true f less = omega arith
      go true false f less = omega arith
      go false true f less = absurd (false≢true (f refl))
      go false false f less = less

  pub keep_less : {x : A} {l : List A} → Memᴰ x l → p x ≡ true → q x ≡ false → length (keep q l) < length (keep p l)
  unfolding keep
  keep_less (Memᴰ.head {xs = l} e) t f = rw (sym (ap p e) ∙ t, sym (ap q e) ∙ f) (omega (arith, fewer l))
  keep_less (Memᴰ.tail {x = y} {xs = l} m) t f = go (p y) (q y) (h y) (keep_less m t f)
    where
      go :
          (a b : Bool) → (b ≡ true → a ≡ true) → length (keep q l) < length (keep p l) →
          length (cond b (y ∷ keep q l) (keep q l)) < length (cond a (y ∷ keep p l) (keep p l))
      go true true f s = omega arith
      go true false f s = omega arith
      go false true f s = absurd (false≢true (f refl))
      go false false f s = s
