-- What stands in a list: among the elements that pass, among the numbers below a bound, and what `any` says of it.
-- Assumes nothing.
use Prim.Native.Nat.{ℕ, zero, suc, ◌+◌, ◌≤◌, ◌<◌}
use mathlib.Core.Bool.{Bool, true, false, cond, false≢true}
use mathlib.Core.List.Memᴰ
use mathlib.Core.List.{List, [], ◌∷◌, Memᴰ, ◌++◌}
use mathlib.Core.Logic.{⊎_elim}
use mathlib.Core.Option.{Option, some, none}
use mathlib.Core.Path.{◌≡◌, refl, sym, ap, ◌∙◌, subst}
use native.Mathlib.Omega.{arith}
use lib.ListN.{length, take, get_or}
use Rattle.book.specs.Lists.{All, any, find, keep, from, up_to}

module _ {A : Type 0} where
  pub mem_keep : {x : A} (test : A → Bool) (l : List A) → Memᴰ x (keep test l) → Memᴰ x l × (test x ≡ true)
  unfolding keep
  mem_keep test [] m = absurd (Memᴰ.not-nil m)
  mem_keep {x} test (y ∷ l) m = go (test y) refl (mem_keep test l) m
    where
      go :
          (b : Bool) → test y ≡ b → (Memᴰ x (keep test l) → Memᴰ x l × (test x ≡ true)) →
          Memᴰ x (cond b (y ∷ keep test l) (keep test l)) → Memᴰ x (y ∷ l) × (test x ≡ true)
      go true t rest m =
          ⊎_elim
          (λ e. (Memᴰ.head e, ap test e ∙ t))
          (λ n. (Memᴰ.tail (rest n).0, (rest n).1))
          (Memᴰ.cases_cons m)
      go false t rest m = (Memᴰ.tail (rest m).0, (rest m).1)

  pub keep_mem : {x : A} {l : List A} (test : A → Bool) → Memᴰ x l → test x ≡ true → Memᴰ x (keep test l)
  unfolding keep
  keep_mem test (Memᴰ.head e) t = rw (sym (ap test e) ∙ t) (Memᴰ.head e)
  keep_mem {x} test (Memᴰ.tail {x = y} {xs} m) t = go (test y) (keep_mem test m t)
    where
      go : (b : Bool) → Memᴰ x (keep test xs) → Memᴰ x (cond b (y ∷ keep test xs) (keep test xs))
      go true k = Memᴰ.tail k
      go false k = k

  -- some element passes
  pub any_mem : (test : A → Bool) (l : List A) → any test l ≡ true → (x : A) × Memᴰ x l × (test x ≡ true)
  unfolding any
  any_mem test [] e = absurd (false≢true e)
  any_mem test (y ∷ l) e = go (test y) refl (any_mem test l) e
    where
      go :
          (b : Bool) → test y ≡ b → (any test l ≡ true → (x : A) × Memᴰ x l × (test x ≡ true)) →
          elim b [ true ↦ true | false ↦ any test l ] ≡ true → (x : A) × Memᴰ x (y ∷ l) × (test x ≡ true)
      go true t rest e = (y, Memᴰ.head refl, t)
      go false t rest e = let (x, m, u) = rest e in (x, Memᴰ.tail m, u)

  pub mem_any : {x : A} {l : List A} (test : A → Bool) → Memᴰ x l → test x ≡ true → any test l ≡ true
  unfolding any
  mem_any test (Memᴰ.head e) t = rw (ap test (sym e) ∙ t, any) refl
  mem_any test (Memᴰ.tail {x = y} {xs} m) t = go (test y) (mem_any test m t)
    where
      go : (b : Bool) → any test xs ≡ true → elim b [ true ↦ true | false ↦ any test xs ] ≡ true
      go true h = refl
      go false h = h

  -- what holds of each element holds of the members, and back
  pub of_all : (P : A → Type 0) (l : List A) → All P l → (x : A) → Memᴰ x l → P x
  of_all P [] p x m = absurd (Memᴰ.not-nil m)
  of_all P (y ∷ l) p x m = ⊎_elim (λ e. subst P (sym e) p.0) (of_all P l p.1 x) (Memᴰ.cases_cons m)

  pub all_of : (P : A → Type 0) (l : List A) → ((x : A) → Memᴰ x l → P x) → All P l
  all_of P [] h = tt
  all_of P (x ∷ l) h = (h x (Memᴰ.head refl), all_of P l (λ y m. h y (Memᴰ.tail m)))

  -- the first that passes: it stands behind some that do not
  pub record First (test : A → Bool) (l : List A) (x : A) : Type 0 where
    pub before : List A
    pub behind : List A
    pub there : l ≡ before ++ (x ∷ behind)
    pub passes : test x ≡ true
    pub none_before : (y : A) → Memᴰ y before → test y ≡ false

  pub first_mem : {test : A → Bool} {l : List A} {x : A} → First test l x → Memᴰ x l
  first_mem {x = x} f = subst (Memᴰ x) (sym f.there) (Memᴰ.append_right f.before (Memᴰ.head refl))

  abbrev pub Found : (A → Bool) → List A → Option A → Type 0
  Found test l none = (x : A) → Memᴰ x l → test x ≡ false
  Found test l (some x) = First test l x

  pub found : (test : A → Bool) (l : List A) → Found test l (find test l)
  unfolding find
  found test [] = λ x m. absurd (Memᴰ.not-nil m)
  found test (x ∷ l) = go (test x) refl (find test l) (found test l)
    where
      go : (b : Bool) → test x ≡ b → (o : Option A) → Found test l o → Found test (x ∷ l) (elim b [ true ↦ some x | false ↦ o ])
      go true e o f = record { before = []; behind = l; there = refl; passes = e; none_before = λ y m. absurd (Memᴰ.not-nil m) }
      go false e none f = λ y m. ⊎_elim (λ q. ap test q ∙ e) (f y) (Memᴰ.cases_cons m)
      go false e (some y) f =
          record {
            before = x ∷ f.before;
            behind = f.behind;
            there = ap (λ r. x ∷ r) f.there;
            passes = f.passes;
            none_before = λ y m. ⊎_elim (λ q. ap test q ∙ e) (f.none_before y) (Memᴰ.cases_cons m);
          }

  -- element n stands among the first k
  pub at_mem_take : (l : List A) (n k : ℕ) (d : A) → n < length l → n < k → Memᴰ (get_or l n d) (take k l)
  at_mem_take l n zero d less first = absurd (omega arith)
  at_mem_take [] n (suc k) d less first = absurd (omega arith)
  at_mem_take (x ∷ l) zero (suc k) d less first = Memᴰ.head refl
  at_mem_take (x ∷ l) (suc n) (suc k) d less first = Memᴰ.tail (at_mem_take l n k d (omega arith) (omega arith))

-- the m numbers from n on
pub mem_from : {k : ℕ} (n m : ℕ) → Memᴰ k (from n m) → (n ≤ k) × (k < n + m)
unfolding from
mem_from n zero h = absurd (Memᴰ.not-nil h)
mem_from {k} n (suc m) h =
    ⊎_elim
    (λ (e : k ≡ n). (omega arith, omega arith))
    (λ t. let (low, high) = mem_from (suc n) m t in (omega arith, omega arith))
    (Memᴰ.cases_cons h)

pub mem_up_to : {k : ℕ} (n : ℕ) → Memᴰ k (up_to n) → k < n
mem_up_to n h = let (low, high) = mem_from 0 n h in omega arith

pub at_from : (n m k d : ℕ) → k < m → get_or (from n m) k d ≡ n + k
unfolding from
at_from n zero k d less = absurd (omega arith)
at_from n (suc m) zero d less = omega arith
at_from n (suc m) (suc k) d less = at_from (suc n) m k d (omega arith) ∙ omega arith
