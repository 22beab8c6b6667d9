-- The first refusal is the first row that holds. What `find` gives is followed through lists in the order of a key;
-- `in_order` is in the order of three: the part of the book, the place in it, and the number of the cause.
-- Assumes nothing.
use Prim.Native.Nat.{ℕ, zero, suc, ◌+◌, ◌≤◌, ◌<◌}
use mathlib.Core.Bool.{Bool, true, false, ◌&&◌, ◌||◌, false≢true}
use mathlib.Core.List.{List, [], ◌∷◌, ◌++◌, flat_map}
use mathlib.Core.Logic.{◌↔◌}
use mathlib.Core.Option.{Option, some, none, or_else}
use mathlib.Core.Path.{◌≡◌, refl, sym, ap, ◌∙◌}
use native.Mathlib.Decide.{ℕ_discrete}
use native.Mathlib.Omega.{arith}
use lib.Dec.{ltb, eqb, lit<, lit≤}
use lib.ListN.{get_or}
use borrow.Author.Tests.{ltb-true, eqb-true, lt-ltb, le-ltb, eq-eqb, ne_eqb}
use Rattle.book.specs.Lists.{find, from}
use Rattle.book.specs.Blocks.{blocks, record_count, records}
use Rattle.book.specs.Refusal.{Cause, book_length, check, block, shape, child, follow, name, depth}
use Rattle.book.specs.Refusal.{Refusal, at, number, faulty, in_order, first_refusal}
use Rattle.book.specs.First.{has_place, part, earlier, IsFirst, RefusedByTheFirst, PassedByAll}

-- those of P whose key is from n to below m
abbrev Span : {A : Type 0} → (A → Type 0) → (A → ℕ) → ℕ → ℕ → A → Type 0
Span P key n m x = P x × (n ≤ key x) × (key x < m)

-- what `find` gives for a list from its head x, for which the test gives b, and from what it gives behind x
abbrev pick : {A : Type 0} → Bool → A → Option A → Option A
pick b x o = elim b [ true ↦ some x | false ↦ o ]

pub find-append :
    {A : Type 0} (test : A → Bool) (l r : List A) → find test (l ++ r) ≡ or_else (find test l) (find test r)
unfolding find or_else
find-append test [] r = refl
find-append {A} test (x ∷ l) r = go (test x) (find test (l ++ r)) (find-append test l r)
  where
    go :
        (b : Bool) (o : Option A) → o ≡ or_else (find test l) (find test r) →
        pick b x o ≡ or_else (pick b x (find test l)) (find test r)
    go true o e = refl
    go false o e = e

module _ {A : Type 0} (test : A → Bool) (before : A → A → Bool) where
  -- of those of P that pass the test: there is none, or this one, and none is before it
  abbrev First : (A → Type 0) → Option A → Type 0
  First P none = (y : A) → P y → test y ≡ true → ⊥
  First P (some x) = P x × (test x ≡ true) × ((y : A) → P y → before y x ≡ true → test y ≡ true → ⊥)

  -- `find` gives the first of those of P whose key is from n to below m
  abbrev Found : (A → Type 0) → (A → ℕ) → ℕ → ℕ → List A → Type 0
  Found P key n m l = First (Span P key n m) (find test l)

  -- P and Q hold for the same of those that pass
  renamed :
      {P Q : A → Type 0} (o : Option A) →
      ((x : A) → P x → Q x) → ((x : A) → Q x → test x ≡ true → P x) → First P o → First Q o
  renamed none to back f = λ y h t. f y (back y h t) t
  renamed (some x) to back f = (to x f.0, f.1, λ y h b t. f.2 y (back y h t) b t)

  -- x is all of P
  alone : {P : A → Type 0} (x : A) → P x → ((y : A) → P y → y ≡ x) → (before x x ≡ true → ⊥) → First P (find test (x ∷ []))
  unfolding find
  alone {P} x h same irreflexive = go (test x) refl
    where
      go : (b : Bool) → test x ≡ b → First P (pick b x none)
      go true e = (h, e, λ y k b t. irreflexive (rw (same y k) at b))
      go false e = λ y k t. false≢true (sym e ∙ ap test (sym (same y k)) ∙ t)

  -- those of P with a smaller key are not behind the others
  module _ {P : A → Type 0} (key : A → ℕ) (up : (x y : A) → P x → P y → key x < key y → before y x ≡ true → ⊥) where
    append :
        (n k m : ℕ) (l r : List A) → n ≤ k → k ≤ m →
        Found P key n k l → Found P key k m r → Found P key n m (l ++ r)
    unfolding or_else
    append n k m l r low high f g = rw (find-append test l r) (go (find test l) f)
      where
        go : (o : Option A) → First (Span P key n k) o → First (Span P key n m) (or_else o (find test r))
        go none f =
            renamed (find test r)
            (λ x h. (h.0, omega arith, h.2))
            (λ x h t. let past : ¬ (key x < k) = λ less. f x (h.0, h.1, less) t in (h.0, omega arith, h.2))
            g
        go (some x) f = (
          (f.0.0, f.0.1, omega arith),
          f.1,
          λ y h b t. let past : ¬ (key y < k) = λ less. f.2 y (h.0, h.1, less) b t in up x y f.0.0 h.0 (omega arith) b,
        )

    each :
        (f : ℕ → List A) → ((k : ℕ) → Found P key k (suc k) (f k)) →
        (m n end : ℕ) → n + m ≡ end → Found P key n end (flat_map f (from n m))
    unfolding find flat_map from
    each f h zero n end e = λ y k t. omega arith
    each f h (suc m) n end e =
        append n (suc n) end (f n) (flat_map f (from (suc n) m)) (omega arith) (omega arith) (h n)
        (each f h m (suc n) end (omega arith))

-- one key of `earlier`, and the rest, which decides where the key is equal: why the order fails, and what is known
-- where it fails both ways
not_below : (a b : ℕ) (rest : Bool) → b ≤ a → (a ≡ b → rest ≡ true → ⊥) → ltb a b || eqb a b && rest ≡ true → ⊥
not_below a b rest h f e = go (ℕ_discrete a b)
  where
    go : Dec (a ≡ b) → ⊥
    go (yes q) = f q (rw (le-ltb a b h, eq-eqb a b q) at e)
    go (no n) = false≢true (rw (le-ltb a b h, ne_eqb a b n) at e)

tied :
    (a b : ℕ) (r s : Bool) → (ltb a b || eqb a b && r ≡ true → ⊥) → (ltb b a || eqb b a && s ≡ true → ⊥) →
    (a ≡ b) × (r ≡ true → ⊥) × (s ≡ true → ⊥)
tied a b r s f g =
    let up : ¬ (a < b) = λ less. f (rw (lt-ltb a b less)) in
    let down : ¬ (b < a) = λ less. g (rw (lt-ltb b a less)) in
    let e : a ≡ b = omega arith in
    (e, λ h. f (rw (le-ltb a b (omega arith), eq-eqb a b e) h), λ h. g (rw (le-ltb b a (omega arith), eq-eqb b a (sym e)) h))

-- the keys
abbrev part_of : Refusal → ℕ
part_of x = part x.cause

abbrev place_of : Refusal → ℕ
place_of x = x.place

abbrev number_of : Refusal → ℕ
number_of x = number x.cause

not_earlier :
    (x y : Refusal) →
    (part_of x ≤ part_of y)
    × (part_of x ≡ part_of y → place_of x ≤ place_of y)
    × (part_of x ≡ part_of y → place_of x ≡ place_of y → number_of x ≤ number_of y) →
    earlier y x ≡ true → ⊥
unfolding earlier
not_earlier x y (p, q, r) =
    not_below _ _ _ p (λ e. not_below _ _ _ (q (sym e)) (λ d less. omega (arith, ltb-true, r (sym e) (sym d))))

-- the numbers of the causes of part q are from `low q` to below `high q`
low : ℕ → ℕ
low q = get_or (1 ∷ 2 ∷ 4 ∷ []) q 0

high : ℕ → ℕ
high q = get_or (2 ∷ 4 ∷ 9 ∷ []) q 0

causes : List Cause
causes = book_length ∷ book_length ∷ check ∷ block ∷ shape ∷ child ∷ follow ∷ name ∷ depth ∷ []

numbered :
    (c : Cause) →
    (get_or causes (number c) book_length ≡ c) × (part c < 3) × (low (part c) ≤ number c) × (number c < high (part c))
unfolding causes low high part number
numbered book_length = (refl, lit< tt, lit≤ tt, lit< tt)
numbered check = (refl, lit< tt, lit≤ tt, lit< tt)
numbered block = (refl, lit< tt, lit≤ tt, lit< tt)
numbered shape = (refl, lit< tt, lit≤ tt, lit< tt)
numbered child = (refl, lit< tt, lit≤ tt, lit< tt)
numbered follow = (refl, lit< tt, lit≤ tt, lit< tt)
numbered name = (refl, lit< tt, lit≤ tt, lit< tt)
numbered depth = (refl, lit< tt, lit≤ tt, lit< tt)

pub same : (x y : Refusal) → place_of x ≡ place_of y → number_of x ≡ number_of y → x ≡ y
same x y p n =
    let c = sym (numbered x.cause).0 ∙ ap (λ (k : ℕ). get_or causes k book_length) n ∙ (numbered y.cause).0 in
    λ i. record { cause = c i; place = p i }

neither_earlier : (x y : Refusal) → (earlier x y ≡ true → ⊥) → (earlier y x ≡ true → ⊥) → x ≡ y
unfolding earlier
neither_earlier x y f g =
    let (e, f', g') = tied (part_of x) (part_of y) _ _ f g in
    let (p, f'', g'') = tied (place_of x) (place_of y) _ _ f' g' in
    let up : ¬ (number_of x < number_of y) = λ less. f'' (lt-ltb _ _ less) in
    let down : ¬ (number_of y < number_of x) = λ less. g'' (lt-ltb _ _ less) in
    same x y p (omega arith)

below : {a b : ℕ} → (ltb a b ≡ true) ↔ (a < b)
below {a} {b} = (ltb-true a b, lt-ltb a b)

module _ (book : List ℕ) where
  -- how many places part q has
  places : ℕ → ℕ
  places q = get_or (1 ∷ blocks book ∷ record_count book ∷ []) q 0

  has_place_lem : (c : Cause) (p : ℕ) → (has_place book c p ≡ true) ↔ (p < places (part c))
  unfolding has_place places part
  has_place_lem book_length p = (λ e. omega (arith, eqb-true), λ less. eq-eqb p 0 (omega arith))
  has_place_lem check p = below
  has_place_lem block p = below
  has_place_lem shape p = below
  has_place_lem child p = below
  has_place_lem follow p = below
  has_place_lem name p = below
  has_place_lem depth p = below

  abbrev holds : Refusal → Bool
  holds x = faulty book (records book) x.cause x.place

  abbrev Placed : Refusal → Type 0
  Placed x = has_place book x.cause x.place ≡ true

  abbrev At : ℕ → ℕ → Refusal → Type 0
  At q p x = (part_of x ≡ q) × (place_of x ≡ p)

  -- at each place of a part: its causes, from the last to the first
  no_more : (q p : ℕ) → Found holds earlier (At q p) number_of (high q) (high q) []
  unfolding find
  no_more q p = λ y h t. omega arith

  one_more_lem :
      (c : Cause) (f : ℕ → List Refusal) →
      ((p : ℕ) → Found holds earlier (At (part c) p) number_of (suc (number c)) (high (part c)) (f p)) →
      (p : ℕ) → Found holds earlier (At (part c) p) number_of (number c) (high (part c)) (at c p ∷ f p)
  one_more_lem c f h p =
      let x = at c p in
      append holds earlier number_of (λ x y k m less. not_earlier x y (omega arith))
      (number c) (suc (number c)) (high (part c)) (x ∷ []) (f p) (omega arith) (omega (arith, numbered c))
      (alone holds earlier x (omega arith) (λ y k. same y x (omega arith) (omega arith)) (not_earlier x x (omega arith)))
      (h p)

  -- a part: its places
  whole :
      (q : ℕ) (f : ℕ → List Refusal) →
      ((p : ℕ) → Found holds earlier (At q p) number_of (low q) (high q) (f p)) →
      Found holds earlier Placed part_of q (suc q) (flat_map f (from 0 (places q)))
  whole q f h =
      renamed holds earlier (find holds (flat_map f (from 0 (places q))))
      (λ x k. ((has_place_lem x.cause x.place).1 (omega (arith, ap places k.0)), omega arith, omega arith))
      (λ x k t.
      let e : part_of x ≡ q = omega arith in
      omega (arith, ap places e, (has_place_lem x.cause x.place).0 k.0))
      (each holds earlier place_of (λ x y k m less. not_earlier x y (omega arith)) f row (places q) 0 (places q) (omega arith))
    where
      row : (p : ℕ) → Found holds earlier (λ x. part_of x ≡ q) place_of p (suc p) (f p)
      row p =
          renamed holds earlier (find holds (f p))
          (λ x k. omega arith)
          (λ x k t. omega (arith, numbered x.cause, ap low k.0, ap high k.0))
          (h p)

  found : First holds earlier Placed (first_refusal book)
  unfolding first_refusal in_order flat_map from places low high part number
  found =
      renamed holds earlier (first_refusal book)
      (λ x h. h.0)
      (λ x h t. (h, omega arith, omega (arith, numbered x.cause)))
      (append holds earlier part_of up 0 2 3 _ _ (lit≤ tt) (lit≤ tt)
      (append holds earlier part_of up 0 1 2 _ _ (lit≤ tt) (lit≤ tt)
      (whole 0 _ (one_more_lem book_length _ (no_more 0)))
      (whole 1 _ (one_more_lem check _ (one_more_lem block _ (no_more 1)))))
      (whole 2 _ (one_more_lem shape _ (one_more_lem child _ (one_more_lem follow _ (one_more_lem name _ (one_more_lem depth _ (no_more 2))))))))
    where
      up : (x y : Refusal) → Placed x → Placed y → part_of x < part_of y → earlier y x ≡ true → ⊥
      up x y h k less = not_earlier x y (omega arith)

  only_first : (x : Refusal) (o : Option Refusal) → First holds earlier Placed o → IsFirst book x → o ≡ some x
  only_first x none f h = absurd (f x h.there h.holds)
  only_first x (some y) f h =
      ap some (neither_earlier y x (λ b. h.none_earlier y f.0 b f.1) (λ b. f.2 x h.there b h.holds))

  only_none : (o : Option Refusal) → First holds earlier Placed o → ((y : Refusal) → Placed y → holds y ≡ true → ⊥) → o ≡ none
  only_none none f h = refl
  only_none (some y) f h = absurd (h y f.0 f.1)

pub refused_by_the_first : RefusedByTheFirst
refused_by_the_first book x = (
  λ e.
      let f = rw e at (found book) in
      record { there = f.0; holds = f.1; none_earlier = f.2 },
  only_first book x (first_refusal book) (found book),
)

pub passed_by_all : PassedByAll
passed_by_all book = (λ e. rw e at (found book), only_none book (first_refusal book) (found book))
