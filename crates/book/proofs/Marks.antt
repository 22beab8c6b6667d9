-- Which records are used as children, and which are left as roots.
-- Assumes nothing.
use Rattle.std.specs.Prelude.{Option, Some, None}
use Rattle.std.proofs.Math.Option as defined
use Prim.Native.Nat.{ℕ, zero, suc, ◌+◌, ◌≤◌, ◌<◌, max}
use mathlib.Core.Bool.{Bool, true, false, cond, not, ◌||◌, or_assoc, or_comm, or-false, or-true, false≢true}
use mathlib.Core.List.{List, [], ◌∷◌, ◌++◌, append-nil, append_assoc}
use mathlib.Core.Option.{some, none}
use mathlib.Core.Path.{◌≡◌, refl, sym, ap, ap₂, ◌∙◌, subst}
use native.Mathlib.Decide.{ℕ_discrete}
use native.Mathlib.Numerals.{add-one}
use native.Mathlib.Omega.{arith}
use lib.Dec.{leb, ltb, eqb, leb-suc-suc}
use lib.ListN.{length, get_or, set, replicate, length-set, length-replicate}
use lib.Seq.{get_or-set_same, get_or-set_other}
use borrow.Author.Tests.{le-leb, lt-leb, le-ltb, lt-ltb, ltb-true, ltb-false, eqb-true, eq-eqb, ne_eqb}
use Rattle.record.specs.declared.Record.{Record}
use Rattle.book.specs.declared.shape.Group.{Group}
use Rattle.book.specs.declared.children.Tree.{Tree}
use Rattle.book.specs.Lists.{All, any, from, up_to}
use Rattle.book.specs.Shape.{Row, Child, children, row_of, group_number, in_group, is_of}
use Rattle.book.specs.Faults.{record_of, uses, used_before, used_twice, is_wrong, child_fault, deeper_than, depth_fault}
use Rattle.book.specs.Rows.{group_from}
use Rattle.book.specs.Tables.{IsTree, TreeAt, Trees, wrong, TakenAll}
use Rattle.book.proofs.Lists.{any_append, any_one, any_more}
use Rattle.book.proofs.Cells.{code_same}

-- one number more comes last
from_last : (n m : ℕ) → from n (suc m) ≡ from n m ++ ((n + m) ∷ [])
unfolding from
from_last n zero = ap (λ k. k ∷ []) (omega arith)
from_last n (suc m) = ap (λ l. n ∷ l) (from_last (suc n) m ∙ ap (λ k. from (suc n) m ++ (k ∷ [])) (omega arith))

pub up_to_last : (n : ℕ) → up_to (suc n) ≡ up_to n ++ (n ∷ [])
up_to_last n = from_last 0 n ∙ ap (λ k. up_to n ++ (k ∷ [])) (omega arith)

-- used before the record behind n: before n, or by n
used_before_next : (rs : List Record) (n k : ℕ) → used_before rs (suc n) k ≡ used_before rs n k || uses k (record_of rs n)
unfolding used_before
used_before_next rs n k =
    ap (any (λ m. uses k (record_of rs m))) (up_to_last n)
    ∙ any_more (λ m. uses k (record_of rs m)) (up_to n) n

-- whether two numbers are the same does not depend on which is asked first
same_number : (x y : ℕ) → eqb x y ≡ eqb y x
same_number x y = go (ℕ_discrete x y)
  where
    go : Dec (x ≡ y) → eqb x y ≡ eqb y x
    go (yes e) = eq-eqb _ _ e ∙ sym (eq-eqb _ _ (sym e))
    go (no ne) = ne_eqb _ _ ne ∙ sym (ne_eqb _ _ (λ e. ne (sym e)))

-- a test of two parts
any_or : {A : Type 0} (p q : A → Bool) (l : List A) → any (λ x. p x || q x) l ≡ any p l || any q l
unfolding any
any_or p q [] = refl
any_or p q (x ∷ l) = go (p x) (q x) (any_or p q l)
  where
    go :
        (a b : Bool) → any (λ x. p x || q x) l ≡ any p l || any q l →
        elim (a || b) [ true ↦ true | false ↦ any (λ x. p x || q x) l ]
        ≡ elim a [ true ↦ true | false ↦ any p l ] || elim b [ true ↦ true | false ↦ any q l ]
    go true b e = refl
    go false true e = sym (or-true (any p l))
    go false false e = e

-- the child's number is k
abbrev is_number : ℕ → Child → Bool
is_number k c = eqb c.number k

-- some number of `cs` comes again in `new`
abbrev among : List Child → List Child → Bool
among cs new = any (λ c. any (is_number c.number) cs) new

among_none : (new : List Child) → among [] new ≡ false
unfolding any
among_none [] = refl
among_none (c ∷ new) = among_none new

among-append : (cs ds new : List Child) → among (cs ++ ds) new ≡ among cs new || among ds new
among-append cs ds new =
    (λ i. any (λ (c : Child). any_append (is_number c.number) cs ds i) new)
    ∙ any_or (λ c. any (is_number c.number) cs) (λ c. any (is_number c.number) ds) new

among_one : (x : Child) (new : List Child) → among (x ∷ []) new ≡ any (is_number x.number) new
among_one x new = λ i. any (λ (c : Child). (any_one (is_number c.number) x ∙ same_number x.number c.number) i) new

used_twice-append : (cs new : List Child) → used_twice (cs ++ new) ≡ used_twice cs || used_twice new || among cs new
unfolding used_twice
used_twice-append [] new = sym (ap (λ b. used_twice new || b) (among_none new) ∙ or-false (used_twice new))
used_twice-append (x ∷ cs) new =
    let same : Child → Bool = is_number x.number in
    ap₂ ◌||◌ (any_append same cs new) (used_twice-append cs new)
    ∙ regroup (any same cs) (any same new) (used_twice cs) (used_twice new) (among cs new)
    ∙ ap (λ b. any same cs || used_twice cs || used_twice new || b)
    (sym (among-append (x ∷ []) cs new ∙ ap (λ b. b || among cs new) (among_one x new)))
  where
    regroup : (a b s t v : Bool) → (a || b) || (s || t || v) ≡ a || s || t || (b || v)
    regroup true b s t v = refl
    regroup false true s t v = sym (or-true (s || t))
    regroup false false s t v = refl

-- a tree is there or not
some_not_none : {t : Tree} → Some t ≡ None → ⊥
some_not_none e = cc

-- one child is wrong, behind those in `cs`
wrong-append : (rs : List Record) (n : ℕ) (cs new more : List Child) → wrong rs n cs (new ++ more) ≡ wrong rs n cs new || wrong rs n (cs ++ new) more
wrong-append rs n cs new more =
    ap₂ ◌||◌ (any_append (is_wrong rs n) new more) (ap₂ ◌||◌ (any_append _ new more) (used_twice-append new more))
    ∙ regroup (any (is_wrong rs n) new) (any (is_wrong rs n) more) (among cs new) (among cs more) (used_twice new) (used_twice more) (among new more)
    ∙ ap (λ b. wrong rs n cs new || (any (is_wrong rs n) more || (b || used_twice more))) (sym (among-append cs new more))
  where
    regroup : (a b p q s t v : Bool) → (a || b) || ((p || q) || (s || t || v)) ≡ (a || (p || s)) || (b || ((q || v) || t))
    regroup true b p q s t v = refl
    regroup false true p q s t v = sym (or-true (p || s))
    regroup false false true q s t v = refl
    regroup false false false true s t v = sym (or-true s)
    regroup false false false false true t v = refl
    regroup false false false false false t v = or_comm t v

-- the larger of two numbers is above d where one of them is
above_larger : (d a b : ℕ) → ltb d a || ltb d b ≡ ltb d (max a b)
above_larger d a b = go (ltb d a) (ltb d b) refl refl
  where
    go : (t u : Bool) → ltb d a ≡ t → ltb d b ≡ u → t || u ≡ ltb d (max a b)
    go true u e f = sym (lt-ltb d (max a b) (omega (arith, ltb-true d a e)))
    go false true e f = sym (lt-ltb d (max a b) (omega (arith, ltb-true d b f)))
    go false false e f = sym (le-ltb d (max a b) (omega (arith, ltb-false d a e, ltb-false d b f)))

module _ (rs : List Record) (n : ℕ) (cs new : List Child) where
  -- behind a wrong child the others count no more
  pub then_wrong : (more : List Child) → wrong rs n cs new ≡ true → wrong rs n cs (new ++ more) ≡ true
  then_wrong more is = wrong-append rs n cs new more ∙ ap (λ b. b || wrong rs n (cs ++ new) more) is

  -- behind right children it is the others
  pub then_other : (more : List Child) → wrong rs n cs new ≡ false → wrong rs n (cs ++ new) more ≡ true → wrong rs n cs (new ++ more) ≡ true
  then_other more right is = wrong-append rs n cs new more ∙ ap (λ b. b || wrong rs n (cs ++ new) more) right ∙ is

  pub then_right : {m x : ℕ} {more : List Child} {trees trees' : List (Option Tree)} → TakenAll rs n cs new m trees → TakenAll rs n (cs ++ new) more x trees' → TakenAll rs n cs (new ++ more) (max m x) trees'
  then_right {m} {x} {more} t u = record {
    right = wrong-append rs n cs new more ∙ ap (λ b. b || wrong rs n (cs ++ new) more) t.right ∙ u.right;
    left = rw append_assoc at u.left;
    deepest = λ d. any_append (λ c. deeper_than d rs c.number) new more ∙ ap₂ ◌||◌ (t.deepest d) (u.deepest d) ∙ above_larger d m x;
  }

-- a record is of one group at most
one_group : (g h : Group) (o : defined.Option Row) → in_group (group_from g) o ≡ true → in_group (group_from h) o ≡ true → g ≡ h
one_group g h none p q = absurd (false≢true p)
one_group g h (some w) p q =
    code_same g h (eqb-true (group_number (group_from g)) (group_number w.group) p ∙ sym (eqb-true (group_number (group_from h)) (group_number w.group) q))

-- what makes a child wrong
wrong_one :
    (rs : List Record) (n : ℕ) (cs : List Child) (c : Child) →
    wrong rs n cs (c ∷ []) ≡ leb n c.number || not (is_of c.group (record_of rs c.number)) || (used_before rs n c.number || any (is_number c.number) cs)
unfolding any used_twice
wrong_one rs n cs c =
    ap₂ ◌||◌ (any_one (is_wrong rs n) c) (or-false (among cs (c ∷ [])) ∙ any_one (λ (c : Child). any (is_number c.number) cs) c)
    ∙ or_assoc (leb n c.number || not (is_of c.group (record_of rs c.number))) (used_before rs n c.number) (any (is_number c.number) cs)

-- a tree less
take_at : (trees : List (Option Tree)) (x k : ℕ) → x < length trees → get_or (set trees x None) k None ≡ cond (eqb x k) None (get_or trees k None)
take_at trees x k less = go (ℕ_discrete k x)
  where
    go : Dec (k ≡ x) → get_or (set trees x None) k None ≡ cond (eqb x k) None (get_or trees k None)
    go (yes e) = rw (e, get_or-set_same trees x None None less, eq-eqb x x refl)
    go (no ne) = rw (get_or-set_other trees x k None None ne, ne_eqb x k (λ e. ne (sym e)))

module _ {rs : List Record} {n : ℕ} {cs : List Child} {trees : List (Option Tree)} (u : Trees rs n cs trees) where
  -- no child
  pub take_none : TakenAll rs n cs [] 0 trees
  unfolding any used_twice
  take_none = record { right = refl; left = rw append-nil u; deepest = λ d. sym (le-ltb d 0 (omega arith)) }

  module _ (g : Group) (x : ℕ) where
    abbrev c : Child
    c = record { group = group_from g; number = x }

    -- a child that is not earlier
    pub take_late : n ≤ x → wrong rs n cs (c ∷ []) ≡ true
    take_late late = wrong_one rs n cs c ∙ rw (le-leb n x late) refl

    module _ (early : x < n) where
      abbrev used : Bool
      used = used_before rs n x || any (is_number x) cs

      there : TreeAt rs x used (get_or trees x None)
      there = u.trees_are x early

      found : {b : Bool} → not (is_of (group_from g) (record_of rs x)) || used ≡ b → wrong rs n cs (c ∷ []) ≡ b
      found {b} e = wrong_one rs n cs c ∙ ap (λ t. t || not (is_of (group_from g) (record_of rs x)) || used) (lt-leb n x early) ∙ e

      -- one that is a child already
      pub take_used : get_or trees x None ≡ None → wrong rs n cs (c ∷ []) ≡ true
      take_used is = found (go used refl (subst (TreeAt rs x used) is there))
        where
          go : (b : Bool) → used ≡ b → TreeAt rs x b None → not (is_of (group_from g) (record_of rs x)) || used ≡ true
          go true t h = ap (λ b. not (is_of (group_from g) (record_of rs x)) || b) t ∙ or-true (not (is_of (group_from g) (record_of rs x)))
          go false t h = absurd h

      -- one of another group
      pub take_other : (t : Tree) → get_or trees x None ≡ Some t → (t.group ≡ g → ⊥) → wrong rs n cs (c ∷ []) ≡ true
      unfolding is_of
      take_other t is other = found (go used refl (subst (TreeAt rs x used) is there))
        where
          of : IsTree rs x t → (b : Bool) → is_of (group_from g) (record_of rs x) ≡ b → not b || used ≡ true
          of h true p = absurd (other (one_group t.group g (row_of (record_of rs x)) h.of_group p))
          of h false p = refl

          go : (b : Bool) → used ≡ b → TreeAt rs x b (Some t) → not (is_of (group_from g) (record_of rs x)) || used ≡ true
          go true p h = absurd (some_not_none h)
          go false p h = of h (is_of (group_from g) (record_of rs x)) refl

      left : length trees ≡ 1344 → n ≤ 1344 → (k : ℕ) → k < n → TreeAt rs k (used_before rs n k || any (is_number k) (cs ++ (c ∷ []))) (get_or (set trees x None) k None)
      left long few k less =
          rw (take_at trees x k (omega arith), any_more (is_number k) cs c)
          (go (eqb x k))
        where
          go : (b : Bool) → TreeAt rs k (used_before rs n k || (any (is_number k) cs || b)) (cond b None (get_or trees k None))
          go true = subst (λ b. TreeAt rs k b None) (sym (ap (λ b. used_before rs n k || b) (or-true (any (is_number k) cs)) ∙ or-true (used_before rs n k))) refl
          go false = subst (λ b. TreeAt rs k (used_before rs n k || b) (get_or trees k None)) (sym (or-false (any (is_number k) cs))) (u.trees_are k less)

      -- and one that is right
      pub take_right : n ≤ 1344 → (t : Tree) → get_or trees x None ≡ Some t → t.group ≡ g → TakenAll rs n cs (c ∷ []) t.levels (set trees x None)
      take_right few t is same = go used refl (subst (TreeAt rs x used) is there)
        where
          go : (b : Bool) → used ≡ b → TreeAt rs x b (Some t) → TakenAll rs n cs (c ∷ []) t.levels (set trees x None)
          go true p h = absurd (some_not_none h)
          go false p h = record {
            right = found (rw (p, subst (λ (g : Group). is_of (group_from g) (record_of rs x) ≡ true) same h.of_group) refl);
            left = record { long = length-set trees x None ∙ u.long; trees_are = left u.long few; later = u.later };
            deepest = λ d. any_one (λ c. deeper_than d rs c.number) c ∙ h.levels_are d;
          }

-- before the first record there is no tree
pub trees_start : (rs : List Record) → Trees rs 0 [] (replicate 1344 None)
unfolding used_before any from
trees_start rs =
    record { long = length-replicate {A = Option Tree} 1344 None; trees_are = λ k less. absurd (omega arith); later = λ k late. refl }

-- no child of n is behind it
none_later : (n k : ℕ) → n ≤ k → (cs : List Child) → All (λ (c : Child). c.number < n) cs → any (is_number k) cs ≡ false
unfolding any
none_later n k late [] p = refl
none_later n k late (c ∷ cs) p = rw (ne_eqb c.number k (λ e. omega (arith, p.0)), any) (none_later n k late cs p.1)

-- the trees at the children of n are taken away, and there is one at n
pub trees_next :
    (rs : List Record) (n : ℕ) (trees : List (Option Tree)) (t : Tree) → n < 1344 → All (λ (c : Child). c.number < n) (children (record_of rs n)) →
    IsTree rs n t → Trees rs n (children (record_of rs n)) trees → Trees rs (suc n) [] (set trees n (Some t))
unfolding uses any
trees_next rs n trees t low earlier is u =
    record { long = length-set trees n (Some t) ∙ u.long; trees_are = λ k less. trees_are k less (ℕ_discrete k n); later = later }
  where
    late : (k : ℕ) → n ≤ k → used_before rs (suc n) k ≡ false
    late k low = used_before_next rs n k ∙ ap₂ ◌||◌ (u.later k low) (none_later n k low (children (record_of rs n)) earlier)

    later : (k : ℕ) → suc n ≤ k → used_before rs (suc n) k ≡ false
    later k low = late k (omega arith)

    trees_are :
        (k : ℕ) → k < suc n → Dec (k ≡ n) →
        TreeAt rs k (used_before rs (suc n) k || false) (get_or (set trees n (Some t)) k None)
    trees_are k less (yes e) =
        rw (e, get_or-set_same trees n (Some t) None (omega (arith, u.long)), late n (omega arith)) is
    trees_are k less (no ne) =
        rw (get_or-set_other trees n k (Some t) None ne, or-false (used_before rs (suc n) k), used_before_next rs n k)
        (u.trees_are k (omega arith))

-- what is found of all children of n is cause 5
pub child_fault_lem : (rs : List Record) (n : ℕ) → wrong rs n [] (children (record_of rs n)) ≡ child_fault rs n
unfolding child_fault
child_fault_lem rs n =
    let cs : List Child = children (record_of rs n) in
    ap (λ b. any (is_wrong rs n) cs || (b || used_twice cs)) (among_none cs)

-- below one more, or at most
below_more : (d m : ℕ) → ltb d (m + 1) ≡ leb d m
below_more d m = rw (add-one m) (leb-suc-suc d m)

-- the tree at n has one level more than the deepest at its children, which has m
module _ (rs : List Record) (n m : ℕ) (deepest : (d : ℕ) → any (λ c. deeper_than d rs c.number) (children (record_of rs n)) ≡ ltb d m) where
  pub deeper_at : (d : ℕ) → deeper_than d rs n ≡ ltb d (m + 1)
  unfolding deeper_than
  deeper_at zero = sym (lt-ltb 0 (m + 1) (omega arith))
  deeper_at (suc d) = deepest d ∙ sym (below_more (suc d) m)

  -- cause 8 by the most levels among the children
  pub depth_fault_lem : depth_fault rs n ≡ cond (ltb (record_of rs n).kind 20) (leb 64 m) (ltb 64 m)
  unfolding depth_fault
  depth_fault_lem = rw (deeper_at 64, deepest 64, below_more 64 m)
