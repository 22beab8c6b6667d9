-- Names that are looked at one after the other: whether one comes again, and which carry the stamp then.
-- Assumes nothing.
use Prim.Native.Nat.{ℕ, ◌≤◌, ◌<◌}
use mathlib.Core.Bool.{Bool, true, false, ◌||◌, or_assoc}
use mathlib.Core.List.{List, [], ◌∷◌, ◌++◌, append_assoc}
use mathlib.Core.Path.{◌≡◌, refl, sym, ap, ◌∙◌, subst}
use native.Mathlib.Decide.{ℕ_discrete}
use native.Mathlib.Omega.{arith}
use lib.Dec.{eqb}
use lib.ListN.{length, get_or, set, length-set}
use lib.Seq.{get_or-set_same, get_or-set_other}
use borrow.Author.Tests.{eq-eqb, ne_eqb}
use Rattle.book.specs.Lists.{any, keep}
use Rattle.book.proofs.Places.{keep_append}
use Rattle.constants.specs.Order.{has, repeats}
use Rattle.constants.specs.Tables.{Seen, Looked}

module _ {stamp : ℕ} {ns seen : List ℕ} (s : Seen stamp ns seen) where
  -- nothing is looked at
  pub looked_none : Looked stamp [] ns false seen
  looked_none = record { again_is = refl; seen_is = s }

  -- one name is: it comes again if it carries the stamp, which it then does
  pub looked_one : (n : ℕ) → n < length seen → Looked stamp (n ∷ []) ns (eqb (get_or seen n 0) stamp) (set seen n stamp)
  unfolding repeats any
  looked_one n less =
      record {
        again_is = rw (s.marks n less) (again (has n ns));
        seen_is =
            record {
              marks = λ m below. marks m below (ℕ_discrete n m);
              latest = λ m. latest m (ℕ_discrete n m);
            };
      }
    where
      again : (b : Bool) → elim b [ true ↦ true | false ↦ repeats ns ] ≡ b || repeats ns
      again true = refl
      again false = refl

      marks : (m : ℕ) → m < length (set seen n stamp) → Dec (n ≡ m) → eqb (get_or (set seen n stamp) m 0) stamp ≡ has m (n ∷ ns)
      marks m below (yes e) = rw (← e, get_or-set_same seen n stamp 0 less, eq-eqb stamp stamp refl, eq-eqb n n refl, any)
      marks m below (no ne) = rw (get_or-set_other seen n m stamp 0 (λ e. ne (sym e)), ne_eqb n m ne, any) (s.marks m (omega (arith, length-set seen n stamp)))

      latest : (m : ℕ) → Dec (n ≡ m) → get_or (set seen n stamp) m 0 ≤ stamp
      latest m (yes e) = rw (← e, get_or-set_same seen n stamp 0 less) (omega arith)
      latest m (no ne) = rw (get_or-set_other seen n m stamp 0 (λ e. ne (sym e))) (s.latest m)

-- two parts of what is kept, with what stands behind
keep_behind :
    {A : Type 0} (test : A → Bool) (l r ns : List A) → keep test (l ++ r) ++ ns ≡ keep test l ++ (keep test r ++ ns)
keep_behind test l r ns = ap (λ t. t ++ ns) (keep_append test l r) ∙ append_assoc (keep test l) (keep test r) ns

-- names on the right are looked at, and then those on the left
pub looked_both :
    {stamp : ℕ} {ns seen seen' : List ℕ} {a b : Bool} (test : ℕ → Bool) (l r : List ℕ) →
    Looked stamp (keep test r) ns b seen → Looked stamp (keep test l) (keep test r ++ ns) a seen' →
    Looked stamp (keep test (l ++ r)) ns (a || b) seen'
looked_both {stamp} {ns} {seen' = seen'} {a} {b} test l r x y =
    let e = keep_behind test l r ns in
    record {
      again_is = ap repeats e ∙ y.again_is ∙ ap (λ t. a || t) x.again_is ∙ sym (or_assoc a b (repeats ns));
      seen_is = subst (λ t. Seen stamp t seen') (sym e) y.seen_is;
    }
