-- Which of the results of a lowering pass a test, each seen through a view.
-- Assumes nothing.
use Prim.Native.Nat.{ℕ, suc}
use mathlib.Core.Bool.{Bool, true, false, cond}
use mathlib.Core.List.{List, [], ◌∷◌, ◌++◌, map}
use mathlib.Core.Path.{◌≡◌, refl, ap, ◌∙◌}
use Rattle.record.specs.declared.Record.{Record}
use Rattle.book.specs.Lists.{All, keep}
use Rattle.book.specs.Faults.{is_kind}
use Rattle.types.specs.Lowering.{Lowering, done, lowering, resolving, diagnostic, result, and_then}
use Rattle.types.specs.Events.{Event, lowers, resolves, tells, writes, events, written}
use Rattle.types.specs.Resolved.{Names}
use Rattle.types.specs.Step.{Step, ◌>>=◌}
use Rattle.types.proofs.Does.{all-events}
use Rattle.types.proofs.Steps.{Fine, Keeps}

module _ {X : Type 0} (test : Record → Bool) (view : Record → X) where
  abbrev passing : List Event → List X
  passing es = map view (keep test (written es))

  passing_then :
      {A B : Type 0} (t : Lowering A) (f : A → Lowering B) (n : ℕ) (ys : List X) →
      ((a : A) (m : ℕ) → passing (events (f a) m) ≡ ys) →
      passing (events (and_then t f) n) ≡ passing (events t n) ++ ys
  unfolding and_then events written keep
  passing_then (done a) f n ys h = h a n
  passing_then (lowering p t) f n ys h = passing_then t f n ys h
  passing_then (resolving e t) f n ys h = passing_then t f n ys h
  passing_then (diagnostic r t) f n ys h = passing_then t f n ys h
  passing_then (result r k) f n ys h = go (test r) _ _ (passing_then (k n) f (suc n) ys h)
    where
      go :
          (b : Bool) (x y : List Record) → map view x ≡ map view y ++ ys →
          map view (cond b (r ∷ x) x) ≡ map view (cond b (r ∷ y) y) ++ ys
      go true x y e = ap (λ l. view r ∷ l) e
      go false x y e = e

  passing_none : (P : Event → Type 0) → ((r : Record) → P (writes r) → test r ≡ false) → (es : List Event) → All P es → passing es ≡ []
  unfolding written keep
  passing_none P h [] p = refl
  passing_none P h (lowers q ∷ es) p = passing_none P h es p.1
  passing_none P h (resolves d ∷ es) p = passing_none P h es p.1
  passing_none P h (tells r ∷ es) p = passing_none P h es p.1
  passing_none P h (writes r ∷ es) p = rw (h r p.0) (passing_none P h es p.1)

-- the 41s that a step writes, whatever is there before
pub record Writes {A X : Type 0} (view : Record → X) (xs : List X) (m : Step A) : Type 0 where
  pub exactly : (s : Names) (n : ℕ) → passing (is_kind 41) view (events (m s) n) ≡ xs

module _ {X : Type 0} {view : Record → X} where
  pub writes_then :
      {A B : Type 0} {xs ys : List X} {m : Step A} {f : A → Step B} →
      Writes view xs m →
      ((a : A) → Writes view ys (f a)) →
      Writes view (xs ++ ys) (m >>= f)
  writes_then {ys} {m} {f} k h =
      record {
        exactly =
            λ s n.
            passing_then (is_kind 41) view (m s) (λ x. f x.0 x.1) n ys (λ x j. (h x.0).exactly x.1 j)
            ∙ ap (λ l. l ++ ys) (k.exactly s n);
      }

  pub writes_none : {A : Type 0} {R : A → Type 0} {m : Step A} → Keeps ⊥ Unit R m → Writes view [] m
  writes_none {m} k =
      record {
        exactly =
            λ s n.
            passing_none (is_kind 41) view (Fine ⊥ Unit) (λ r p. p.0 tt) (events (m s) n)
            (all-events _ (Fine ⊥ Unit) _ (m s) n (λ j l w. absurd w) (k.does s n (λ w. absurd w)));
      }

  pub writes_after :
      {A B : Type 0} {R : A → Type 0} {ys : List X} {m : Step A} {f : A → Step B} →
      Keeps ⊥ Unit R m →
      ((a : A) → Writes view ys (f a)) →
      Writes view ys (m >>= f)
  writes_after k h = writes_then (writes_none k) h
