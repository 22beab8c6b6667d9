-- What a lowering does, said of its tree: what holds of each event, and of its answer and the number of results behind
-- it.
-- Assumes nothing.
use Prim.Native.Nat.{ℕ, suc, ◌+◌, ◌≤◌}
use mathlib.Core.List.{List, [], ◌∷◌, ◌++◌}
use mathlib.Core.Path.{◌≡◌}
use native.Mathlib.Omega.{arith}
use lib.ListN.{length}
use Rattle.book.specs.Lists.{All}
use Rattle.types.specs.Lowering.{Lowering, done, lowering, resolving, diagnostic, result, and_then}
use Rattle.types.specs.Events.{Event, lowers, resolves, tells, writes, events, answer, written}

-- N: the numbers that a result may have. P: of each event. Q: of the answer, n results being there
module _ (N : ℕ → Type 0) (P : Event → Type 0) where
  abbrev pub Does : {A : Type 0} → (A → ℕ → Type 0) → Lowering A → ℕ → Type 0
  Does Q (done a) n = Q a n
  Does Q (lowering p t) n = P (lowers p) × Does Q t n
  Does Q (resolving d t) n = P (resolves d) × Does Q t n
  Does Q (diagnostic r t) n = P (tells r) × Does Q t n
  Does Q (result r k) n = N n → P (writes r) × Does Q (k n) (suc n)

  pub does_then :
      {A B : Type 0} (Q : A → ℕ → Type 0) (R : B → ℕ → Type 0) (t : Lowering A) (f : A → Lowering B) (n : ℕ) →
      Does Q t n →
      ((a : A) (m : ℕ) → Q a m → Does R (f a) m) →
      Does R (and_then t f) n
  unfolding and_then
  does_then Q R (done a) f n d h = h a n d
  does_then Q R (lowering p t) f n d h = (d.0, does_then Q R t f n d.1 h)
  does_then Q R (resolving e t) f n d h = (d.0, does_then Q R t f n d.1 h)
  does_then Q R (diagnostic r t) f n d h = (d.0, does_then Q R t f n d.1 h)
  does_then Q R (result r k) f n d h = λ b. ((d b).0, does_then Q R (k n) f (suc n) (d b).1 h)

  -- what holds of each event holds of all, if the results have numbers that they may have
  pub all-events :
      {A : Type 0} (Q : A → ℕ → Type 0) (t : Lowering A) (n : ℕ) →
      ((m : ℕ) → suc m ≤ n + length (written (events t n)) → N m) →
      Does Q t n →
      All P (events t n)
  unfolding events written
  all-events Q (done a) n h d = tt
  all-events Q (lowering p t) n h d = (d.0, all-events Q t n h d.1)
  all-events Q (resolving e t) n h d = (d.0, all-events Q t n h d.1)
  all-events Q (diagnostic r t) n h d = (d.0, all-events Q t n h d.1)
  all-events Q (result r k) n h d =
      let x = d (h n (omega arith)) in
      (x.0, all-events Q (k n) (suc n) (λ m l. h m (omega arith)) x.1)

  -- and so does what holds of the answer
  pub the_answer :
      {A : Type 0} (Q : A → ℕ → Type 0) (t : Lowering A) (n : ℕ) →
      ((m : ℕ) → suc m ≤ n + length (written (events t n)) → N m) →
      Does Q t n →
      Q (answer t n) (n + length (written (events t n)))
  unfolding events written answer
  the_answer Q (done a) n h d = let same : n + 0 ≡ n = omega arith in rw same d
  the_answer Q (lowering p t) n h d = the_answer Q t n h d.1
  the_answer Q (resolving e t) n h d = the_answer Q t n h d.1
  the_answer Q (diagnostic r t) n h d = the_answer Q t n h d.1
  the_answer Q (result r k) n h d =
      let x = d (h n (omega arith)) in
      let far : suc n + length (written (events (k n) (suc n))) ≡ n + suc (length (written (events (k n) (suc n)))) = omega arith in
      rw (← far) (the_answer Q (k n) (suc n) (λ m l. h m (omega arith)) x.1)

-- of all events: of one that stands among them, and of the records written and told
pub all_split : (P : Event → Type 0) (before rest : List Event) (e : Event) → All P (before ++ (e ∷ rest)) → P e
all_split P [] rest e h = h.0
all_split P (x ∷ before) rest e h = all_split P before rest e h.1
