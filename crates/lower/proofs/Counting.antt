-- How many of the reached constants are stored, and how many there are.
-- Assumes nothing.
use Rattle.std.proofs.Common.{◌≡◌, ℕ, zero, suc, ◌+◌, ◌≤◌, Bool, true, false, cond, List, [], ◌∷◌, length, map, refl}
use Rattle.std.proofs.Common.{sym, ap, ◌∙◌, arith}
use Rattle.std.proofs.lemmas.List.{length-map}
use Rattle.std.specs.Prelude.{count_by, ℤ}
use Rattle.std.proofs.lemmas.List.Sums.{sum_by-cons}
use Rattle.std.proofs.Math.Option.{Option, some, none}
use Rattle.book.specs.Lists.{find, from}
use Rattle.book.specs.Faults.{is_kind}
use Rattle.book.specs.Outline.{Book, ◌!◌, numbers_of}
use Rattle.book.proofs.Lists.{keep-length, from-length}
use Rattle.constants.specs.Eval.{Table, store, eval_const_expr, empty}
use Rattle.constants.specs.Order.{Constant, Settled, Way, each, ready, order_from, order, settle, outcome}
use Rattle.constants.specs.OfBook.{constants, constant_at, settled}
use Rattle.bodies.specs.Constant.{stored_count}

-- a test of what stands for a constant, whether it has a value
module _ {X : Type 0} (f : Settled → X) (p : X → Bool)
    (without : (c : Settled) → c.value ≡ none → p (f c) ≡ false) (with : (c : Settled) (z : ℤ) → c.value ≡ some z
    → p (f c) ≡ true) where
  one_more : (c : Settled) (cs : List Settled)
      → stored_count (c ∷ cs) ≡ cond (p (f c)) (1 + stored_count cs) (stored_count cs)
  unfolding stored_count
  one_more c cs = go (p (f c)) c.value (without c) (with c)
    where
      go :
          (b : Bool) (o : Option ℤ) → (o ≡ none → b ≡ false) → ((z : ℤ) → o ≡ some z → b ≡ true) →
          stored_count (record { constant = c.constant; value = o } ∷ cs)
          ≡ cond b (1 + stored_count cs) (stored_count cs)
      go b none without_is with_is = rw (without_is refl) refl
      go b (some z) without_is with_is = let s : suc (stored_count cs)
          ≡ 1 + stored_count cs = omega arith in rw (with_is z refl) s

  -- as many pass it as are stored
  pub counts_stored : (cs : List Settled) → count_by p (map f cs) ≡ stored_count cs
  unfolding stored_count
  counts_stored [] = refl
  counts_stored (c ∷ cs) =
      sum_by-cons (λ x. cond (p x) 1 0) (f c) (map f cs)
      ∙ ap (λ (n : ℕ). cond (p (f c)) 1 0 + n) (counts_stored cs)
      ∙ either (p (f c)) (stored_count cs)
      ∙ sym (one_more c cs)
    where
      either : (b : Bool) (n : ℕ) → cond b 1 0 + n ≡ cond b (1 + n) n
      either true n = refl
      either false n = omega arith

settle-length : (t : Table) (cs : List Constant) → length (settle t cs) ≡ length cs
unfolding settle
settle-length t [] = refl
settle-length t (c ∷ cs) = ap suc (settle-length (store t c.name (eval_const_expr t c.expr)) cs)

order-length : (most : ℕ) (w : Way) (cs : List Constant) (done : List ℕ) → length (order_from most w cs done) ≤ most
unfolding order_from
order-length zero w cs done = omega arith
order-length (suc most) w cs done = go (find (ready w cs done) cs) (λ c. order-length most w cs (c.name ∷ done))
  where
    go :
        (o : Option Constant) → ((c : Constant) → length (order_from most w cs (c.name ∷ done)) ≤ most) →
        length {A = Constant} (elim o [ none ↦ [] | some c ↦ c ∷ order_from most w cs (c.name ∷ done) ]) ≤ suc most
    go none few = omega arith
    go (some c) few = omega (arith, few c)

-- no more are reached than there are records
pub few_settled : (book : Book) → length (settled book) ≤ length book.records
unfolding settled outcome order constants numbers_of
few_settled book =
    let cs : List Constant = constants book in
    omega (
      arith,
      settle-length empty (order each cs),
      order-length (length cs) each cs [],
      length-map (numbers_of (is_kind 24) book) (constant_at book),
      keep-length (λ n. is_kind 24 (book ! n)) (from 0 (length book.records)),
      from-length 0 (length book.records),
    )
