-- The rules of a block.
-- Assumes nothing.
use Rattle.std.specs.Prelude.{ℕ, Ok, Err}
use mathlib.Core.Bool.{Bool, true, false, cond, not, ◌&&◌}
use mathlib.Core.List.{List, [], ◌∷◌, flat_map}
use mathlib.Core.Option.{Option, some, none}
use mathlib.Core.Path.{◌≡◌, refl, sym, ap, ◌∙◌}
use native.Mathlib.Omega.{arith}
use Prim.Native.Nat.{◌+◌, ◌<◌}
use Rattle.std.specs.List.{list_all}
use Rattle.std.specs.Prelude.{◌==◌}
use lib.Dec.{eqb}
use Rattle.record.specs.Check.{check_holds}
use Rattle.record.specs.declared.refusal.Refusal as answered
use Rattle.book.specs.Lists.{any, find, up_to}
use Rattle.book.specs.Blocks.{block_fault}
use Rattle.book.specs.Refusal.{Refusal, check, block, at, faulty, at_block, holds}
use Rattle.book.specs.Answer.{outcome}
use Rattle.book.proofs.Scans.{Passed, scan_here, scan_on}
use Rattle.book.proofs.Answers.{err_not_ok}

-- all are zero exactly if none is something else
pub zeros : (l : List ℕ) → list_all (λ x. x == 0) l ≡ not (any (λ x. not (eqb x 0)) l)
unfolding any
zeros [] = refl
zeros (x ∷ l) = go (eqb x 0) (zeros l)
  where
    go :
        (b : Bool) → list_all (λ x. x == 0) l ≡ not (any (λ x. not (eqb x 0)) l) →
        b && list_all (λ x. x == 0) l ≡ not (elim (not b) [ true ↦ true | false ↦ any (λ x. not (eqb x 0)) l ])
    go true e = e
    go false e = refl

-- the first refusal at block k
module _ (book : List ℕ) (k : ℕ) where
  at_block_is : (a b : Bool) → check_holds book k ≡ a → block_fault book k ≡ b → find (holds book) (at_block k) ≡ cond a (cond b (some (at block k)) none) (some (at check k))
  unfolding find faulty
  at_block_is true true p q = rw (p, q, find) refl
  at_block_is true false p q = rw (p, q, find) refl
  at_block_is false b p q = rw (p, find) refl

  pub check_told : check_holds book k ≡ false → Err (record { cause = Rattle.record.specs.declared.refusal.Cause.TheVariants.Check; place = k }) ≡ outcome (find (holds book) (at_block k))
  unfolding outcome
  check_told p = ap outcome (sym (at_block_is false (block_fault book k) p refl))

  pub block_told : check_holds book k ≡ true → block_fault book k ≡ true → Err (record { cause = Rattle.record.specs.declared.refusal.Cause.TheVariants.Block; place = k }) ≡ outcome (find (holds book) (at_block k))
  unfolding outcome
  block_told p q = ap outcome (sym (at_block_is true true p q))

  pub none_told : check_holds book k ≡ true → block_fault book k ≡ false → Ok tt ≡ outcome (find (holds book) (at_block k))
  unfolding outcome
  none_told p q = ap outcome (sym (at_block_is true false p q))

-- the loop over the blocks
pub block_found :
    (book : List ℕ) {n k : ℕ} {e : answered.Refusal} → Err e ≡ outcome (find (holds book) (at_block k)) → k < n → Passed (holds book) at_block k n →
    Err e ≡ outcome (find (holds book) (flat_map at_block (up_to n)))
unfolding outcome
block_found book {n} {k} {e} told low inv = go (find (holds book) (at_block k)) refl told
  where
    go : (o : Option Refusal) → find (holds book) (at_block k) ≡ o → Err e ≡ outcome o → Err e ≡ outcome (find (holds book) (flat_map at_block (up_to n)))
    go none first is = absurd (err_not_ok tt is)
    go (some x) first is = is ∙ ap outcome (sym (inv.1 ∙ scan_here (holds book) at_block k n x low first))

pub block_passed :
    (book : List ℕ) {n k : ℕ} {x : Unit {0}} → Ok x ≡ outcome (find (holds book) (at_block k)) → k < n → Passed (holds book) at_block k n →
    Passed (holds book) at_block (k + 1) n
unfolding outcome
block_passed book {n} {k} {x} told low inv =
    (omega arith, inv.1 ∙ scan_on (holds book) at_block k n low (go (find (holds book) (at_block k)) told))
  where
    go : (o : Option Refusal) → Ok x ≡ outcome o → o ≡ none
    go none is = refl
    go (some y) is = absurd (err_not_ok x (sym is))
