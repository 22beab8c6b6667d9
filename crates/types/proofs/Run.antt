-- One step of a lowering under limits, in each case.
-- Assumes nothing.
use Prim.Native.Nat.{ℕ}
use mathlib.Core.Bool.{true, false}
use mathlib.Core.Path.{◌≡◌}
use lib.Dec.{ltb}
use lib.ListN.{length}
use Rattle.record.specs.declared.Record.{Record}
use Rattle.types.specs.Lowering.{Lowering, resolving, diagnostic, result, Limits, State, with_result, with_diagnostic}
use Rattle.types.specs.Lowering.{too_deep, full, stopped, run}

module _ {A : Type 0} (most : Limits) (s : State) where
  pub step_on : (d : ℕ) (t : Lowering A) → ltb 64 d ≡ false → run most (resolving d t) s ≡ run most t s
  unfolding run
  step_on d t e = rw (e, run)

  pub step_out : (d : ℕ) (t : Lowering A) → ltb 64 d ≡ true → run most (resolving d t) s ≡ stopped too_deep s.place
  unfolding run
  step_out d t e = rw (e, run)

  pub tell_on :
      (r : Record) (t : Lowering A) → ltb (length s.diagnostics) most.diagnostics ≡ true →
      run most (diagnostic r t) s ≡ run most t (with_diagnostic r s)
  unfolding run
  tell_on r t e = rw (e, run)

  pub tell_out :
      (r : Record) (t : Lowering A) → ltb (length s.diagnostics) most.diagnostics ≡ false →
      run most (diagnostic r t) s ≡ stopped full s.place
  unfolding run
  tell_out r t e = rw (e, run)

  pub write_on :
      (r : Record) (k : ℕ → Lowering A) → ltb (length s.results) most.results ≡ true →
      run most (result r k) s ≡ run most (k (length s.results)) (with_result r s)
  unfolding run
  write_on r k e = rw (e, run)

  pub write_out :
      (r : Record) (k : ℕ → Lowering A) → ltb (length s.results) most.results ≡ false →
      run most (result r k) s ≡ stopped full s.place
  unfolding run
  write_out r k e = rw (e, run)
