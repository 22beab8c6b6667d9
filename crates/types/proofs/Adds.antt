-- What a lowering adds from any state on, and one lowering after the other.
-- Assumes nothing.
use Prim.Native.Nat.{ℕ, suc, ◌<◌}
use mathlib.Core.Bool.{Bool, true, false, true≢false}
use mathlib.Core.List.{[], ◌∷◌, ◌++◌, append-nil, append_assoc}
use mathlib.Core.Path.{◌≡◌, refl, sym, ap, ◌∙◌}
use lib.Dec.{ltb}
use lib.ListN.{length}
use borrow.Author.Tests.{ltb-true}
use Rattle.record.specs.declared.Record.{Record}
use Rattle.types.specs.Lowering.{Lowering, done, lowering, resolving, diagnostic, result, and_then, Limits, State, moved, with_result, with_diagnostic}
use Rattle.types.specs.Lowering.{Out, finished, stopped, run}
use Rattle.types.specs.Events.{events, answer, written, told, place_after, Adds, FinishedAdds, go_on, RunsInTurn}
use Rattle.types.proofs.Events.{one_more_lem}
use Rattle.types.proofs.Run.{step_on, step_out, tell_on, tell_out, write_on, write_out}

abbrev is_finished : {A : Type 0} → Out A → Bool
is_finished (finished a s) = true
is_finished (stopped c p) = false

abbrev given_by : {A : Type 0} → A → Out A → A
given_by d (finished a s) = a
given_by d (stopped c p) = d

abbrev state_by : {A : Type 0} → State → Out A → State
state_by d (finished a s) = s
state_by d (stopped c p) = d

module _ {A : Type 0} (most : Limits) where
  abbrev AddsIf : Lowering A → State → Type 0
  AddsIf t s = (a : A) (s' : State) → run most t s ≡ finished a s' → Adds most t s a s'

  adds_done : (a : A) (s : State) → AddsIf (done a) s
  unfolding run events answer written told place_after
  adds_done b s a s' h =
      let same : s ≡ s' = ap (state_by s) h in
      record {
        gives = ap (given_by b) h;
        place = rw same;
        results = rw (append-nil s.results, same);
        diagnostics = rw (append-nil s.diagnostics, same);
        results_within = λ w. rw (← same) w;
        diagnostics_within = λ w. rw (← same) w;
      }

  adds_lowering : (p : ℕ) (t : Lowering A) (s : State) → AddsIf t (moved p s) → AddsIf (lowering p t) s
  unfolding run events answer written told place_after
  adds_lowering p t s ih a s' h =
      let x : Adds most t (moved p s) a s' = ih a s' h in
      record {
        gives = x.gives;
        place = x.place;
        results = x.results;
        diagnostics = x.diagnostics;
        results_within = x.results_within;
        diagnostics_within = x.diagnostics_within;
      }

  adds_resolving : (d : ℕ) (t : Lowering A) (s : State) → AddsIf t s → AddsIf (resolving d t) s
  unfolding events answer written told place_after
  adds_resolving d t s ih a s' h = by (ltb 64 d) refl
    where
      by : (test : Bool) → ltb 64 d ≡ test → Adds most (resolving d t) s a s'
      by true e = absurd (true≢false (ap is_finished (sym h ∙ step_out most s d t e)))
      by false e =
          let x : Adds most t s a s' = ih a s' (sym (step_on most s d t e) ∙ h) in
          record {
            gives = x.gives;
            place = x.place;
            results = x.results;
            diagnostics = x.diagnostics;
            results_within = x.results_within;
            diagnostics_within = x.diagnostics_within;
          }

  adds_diagnostic : (r : Record) (t : Lowering A) (s : State) → AddsIf t (with_diagnostic r s) → AddsIf (diagnostic r t) s
  unfolding events answer written told place_after
  adds_diagnostic r t s ih a s' h = by (ltb (length s.diagnostics) most.diagnostics) refl
    where
      by : (test : Bool) → ltb (length s.diagnostics) most.diagnostics ≡ test → Adds most (diagnostic r t) s a s'
      by false e = absurd (true≢false (ap is_finished (sym h ∙ tell_out most s r t e)))
      by true e =
          let x : Adds most t (with_diagnostic r s) a s' = ih a s' (sym (tell_on most s r t e) ∙ h) in
          let less : length s.diagnostics < most.diagnostics = ltb-true (length s.diagnostics) most.diagnostics e in
          record {
            gives = x.gives;
            place = x.place;
            results = x.results;
            diagnostics = x.diagnostics ∙ append_assoc s.diagnostics (r ∷ []) (told (events t (length s.results)));
            results_within = x.results_within;
            diagnostics_within = λ w. x.diagnostics_within (rw (one_more_lem s.diagnostics r) less);
          }

  adds_result : (r : Record) (k : ℕ → Lowering A) (s : State) → AddsIf (k (length s.results)) (with_result r s) → AddsIf (result r k) s
  unfolding events answer written told place_after
  adds_result r k s ih a s' h = by (ltb (length s.results) most.results) refl
    where
      by : (test : Bool) → ltb (length s.results) most.results ≡ test → Adds most (result r k) s a s'
      by false e = absurd (true≢false (ap is_finished (sym h ∙ write_out most s r k e)))
      by true e =
          let x : Adds most (k (length s.results)) (with_result r s) a s' = ih a s' (sym (write_on most s r k e) ∙ h) in
          let less : length s.results < most.results = ltb-true (length s.results) most.results e in
          let more : length (s.results ++ (r ∷ [])) ≡ suc (length s.results) = one_more_lem s.results r in
          record {
            gives = ap (answer (k (length s.results))) (sym more) ∙ x.gives;
            place = x.place ∙ ap (λ (m : ℕ). place_after s.place (events (k (length s.results)) m)) more;
            results =
                x.results
                ∙ append_assoc s.results (r ∷ []) (written (events (k (length s.results)) (length (s.results ++ (r ∷ [])))))
                ∙ ap (λ (m : ℕ). s.results ++ (r ∷ written (events (k (length s.results)) m))) more;
            diagnostics = x.diagnostics ∙ ap (λ (m : ℕ). s.diagnostics ++ told (events (k (length s.results)) m)) more;
            results_within = λ w. x.results_within (rw more less);
            diagnostics_within = x.diagnostics_within;
          }

  adds : (t : Lowering A) (s : State) → AddsIf t s
  adds (done a) s = adds_done a s
  adds (lowering p t) s = adds_lowering p t s (adds t (moved p s))
  adds (resolving d t) s = adds_resolving d t s (adds t s)
  adds (diagnostic r t) s = adds_diagnostic r t s (adds t (with_diagnostic r s))
  adds (result r k) s = adds_result r k s (adds (k (length s.results)) (with_result r s))

pub finished_adds : FinishedAdds
finished_adds A most t s a s' h = adds most t s a s' h

pub runs_in_turn : RunsInTurn
unfolding run and_then go_on
runs_in_turn A B most (done a) f s = refl
runs_in_turn A B most (lowering p t) f s = runs_in_turn A B most t f (moved p s)
runs_in_turn A B most (resolving d t) f s = by (ltb 64 d) refl (runs_in_turn A B most t f s)
  where
    by :
        (test : Bool) →
        ltb 64 d ≡ test →
        run most (and_then t f) s ≡ go_on (run most t s) (λ a s'. run most (f a) s') →
        run most (resolving d (and_then t f)) s ≡ go_on (run most (resolving d t) s) (λ a s'. run most (f a) s')
    by true e ih = step_out most s d (and_then t f) e ∙ ap (λ o. go_on o (λ a s'. run most (f a) s')) (sym (step_out most s d t e))
    by false e ih = step_on most s d (and_then t f) e ∙ ih ∙ ap (λ o. go_on o (λ a s'. run most (f a) s')) (sym (step_on most s d t e))
runs_in_turn A B most (diagnostic r t) f s =
    by (ltb (length s.diagnostics) most.diagnostics) refl (runs_in_turn A B most t f (with_diagnostic r s))
  where
    by :
        (test : Bool) →
        ltb (length s.diagnostics) most.diagnostics ≡ test →
        run most (and_then t f) (with_diagnostic r s) ≡ go_on (run most t (with_diagnostic r s)) (λ a s'. run most (f a) s') →
        run most (diagnostic r (and_then t f)) s ≡ go_on (run most (diagnostic r t) s) (λ a s'. run most (f a) s')
    by false e ih = tell_out most s r (and_then t f) e ∙ ap (λ o. go_on o (λ a s'. run most (f a) s')) (sym (tell_out most s r t e))
    by true e ih = tell_on most s r (and_then t f) e ∙ ih ∙ ap (λ o. go_on o (λ a s'. run most (f a) s')) (sym (tell_on most s r t e))
runs_in_turn A B most (result r k) f s =
    by
    (ltb (length s.results) most.results)
    refl
    (runs_in_turn A B most (k (length s.results)) f (with_result r s))
  where
    by :
        (test : Bool) →
        ltb (length s.results) most.results ≡ test →
        run most (and_then (k (length s.results)) f) (with_result r s)
        ≡ go_on (run most (k (length s.results)) (with_result r s)) (λ a s'. run most (f a) s') →
        run most (result r (λ n. and_then (k n) f)) s ≡ go_on (run most (result r k) s) (λ a s'. run most (f a) s')
    by false e ih = write_out most s r (λ n. and_then (k n) f) e ∙ ap (λ o. go_on o (λ a s'. run most (f a) s')) (sym (write_out most s r k e))
    by true e ih = write_on most s r (λ n. and_then (k n) f) e ∙ ih ∙ ap (λ o. go_on o (λ a s'. run most (f a) s')) (sym (write_on most s r k e))
