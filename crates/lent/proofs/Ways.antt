-- How a book goes with a diagnostics slice for so many structs, and with any other that has the same used limit: the
-- reply, the results, the counters, the structs at the front, and what is left in the other slice.
-- Assumes nothing.
use Prim.Native.Nat.{ℕ, ◌*◌, ◌≤◌, min}
use mathlib.Core.List.{List, [], map}
use mathlib.Core.Option.{some, none}
use mathlib.Core.Path.{◌≡◌, sym, ap, ◌∙◌}
use native.Mathlib.Omega.{arith}
use lib.ListN.{length, replicate, length-replicate}
use borrow.Author.Tests.{lt-ltb, le-ltb}
use Rattle.record.specs.declared.Record.{Record}
use Rattle.record.specs.Bytes.{AreBytes}
use Rattle.record.specs.Layout.{Within}
use Rattle.record.specs.Write.{room_for, with_records, cleared}
use Rattle.book.specs.Lists.{All}
use Rattle.book.specs.Refusal.{Refusal, number, first_refusal}
use Rattle.book.specs.Outline.{read}
use Rattle.constants.specs.OfBook.{settled}
use Rattle.types.specs.declared.LowerCtx.{LowerCtx}
use Rattle.types.specs.Lowering.{Limits, State, start, Stop, stop_number, Out, finished, stopped, run, used_limits}
use Rattle.types.specs.Events.{told}
use Rattle.types.specs.Resolved.{Names}
use Rattle.types.specs.Diagnostic.{IsDiagnostic}
use Rattle.types.proofs.Adds.{finished_adds}
use Rattle.bodies.specs.Constant.{stored_count}
use Rattle.lower.specs.LowerBook.{Reply, accepted, refused, Outcome, lower_book, lower_records, ended}
use Rattle.lower.specs.Laws.{doings}
use Rattle.lower.specs.Counters.{counted, counters_after, numbers_given}
use Rattle.lower.proofs.Written.{written_within, numbers_are_counted, told_are_diagnostics}
use Rattle.lower.proofs.Slices.{read_back}
use Rattle.lower.proofs.Laws.{number_range, stop_range, lower_refused, lower_ended, Goes, turned_back, stops, ends, goes}
use Rattle.lent.specs.declared.Diagnostic.{Diagnostic}
use Rattle.lent.specs.Diagnostics.{diagnostic_of, no_diagnostic}
use Rattle.lent.specs.Lent.{bytes_for, as_bytes, front, front_of}
use Rattle.lent.proofs.Structs.{read_length}

-- the structs at the front, by the reply
front_none : (n p room : ℕ) (bytes : List ℕ) → n ≤ 8 → front (refused n p) bytes room ≡ []
unfolding front
front_none n p room bytes h = rw (lt-ltb n 9 (omega arith))

front_zeros : (n p room : ℕ) (bytes : List ℕ) → 9 ≤ n → front (refused n p) bytes room ≡ replicate (min 256 room) no_diagnostic
unfolding front
front_zeros n p room bytes h = rw (le-ltb n 9 h)

-- and how many they are
pub count_told : (r d k room : ℕ) (bytes : List ℕ) → d ≡ length (front (accepted r d k) bytes room)
unfolding front
count_told r d k room bytes = sym (read_length bytes d)

pub count_none : (n p room : ℕ) (bytes : List ℕ) → n ≤ 8 → 0 ≡ length (front (refused n p) bytes room)
count_none n p room bytes h = rw (front_none n p room bytes h)

pub count_zeros : (n p room : ℕ) (bytes : List ℕ) → 9 ≤ n → min 256 room ≡ length (front (refused n p) bytes room)
count_zeros n p room bytes h = rw (front_zeros n p room bytes h) (sym (length-replicate (min 256 room) no_diagnostic))

-- what `front_length` ensures, reply by reply
pub ruleset counts = (count_told, count_none, count_zeros)

-- the used limit of a diagnostics slice for so many structs
pub zeros_room : (n : ℕ) → room_for 256 (bytes_for n) ≡ min 256 n
zeros_room n = let long : length (bytes_for n) ≡ 24 * n = length-replicate (24 * n) 0 in omega arith

-- A book is lowered with a diagnostics slice for so many structs, and with another, s, that has the same used limit
module _ (book results : List ℕ) (room : ℕ) (s : List ℕ) where
  -- what both give: the reply, the results, and the counters by those at entry; the structs at the front, and what is
  -- left in s
  pub record Both (reply : Reply) (results' : List ℕ) (counters : LowerCtx → LowerCtx) (structs : List Diagnostic) (s' : List ℕ) : Type 0 where
    pub reply_is : (as_bytes book results room).reply ≡ reply
    pub results_are : (as_bytes book results room).results ≡ results'
    pub counters_are : (ctx : LowerCtx) → counters_after ctx book results (bytes_for room) ≡ counters ctx
    pub structs_are : front_of book results room ≡ structs
    pub with_s : lower_book book results s ≡ record { reply = reply; results = results'; diagnostics = s' }

  -- the three ways that a book goes: refused by 1 to 8, refused by 9 or 10, accepted
  pub data Way : Type 0 where
    left_alone : (n p : ℕ) → n ≤ 8 → Both (refused n p) results (λ ctx. ctx) [] s → Way
    zeroed :
        (n p : ℕ) → 9 ≤ n →
        Both (refused n p) (cleared (room_for 2048 results) results) (λ ctx. record { next = 0; results = 0; diagnostics = 0 })
        (replicate (min 256 room) no_diagnostic) (cleared (min 256 room) s) →
        Way
    lowered :
        (next stored : ℕ) (rs ds : List Record) →
        next ≡ numbers_given (read book) → ds ≡ told (doings book) → All IsDiagnostic ds → All Within ds → length ds ≤ min 256 room →
        Both (accepted (length rs) (length ds) stored) (with_records rs results)
        (λ ctx. record { next = next; results = length rs; diagnostics = length ds }) (map diagnostic_of ds) (with_records ds s) →
        Way

  module _ (bytes : AreBytes book) (limit : room_for 256 s ≡ min 256 room) where
    abbrev outcome : Limits → Out (Unit × Names)
    outcome most = run most (lower_records (settled (read book)) (read book)) start

    abbrev most : Limits
    most = used_limits results (bytes_for room)

    limits : most ≡ used_limits results s
    limits = ap (λ (n : ℕ). record { results = room_for 2048 results; diagnostics = n }) (zeros_room room ∙ sym limit)

    -- both, from what each gives
    both_by :
        {x : Outcome} (counters : LowerCtx → LowerCtx) (structs : List Diagnostic) {s' : List ℕ} →
        as_bytes book results room ≡ x →
        ((ctx : LowerCtx) → counters_after ctx book results (bytes_for room) ≡ counters ctx) →
        front x.reply x.diagnostics room ≡ structs →
        lower_book book results s ≡ record { reply = x.reply; results = x.results; diagnostics = s' } →
        Both x.reply x.results counters structs s'
    both_by counters structs e c f t =
        record {
          reply_is = ap (λ (x : Outcome). x.reply) e;
          results_are = ap (λ (x : Outcome). x.results) e;
          counters_are = c;
          structs_are = ap (λ (x : Outcome). front x.reply x.diagnostics room) e ∙ f;
          with_s = t;
        }

    counters_refused : (x : Refusal) → first_refusal book ≡ some x → (ctx : LowerCtx) → counters_after ctx book results (bytes_for room) ≡ ctx
    unfolding counters_after
    counters_refused x e ctx = rw (e, counters_after)

    counters_ended :
        (o : Out (Unit × Names)) → first_refusal book ≡ none → outcome most ≡ o → (ctx : LowerCtx) →
        counters_after ctx book results (bytes_for room) ≡ counted o
    unfolding counters_after
    counters_ended o e h ctx = rw (e, counters_after, h)

    -- a lowering that ends, with s
    ended_there :
        (o : Out (Unit × Names)) → first_refusal book ≡ none → outcome most ≡ o →
        lower_book book results s ≡ ended (stored_count (settled (read book))) (used_limits results s) results s o
    ended_there o e h = lower_ended book results s o e (ap outcome (sym limits) ∙ h)

    way_refused : (x : Refusal) → first_refusal book ≡ some x → Way
    way_refused x e =
        left_alone (number x.cause) x.place (number_range x.cause).1
        (both_by (λ ctx. ctx) [] (lower_refused book results (bytes_for room) x e) (counters_refused x e)
        (front_none (number x.cause) x.place room (bytes_for room) (number_range x.cause).1)
        (lower_refused book results s x e))

    way-stopped : (c : Stop) (p : ℕ) → first_refusal book ≡ none → outcome most ≡ stopped c p → Way
    unfolding ended counted
    way-stopped c p e h =
        zeroed (stop_number c) p (stop_range c)
        (both_by _ _ (lower_ended book results (bytes_for room) (stopped c p) e h) (counters_ended (stopped c p) e h)
        (front_zeros (stop_number c) p room _ (stop_range c))
        (ended_there (stopped c p) e h
        ∙ ap (λ (n : ℕ). record { reply = refused (stop_number c) p; results = cleared (room_for 2048 results) results; diagnostics = cleared n s }) limit))

    way-finished : (a : Unit × Names) (st : State) → first_refusal book ≡ none → outcome most ≡ finished a st → Way
    unfolding ended counted front
    way-finished a st e h =
        let x = finished_adds (Unit × Names) most (lower_records (settled (read book)) (read book)) start a st h in
        let ds = st.diagnostics in
        let within = (written_within book most a st bytes e (omega arith) h).1 in
        let few : length ds ≤ min 256 room = omega (arith, x.diagnostics_within (omega arith), zeros_room room) in
        lowered a.1.next (stored_count (settled (read book))) st.results ds (numbers_are_counted book most a st bytes e (omega arith) h) x.diagnostics
        (rw x.diagnostics (told_are_diagnostics (read book))) within few
        (both_by _ _ (lower_ended book results (bytes_for room) (finished a st) e h) (counters_ended (finished a st) e h)
        (ap (map diagnostic_of) (read_back ds (bytes_for room) within))
        (ended_there (finished a st) e h))

    pub way : Way
    way = by (goes book results (bytes_for room))
      where
        by : Goes book results (bytes_for room) → Way
        by (turned_back x e) = way_refused x e
        by (stops c p e h) = way-stopped c p e h
        by (ends a st e h) = way-finished a st e h

-- the counters do not depend on more of the slice than its used limit
pub counters_with :
    (ctx : LowerCtx) (book results s s' : List ℕ) → room_for 256 s ≡ room_for 256 s' →
    counters_after ctx book results s ≡ counters_after ctx book results s'
unfolding counters_after
counters_with ctx book results s s' e =
    ap (λ (n : ℕ). elim (first_refusal book) [
      | some x ↦ ctx
      | none ↦ counted (run (record { results = room_for 2048 results; diagnostics = n }) (lower_records (settled (read book)) (read book)) start)
    ]) e
