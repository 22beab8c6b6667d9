-- Which reply is given, and what is left in the slices.
-- Assumes nothing.
use Prim.Native.Nat.{ℕ, ◌*◌, ◌≤◌}
use mathlib.Core.List.{List, []}
use mathlib.Core.Logic.{◌↔◌}
use mathlib.Core.Option.{Option, some, none}
use mathlib.Core.Path.{◌≡◌, refl, sym, ap, ◌∙◌, subst}
use native.Mathlib.Omega.{arith}
use lib.Dec.{lit≤}
use lib.ListN.{length}
use Rattle.record.specs.declared.Record.{Record}
use Rattle.record.specs.Bytes.{AreBytes}
use Rattle.record.specs.Write.{room_for, with_records}
use Rattle.book.specs.Lists.{keep}
use Rattle.book.specs.Refusal.{Cause, book_length, check, block, shape, child, follow, name, depth}
use Rattle.book.specs.Refusal.{Refusal, number, first_refusal}
use Rattle.book.specs.First.{IsFirst}
use Rattle.book.specs.Outline.{read}
use Rattle.book.proofs.First.{same, refused_by_the_first, passed_by_all}
use Rattle.constants.specs.OfBook.{settled}
use Rattle.types.specs.Lowering.{Limits, State, start, Stop, too_deep, full, stop_number, Out, finished, stopped, run, used_limits}
use Rattle.types.specs.Resolved.{Names}
use Rattle.types.specs.Events.{written, told, place_after, behind, StopsAt, Fits}
use Rattle.types.proofs.Events.{stopped_by_the_first, finished_if_all_fit, fits_nothing, fits_within}
use Rattle.types.specs.Step.{is_stored}
use Rattle.bodies.specs.Constant.{stored_count}
use Rattle.lower.specs.LowerBook.{Reply, accepted, refused, Outcome, lower_book, lower_read, lower_records, ended}
use Rattle.lower.specs.Laws.{first_records, Leaves, SlicesAreLeft}
use Rattle.lower.proofs.Written.{written_within, stored_are_counted}
use Rattle.lower.proofs.Slices.{room_in_bytes, records_kept, is_cleared, read_back}
use Rattle.lower.specs.Laws.{NoRowHolds, doings, RefusedByItsRow, StoppedByItsRow, IsAccepted, AcceptedByNone}

-- from the start on
module _ (most : Limits) (book : List ℕ) where
  stops_if : (c : Stop) (p : ℕ) → (run most (lower_records (settled (read book)) (read book)) start ≡ stopped c p) ↔ StopsAt most [] (doings book) c p
  unfolding place_after written told
  stops_if c p = stopped_by_the_first (Unit × Names) most [] (lower_records (settled (read book)) (read book)) c p (fits_nothing most)

  ends_if :
      (a : Unit × Names) (s : State) →
      run most (lower_records (settled (read book)) (read book)) start ≡ finished a s →
      Fits most (doings book) × (s ≡ behind (doings book))
  unfolding place_after written told
  ends_if a s h =
      let x = (finished_if_all_fit (Unit × Names) most [] (lower_records (settled (read book)) (read book)) a s (fits_nothing most)).0 h in
      (x.0, x.2)

-- a reply's number and place; 0 for accepted
abbrev reply_number : Reply → ℕ
reply_number (accepted r d c) = 0
reply_number (refused n p) = n

abbrev reply_place : Reply → ℕ
reply_place (accepted r d c) = 0
reply_place (refused n p) = p

pub number_range : (c : Cause) → (1 ≤ number c) × (number c ≤ 8)
unfolding number
number_range book_length = (lit≤ tt, lit≤ tt)
number_range check = (lit≤ tt, lit≤ tt)
number_range block = (lit≤ tt, lit≤ tt)
number_range shape = (lit≤ tt, lit≤ tt)
number_range child = (lit≤ tt, lit≤ tt)
number_range follow = (lit≤ tt, lit≤ tt)
number_range name = (lit≤ tt, lit≤ tt)
number_range depth = (lit≤ tt, lit≤ tt)

pub stop_range : (c : Stop) → 9 ≤ stop_number c
unfolding stop_number
stop_range too_deep = lit≤ tt
stop_range full = lit≤ tt

stop_same : (c d : Stop) → stop_number c ≡ stop_number d → c ≡ d
unfolding stop_number
stop_same too_deep too_deep e = refl
stop_same too_deep full e = absurd (omega arith)
stop_same full too_deep e = absurd (omega arith)
stop_same full full e = refl

module _ (book results diagnostics : List ℕ) where
  abbrev most : Limits
  most = used_limits results diagnostics

  abbrev outcome : Out (Unit × Names)
  outcome = run most (lower_records (settled (read book)) (read book)) start

  pub lower_refused :
      (x : Refusal) →
      first_refusal book ≡ some x →
      lower_book book results diagnostics ≡
      record { reply = refused (number x.cause) x.place; results = results; diagnostics = diagnostics }
  unfolding lower_book
  lower_refused x e = rw (e, lower_book)

  pub lower_ended :
      (o : Out (Unit × Names)) →
      first_refusal book ≡ none →
      outcome ≡ o →
      lower_book book results diagnostics ≡ ended (stored_count (settled (read book))) most results diagnostics o
  unfolding lower_book lower_read
  lower_ended o e h = rw (e, lower_book, h)

  -- the three ways that a book goes: refused by 1 to 8, refused by 9 or 10, accepted
  pub data Goes : Type 0 where
    turned_back : (x : Refusal) → first_refusal book ≡ some x → Goes
    stops : (c : Stop) (p : ℕ) → first_refusal book ≡ none → outcome ≡ stopped c p → Goes
    ends : (a : Unit × Names) (s : State) → first_refusal book ≡ none → outcome ≡ finished a s → Goes

  pub goes : Goes
  goes = by (first_refusal book) refl outcome refl
    where
      by : (o : Option Refusal) → first_refusal book ≡ o → (u : Out (Unit × Names)) → outcome ≡ u → Goes
      by (some x) e u h = turned_back x e
      by none e (stopped c p) h = stops c p e h
      by none e (finished a s) h = ends a s e h

  -- the reply of each
  reply-refused :
      (x : Refusal) → first_refusal book ≡ some x →
      (lower_book book results diagnostics).reply ≡ refused (number x.cause) x.place
  reply-refused x e = ap (λ (y : Outcome). y.reply) (lower_refused x e)

  reply-stopped :
      (c : Stop) (p : ℕ) → first_refusal book ≡ none → outcome ≡ stopped c p →
      (lower_book book results diagnostics).reply ≡ refused (stop_number c) p
  unfolding ended
  reply-stopped c p e h = ap (λ (y : Outcome). y.reply) (lower_ended (stopped c p) e h)

  reply-accepted :
      (a : Unit × Names) (s : State) → first_refusal book ≡ none → outcome ≡ finished a s →
      (lower_book book results diagnostics).reply ≡ accepted (length s.results) (length s.diagnostics) (stored_count (settled (read book)))
  unfolding ended
  reply-accepted a s e h = ap (λ (y : Outcome). y.reply) (lower_ended (finished a s) e h)

pub refused_by_its_row : RefusedByItsRow
refused_by_its_row book results diagnostics x = (λ h. there h (goes book results diagnostics), back)
  where
    there :
        (lower_book book results diagnostics).reply ≡ refused (number x.cause) x.place →
        Goes book results diagnostics → IsFirst book x
    there h (turned_back y e) =
        let is : refused (number y.cause) y.place ≡ refused (number x.cause) x.place = sym (reply-refused book results diagnostics y e) ∙ h in
        (refused_by_the_first book x).0 (e ∙ ap some (same y x (ap reply_place is) (ap reply_number is)))
    there h (stops c p e q) =
        let is : stop_number c ≡ number x.cause = ap reply_number (sym (reply-stopped book results diagnostics c p e q) ∙ h) in
        absurd (omega (arith, stop_range c, number_range x.cause))
    there h (ends a s e q) =
        let is : 0 ≡ number x.cause = ap reply_number (sym (reply-accepted book results diagnostics a s e q) ∙ h) in
        absurd (omega (arith, number_range x.cause))

    back : IsFirst book x → (lower_book book results diagnostics).reply ≡ refused (number x.cause) x.place
    back f = reply-refused book results diagnostics x ((refused_by_the_first book x).1 f)

pub stopped_by_its_row : StoppedByItsRow
stopped_by_its_row book results diagnostics c p = (λ h. there h (goes book results diagnostics), back)
  where
    to : (run (used_limits results diagnostics) (lower_records (settled (read book)) (read book)) start ≡ stopped c p) ↔ StopsAt (used_limits results diagnostics) [] (doings book) c p
    to = stops_if (used_limits results diagnostics) book c p

    there :
        (lower_book book results diagnostics).reply ≡ refused (stop_number c) p → Goes book results diagnostics →
        NoRowHolds book × StopsAt (used_limits results diagnostics) [] (doings book) c p
    there h (turned_back y e) =
        let is : number y.cause ≡ stop_number c = ap reply_number (sym (reply-refused book results diagnostics y e) ∙ h) in
        absurd (omega (arith, stop_range c, number_range y.cause))
    there h (stops d q e out) =
        let is : refused (stop_number d) q ≡ refused (stop_number c) p = sym (reply-stopped book results diagnostics d q e out) ∙ h in
        ((passed_by_all book).0 e, to.0 (rw (← stop_same d c (ap reply_number is), ← ap reply_place is) out))
    there h (ends a s e q) =
        let is : 0 ≡ stop_number c = ap reply_number (sym (reply-accepted book results diagnostics a s e q) ∙ h) in
        absurd (omega (arith, stop_range c))

    back :
        NoRowHolds book × StopsAt (used_limits results diagnostics) [] (doings book) c p →
        (lower_book book results diagnostics).reply ≡ refused (stop_number c) p
    back x = reply-stopped book results diagnostics c p ((passed_by_all book).1 x.0) (to.1 x.1)

pub accepted_by_none : AcceptedByNone
accepted_by_none book results diagnostics = (λ x. there x (goes book results diagnostics), back)
  where
    there :
        IsAccepted (lower_book book results diagnostics) → Goes book results diagnostics →
        NoRowHolds book × Fits (used_limits results diagnostics) (doings book)
    there x (turned_back y e) =
        let is : number y.cause ≡ 0 = ap reply_number (sym (reply-refused book results diagnostics y e) ∙ x.reply) in
        absurd (omega (arith, number_range y.cause))
    there x (stops c p e q) =
        let is : stop_number c ≡ 0 = ap reply_number (sym (reply-stopped book results diagnostics c p e q) ∙ x.reply) in
        absurd (omega (arith, stop_range c))
    there x (ends a s e q) = (
      (passed_by_all book).0 e,
      (ends_if (used_limits results diagnostics) book a s q).0,
    )

    back : NoRowHolds book × Fits (used_limits results diagnostics) (doings book) → IsAccepted (lower_book book results diagnostics)
    back x = by (goes book results diagnostics)
      where
        by : Goes book results diagnostics → IsAccepted (lower_book book results diagnostics)
        by (turned_back y e) = absurd (x.0 y is_first.there is_first.holds)
          where
            is_first : IsFirst book y
            is_first = (refused_by_the_first book y).0 e
        by (stops c p e q) = absurd (x.1 c at.before at.rest at.event at.split at.holds)
          where
            at : StopsAt (used_limits results diagnostics) [] (doings book) c p
            at = (stops_if (used_limits results diagnostics) book c p).0 q
        by (ends a s e q) =
            record {
              results = length s.results;
              diagnostics = length s.diagnostics;
              constants = stored_count (settled (read book));
              reply = reply-accepted book results diagnostics a s e q;
            }

-- what is left in the slices
module _ (book results diagnostics : List ℕ) where
  abbrev Left : Outcome → Type 0
  Left x = Leaves book results diagnostics x x.reply

  left-refused :
      (x : Refusal) →
      Left (record { reply = refused (number x.cause) x.place; results = results; diagnostics = diagnostics })
  unfolding Leaves
  left-refused x =
      (λ h. record { in_results = refl; in_diagnostics = refl }, λ h. absurd (omega (arith, number_range x.cause)))

  left-stopped :
      (c : Stop) (p : ℕ) →
      Left
      (ended
      {A = Unit × Names}
      (stored_count (settled (read book)))
      (used_limits results diagnostics)
      results
      diagnostics
      (stopped c p))
  unfolding Leaves ended
  left-stopped c p =
      let r : 24 * room_for 2048 results ≤ length results = room_in_bytes 2048 results (room_for 2048 results) (omega arith) in
      let d : 24 * room_for 256 diagnostics ≤ length diagnostics = room_in_bytes 256 diagnostics (room_for 256 diagnostics) (omega arith) in (
        λ h. absurd (omega (arith, stop_range c)),
        λ h.
            record {
              in_results = is_cleared (room_for 2048 results) results r;
              in_diagnostics = is_cleared (room_for 256 diagnostics) diagnostics d;
            },
      )

  left_accepted :
      AreBytes book →
      first_refusal book ≡ none →
      (a : Unit × Names) (s : State) →
      run (used_limits results diagnostics) (lower_records (settled (read book)) (read book)) start ≡ finished a s →
      Left (ended (stored_count (settled (read book))) (used_limits results diagnostics) results diagnostics (finished a s))
  unfolding Leaves ended
  left_accepted bytes e a s h =
      let fit = ends_if (used_limits results diagnostics) book a s h in
      let in_limits = fits_within (used_limits results diagnostics) (doings book) fit.0 in
      let rs : s.results ≡ written (doings book) = ap (λ (x : State). x.results) fit.1 in
      let ds : s.diagnostics ≡ told (doings book) = ap (λ (x : State). x.diagnostics) fit.1 in
      let r : length s.results ≤ room_for 2048 results = rw rs in_limits.0 in
      let d : length s.diagnostics ≤ room_for 256 diagnostics = rw ds in_limits.1 in
      let within = written_within book (used_limits results diagnostics) a s bytes e (omega arith) h in
      let back : first_records (length s.results) (with_records s.results results) ≡ s.results = read_back s.results results within.0 in
      record {
        results_are = back ∙ rs;
        results_count = ap length rs;
        results_limit = r;
        results_rest = records_kept s.results results (room_in_bytes 2048 results (length s.results) r);
        diagnostics_are = read_back s.diagnostics diagnostics within.1 ∙ ds;
        diagnostics_count = ap length ds;
        diagnostics_limit = d;
        diagnostics_rest = records_kept s.diagnostics diagnostics (room_in_bytes 256 diagnostics (length s.diagnostics) d);
        stored_count =
            sym (stored_are_counted (read book))
            ∙ ap (λ (l : List Record). length (keep is_stored l)) (sym rs ∙ sym back);
      }

  left : AreBytes book → Left (lower_book book results diagnostics)
  left bytes = by (goes book results diagnostics)
    where
      by : Goes book results diagnostics → Left (lower_book book results diagnostics)
      by (turned_back x e) = subst Left (sym (lower_refused book results diagnostics x e)) (left-refused x)
      by (stops c p e h) = subst Left (sym (lower_ended book results diagnostics (stopped c p) e h)) (left-stopped c p)
      by (ends a s e h) = subst Left (sym (lower_ended book results diagnostics (finished a s) e h)) (left_accepted bytes e a s h)

pub slices_are_left : SlicesAreLeft
slices_are_left book results diagnostics bytes = left book results diagnostics bytes
