-- The record form is the byte form, and what each reply says of the counters and the structs.
-- Assumes nothing.
use Prim.Native.Nat.{ℕ, min}
use mathlib.Core.List.{List, ◌++◌, map}
use mathlib.Core.Path.{◌≡◌, refl, sym, ap, ◌∙◌}
use native.Mathlib.Omega.{arith}
use lib.ListN.{length, take, drop, length-map, length-replicate}
use lib.Seq.{take_at, drop_at}
use Rattle.types.specs.declared.LowerCtx.{LowerCtx}
use Rattle.lower.specs.LowerBook.{Reply, Outcome}
use Rattle.lent.specs.declared.Diagnostic.{Diagnostic}
use Rattle.lent.specs.Diagnostics.{diagnostic_of, encoded, no_diagnostic}
use Rattle.lent.specs.Lent.{bytes_for, front_of, LentOutcome, lower_lent}
use Rattle.lent.specs.Laws.{SameAsBytes, RecordFormIsByteForm, RunsAgree, Leaves, StructsAreLeft}
use Rattle.lent.proofs.Structs.{structs_length, told_bytes, cleared_bytes}
use Rattle.lent.proofs.Ways.{Both, Way, left_alone, zeroed, lowered, zeros_room, way}

-- the record form is the byte form
module _ (ctx : LowerCtx) (book results : List ℕ) (lent : List Diagnostic) where
  abbrev left : LentOutcome
  left = lower_lent ctx book results lent

  -- what is left in the structs, by what stands at their front
  structs_by : {ds : List Diagnostic} → front_of book results (length lent) ≡ ds → left.diagnostics ≡ ds ++ drop (length ds) lent
  unfolding lower_lent
  structs_by e = ap (λ l. l ++ drop (length l) lent) e

  same_by :
      {reply : Reply} {results' : List ℕ} {counters : LowerCtx → LowerCtx} {ds : List Diagnostic} {s' : List ℕ} →
      Both book results (length lent) (encoded lent) reply results' counters ds s' → encoded (ds ++ drop (length ds) lent) ≡ s' →
      SameAsBytes book results lent left
  unfolding lower_lent
  same_by b e =
      record {
        reply_is = b.reply_is ∙ sym (ap (λ (x : Outcome). x.reply) b.with_s);
        results_are = b.results_are ∙ sym (ap (λ (x : Outcome). x.results) b.with_s);
        diagnostics_are = ap encoded (structs_by b.structs_are) ∙ e ∙ sym (ap (λ (x : Outcome). x.diagnostics) b.with_s);
      }

  same_as_bytes : Way book results (length lent) (encoded lent) → SameAsBytes book results lent left
  same_as_bytes (left_alone n p h b) = same_by b refl
  same_as_bytes (zeroed n p h b) = same_by b (cleared_bytes (min 256 (length lent)) lent)
  same_as_bytes (lowered next stored rs ds i j is within few b) = same_by b (told_bytes ds lent is)

pub record_form_is_byte_form : RecordFormIsByteForm
record_form_is_byte_form ctx book results lent bytes =
    let long = structs_length lent in
    same_as_bytes ctx book results lent (way book results (length lent) (encoded lent) bytes (omega arith))

-- what is left, by the reply
module _ (ctx : LowerCtx) (book results : List ℕ) (lent : List Diagnostic) where
  abbrev Ways : Reply → List ℕ → (LowerCtx → LowerCtx) → List Diagnostic → List ℕ → Type 0
  Ways = Both book results (length lent) (bytes_for (length lent))

  abbrev here : LentOutcome
  here = lower_lent ctx book results lent

  module _ {reply : Reply} {results' : List ℕ} {counters : LowerCtx → LowerCtx} {ds : List Diagnostic} {s' : List ℕ} (b : Ways reply results' counters ds s') where
    reply_left : here.reply ≡ reply
    unfolding lower_lent
    reply_left = b.reply_is

    results_left : here.results ≡ results'
    unfolding lower_lent
    results_left = b.results_are

    counters_left : here.ctx ≡ counters ctx
    unfolding lower_lent
    counters_left = b.counters_are ctx

    front_left : (m : ℕ) → length ds ≡ m → take m here.diagnostics ≡ ds
    front_left m e = ap (take m) (structs_by ctx book results lent b.structs_are) ∙ take_at ds (drop (length ds) lent) m e

    rest_left : (m : ℕ) → length ds ≡ m → drop m here.diagnostics ≡ drop m lent
    rest_left m e =
        ap (drop m) (structs_by ctx book results lent b.structs_are)
        ∙ drop_at ds (drop (length ds) lent) m e
        ∙ ap (λ (n : ℕ). drop n lent) e

  leaves : Way book results (length lent) (bytes_for (length lent)) → Leaves ctx book results lent here here.reply
  unfolding Leaves
  leaves (left_alone n p h b) =
      rw (reply_left b) (
        λ k. record { counters = counters_left b; in_results = results_left b; in_diagnostics = structs_by ctx book results lent b.structs_are },
        λ k. absurd (omega arith),
      )
  leaves (zeroed n p h b) =
      let m : ℕ = min 256 (length lent) in
      let long = length-replicate m no_diagnostic in
      rw (reply_left b) (
        λ k. absurd (omega arith),
        λ k. record { counters = counters_left b; zero_ones = front_left b m long; rest = rest_left b m long },
      )
  leaves (lowered next stored rs ds i j is within few b) =
      let long = length-map ds diagnostic_of in
      rw (reply_left b)
      (record {
        numbers_count = ap (λ (c : LowerCtx). c.next) (counters_left b) ∙ i;
        results_count = ap (λ (c : LowerCtx). c.results) (counters_left b);
        diagnostics_count = ap (λ (c : LowerCtx). c.diagnostics) (counters_left b);
        diagnostics_limit = few;
        told_are = front_left b (length ds) long ∙ ap (map diagnostic_of) j;
        rest = rest_left b (length ds) long;
      })

pub structs_are_left : StructsAreLeft
structs_are_left ctx book results lent bytes =
    leaves ctx book results lent (way book results (length lent) (bytes_for (length lent)) bytes (zeros_room (length lent)))

-- over runs
pub runs_agree : RunsAgree
unfolding lower_lent
runs_agree x y bytes is is' =
    let s = record_form_is_byte_form x.ctx x.book x.results x.lent bytes in
    record {
      same_reply = ap (λ (o : LentOutcome). o.reply) is ∙ s.reply_is ∙ sym (ap (λ (o : Outcome). o.reply) is');
      same_results = ap (λ (o : LentOutcome). o.results) is ∙ s.results_are ∙ sym (ap (λ (o : Outcome). o.results) is');
      same_diagnostics = ap (λ (o : LentOutcome). encoded o.diagnostics) is ∙ s.diagnostics_are ∙ sym (ap (λ (o : Outcome). o.diagnostics) is');
    }
