-- Constants keep their values in every run of `lower_book`: by its promise, what a run answered and left is what
-- `lower_book` gives.
-- Assumes nothing.
use mathlib.Core.Path.{◌≡◌, refl, sym, ap, subst}
use Rattle.std.specs.Prelude.{Ok}
use Rattle.lower.specs.LowerBook.{Reply, Outcome, lower_book}
use Rattle.lower.specs.Promise.{Answered, reply_of, outcome_of}
use Rattle.lower.specs.Laws.{Leaves}
use Rattle.lower.specs.Runs.{Demand3OverRuns, RunsLeave, AcceptedHaveRuns}
use Rattle.lower.proofs.Laws.{slices_are_left}
use Rattle.lower.proofs.Demand3.{demand_3}

pub demand_3_over_runs : Demand3OverRuns
demand_3_over_runs =
    record {
      of_each =
          λ x is.
          rw x.promise (demand_3.of_each x.book x.results x.diagnostics x.are_bytes (rw x.promise at is));
      of_both =
          λ x y is is' all.
          rw (x.promise, y.promise)
          (demand_3.of_both x.book x.results x.diagnostics y.book y.results y.diagnostics x.are_bytes y.are_bytes
          (rw x.promise at is) (rw y.promise at is') all);
    }

pub runs_leave : RunsLeave
runs_leave x =
    subst (λ (y : Outcome). Leaves x.book x.results x.diagnostics y y.reply) (sym x.promise)
    (slices_are_left x.book x.results x.diagnostics x.are_bytes)

-- the counts that are answered make the reply of the code
pub accepted_have_runs : AcceptedHaveRuns
unfolding reply_of
accepted_have_runs book results diagnostics bytes is =
    let x : Outcome = lower_book book results diagnostics in
    let answer : Answered = Ok (record { results = is.results; diagnostics = is.diagnostics; constants = is.constants }) in
    let same : outcome_of answer x.results x.diagnostics ≡ x =
    ap (λ (y : Reply). record { reply = y; results = x.results; diagnostics = x.diagnostics }) (sym is.reply) in (
      record {
        book = book;
        results = results;
        diagnostics = diagnostics;
        reply = answer;
        results' = x.results;
        diagnostics' = x.diagnostics;
        are_bytes = bytes;
        promise = same;
      },
      refl,
      same,
    )
