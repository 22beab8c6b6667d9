-- The lowering with its counters lent, and its diagnostics as a list of structs: the promises of the entry and of the
-- value form below it.
-- Assumes nothing.
use Rattle.std.specs.Prelude.{ℕ, ◌-◌, ◌*◌, ◌≤◌, min, cond, List, [], ◌++◌, map, ◌≡◌, ltb, length, take, drop, replicate}
use Rattle.types.specs.declared.LowerCtx.{LowerCtx}
use Rattle.lower.specs.LowerBook.{Reply, accepted, refused, Outcome, lower_book}
use Rattle.lower.specs.Promise.{Answered, reply_of}
use Rattle.lower.specs.Laws.{first_records}
use Rattle.lower.specs.Counters.{counters_after}
use Rattle.lent.specs.declared.Diagnostic.{Diagnostic}
use Rattle.lent.specs.declared.step.Step.{Step}
use Rattle.lent.specs.Diagnostics.{diagnostic_of, no_diagnostic}

-- a diagnostics slice of 24 bytes for each of so many structs
abbrev pub bytes_for : ℕ → List ℕ
bytes_for room = replicate (24 * room) 0

-- what `lower_book` gives with such a slice
abbrev pub as_bytes : List ℕ → List ℕ → ℕ → Outcome
as_bytes book results room = lower_book book results (bytes_for room)

-- the structs at the front: those of the records told; as many zero ones as the used limit on 9 and 10; none on 1 to 8
unfoldable pub front : Reply → List ℕ → ℕ → List Diagnostic
front (accepted results diagnostics constants) bytes room = map diagnostic_of (first_records diagnostics bytes)
front (refused number place) bytes room = cond (ltb number 9) [] (replicate (min 256 room) no_diagnostic)

abbrev pub front_of : List ℕ → List ℕ → ℕ → List Diagnostic
front_of book results room = front (as_bytes book results room).reply (as_bytes book results room).diagnostics room

-- the reply, and what is left in the counters and in both slices
pub record LentOutcome : Type 0 where
  pub reply : Reply
  pub ctx : LowerCtx
  pub results : List ℕ
  pub diagnostics : List Diagnostic

-- the whole: what `lower_book` gives for a diagnostics slice of 24 times as many bytes, with the structs of its
-- records; the structs behind them stay as lent
unfoldable pub lower_lent : LowerCtx → List ℕ → List ℕ → List Diagnostic → LentOutcome
lower_lent ctx book results diagnostics =
    let room : ℕ = length diagnostics in
    record {
      reply = (as_bytes book results room).reply;
      ctx = counters_after ctx book results (bytes_for room);
      results = (as_bytes book results room).results;
      diagnostics = front_of book results room ++ drop (length (front_of book results room)) diagnostics;
    }

-- THE PROMISE of `lower_lent`, for every book, all counters and every two slices: the reply, the counters and both
-- slices at exit are what `lower_lent` gives for the book, the counters and the slices as lent
abbrev pub LoweredLent : LowerCtx → List ℕ → List ℕ → List Diagnostic → Answered → LowerCtx → List ℕ → List Diagnostic → Type 0
LoweredLent ctx book results diagnostics reply ctx' results' diagnostics' =
    record { reply = reply_of reply; ctx = ctx'; results = results'; diagnostics = diagnostics' }
    ≡ lower_lent ctx book results diagnostics

-- the promise of the value form, for a list of so many structs: what `lower_lent` gives for one, and the structs at its
-- front, the first so many of an array of 256, with zero ones behind them. They are no more than may be told and no
-- more than the list holds
pub record Stepped (ctx : LowerCtx) (book results : List ℕ) (room : ℕ) (x : Step) (results' : List ℕ) : Type 0 where
  pub reply_is : reply_of x.reply ≡ (as_bytes book results room).reply
  pub ctx_is : x.ctx ≡ counters_after ctx book results (bytes_for room)
  pub results_are : results' ≡ (as_bytes book results room).results
  pub count_is : x.count ≡ length (front_of book results room)
  pub front_is : take x.count x.told ≡ front_of book results room
  pub told_are : x.told ≡ front_of book results room ++ replicate (256 - x.count) no_diagnostic
  pub few : x.count ≤ 256
  pub room_for : x.count ≤ room
