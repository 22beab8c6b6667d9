-- What the functions inside `lower` do, over the code's tables and what it has written.
-- Assumes nothing.
use Rattle.std.specs.Prelude.{◌≡◌, ℕ, Bool, ◌&&◌, List, nat_le, Result, Ok, Err, count_by, is_some, length, map}
use Rattle.record.specs.declared.refusal.Refusal.{Refusal}
use Rattle.record.specs.Write.{room_for, cleared}
use Rattle.record.specs.Written.{all_of}
use Rattle.book.specs.Outline.{Book}
use Rattle.constants.specs.declared.reached.Settled.{Settled}
use Rattle.constants.specs.Given.{told}
use Rattle.constants.specs.OfBook.{settled}
use Rattle.types.specs.declared.LowerCtx.{LowerCtx}
use Rattle.types.specs.Below.{names_below}
use Rattle.types.specs.Begun.{begun}
use Rattle.types.specs.Code.{State, Outcome, done, next}
use Rattle.types.specs.Registry.{nothing_known, registered}
use Rattle.types.specs.PlainAliases.{lower_aliases}
use Rattle.book.specs.Noted.{noted_of}
use Rattle.bodies.specs.Code.{lower_constants, lower_bodies}
use Rattle.lower.specs.declared.Counted.{Counted}

-- tables of so many names and records have room for a book
abbrev pub fits : ℕ → ℕ → Book → Bool
fits names records book = nat_le (length book.records) records && names_below names book.records

-- the reached constants of a book
unfoldable pub evaluated : Book → List Settled
evaluated book = map told (settled book)

-- the counters behind what was done
abbrev pub counters_of : State → LowerCtx
counters_of s = record { next = s.names.next; results = s.results.count; diagnostics = s.diagnostics.count }

-- nothing is counted
abbrev pub no_counters : LowerCtx
no_counters = record { next = 0; results = 0; diagnostics = 0 }

-- plain aliases, constants and bodies, one after the other; the counters behind them
unfoldable pub lower_parts : List ℕ → List Settled → List ℕ → State → Outcome LowerCtx
lower_parts declarations settled outside s =
    next (lower_aliases declarations s) (λ _ t.
    next (lower_constants settled t) (λ _ u. next (lower_bodies outside u) (λ _ v. done (counters_of v) v)))

-- where the parts begin, with the declarations registered in tables for the names below a number, with room for so many
-- generic aliases and pairs
abbrev pub entered : ℕ → ℕ → Book → List ℕ → List ℕ → List ℕ → State
entered bound room book declarations results diagnostics =
    begun book (registered book declarations (nothing_known bound room)) results diagnostics

-- how many of some constants have a value
abbrev pub valued : List Settled → ℕ
valued settled = count_by (λ c. is_some c.value) settled

-- the counters and the reply to how the parts ended
abbrev pub replied : Result LowerCtx Refusal → ℕ → Counted
replied (Ok ctx) stored =
    record {
      ctx = ctx;
      reply = Ok (record {
        results = ctx.results;
        diagnostics = ctx.diagnostics;
        constants =
            stored;
      });
    }
replied (Err refusal) stored = record { ctx = no_counters; reply = Err refusal }

-- what is left in a slice of which so many records may be used: a refusal clears them
abbrev pub left_by : Result LowerCtx Refusal → ℕ → List ℕ → List ℕ
left_by (Ok ctx) most bytes = bytes
left_by (Err refusal) most bytes = cleared (room_for most bytes) bytes

-- a book with tables for the names below a number, with room for so many generic aliases and pairs
unfoldable pub lower_whole : ℕ → ℕ → Book → List ℕ → List ℕ → Outcome LowerCtx
lower_whole bound room book results diagnostics =
    let declarations = (noted_of book).declarations in
    lower_parts
    declarations
    (evaluated book)
    (noted_of book).outside
    (entered bound room book declarations results diagnostics)

-- the counters and the reply to an outcome, and what is left in the slices
pub record Replies (o : Outcome LowerCtx) (stored : ℕ) (c : Counted) (results diagnostics : List ℕ) : Type 0 where
  pub reply : c ≡ replied o.answer stored
  pub results_are : results ≡ left_by o.answer 2048 (all_of o.state.results)
  pub diagnostics_are : diagnostics ≡ left_by o.answer 256 (all_of o.state.diagnostics)
