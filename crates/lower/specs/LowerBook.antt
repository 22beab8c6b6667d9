-- The whole: `lower_book`, from three slices to the reply and what is left in the two lent for writing. Words in
-- quotation marks are rules of docs/FORMAT.md in brief.
-- Assumes nothing.
use Rattle.std.specs.Prelude.{ℕ, List, length}
use Rattle.std.proofs.Math.Option.{some, none}
use Rattle.record.specs.Write.{with_records, cleared}
use Rattle.book.specs.Refusal.{number, first_refusal}
use Rattle.book.specs.Outline.{Book, read}
use Rattle.constants.specs.Order.{Settled}
use Rattle.constants.specs.OfBook.{settled}
use Rattle.types.specs.Lowering.{Lowering, Limits, Out, start, finished, stopped, stop_number, run, used_limits}
use Rattle.types.specs.Resolved.{Names}
use Rattle.types.specs.Step.{◌>>◌, for_each}
use Rattle.types.specs.Numbers.{plain_aliases, register_declarations}
use Rattle.types.specs.Alias.{lower_alias}
use Rattle.bodies.specs.Constant.{lower_constants, stored_count}
use Rattle.bodies.specs.Bodies.{lower_bodies}

-- "20-22 numbered from 0, then generic aliases, [..]; plain aliases; constants, [..]; bodies. Each part goes in book
-- order." The constants come as they were settled.
unfoldable pub lower_records : List Settled → Book → Lowering (Unit × Names)
lower_records cs book =
    (for_each (lower_alias book) (plain_aliases book) >> lower_constants book cs >> lower_bodies book)
    (register_declarations book)

-- what a lowering answers
pub data Reply : Type 0 where
  -- "the counts of results, diagnostics and stored constants"
  accepted : ℕ → ℕ → ℕ → Reply
  -- the number of the cause, and the place
  refused : ℕ → ℕ → Reply

-- the reply, and both slices as they are left
pub record Outcome : Type 0 where
  pub reply : Reply
  pub results : List ℕ
  pub diagnostics : List ℕ

-- how a lowering under limits leaves the slices: accepted, or refused by 9 or 10
unfoldable pub ended : {A : Type 0} → ℕ → Limits → List ℕ → List ℕ → Out A → Outcome
ended stored most results diagnostics (finished a s) =
    record {
      reply = accepted (length s.results) (length s.diagnostics) stored;
      results = with_records s.results results;
      diagnostics = with_records s.diagnostics diagnostics;
    }
ended stored most results diagnostics (stopped stop p) =
    record {
      reply = refused (stop_number stop) p;
      results = cleared most.results results;
      diagnostics = cleared most.diagnostics diagnostics;
    }

-- a book that none of 1 to 8 refuses
unfoldable pub lower_read : List Settled → Book → List ℕ → List ℕ → Outcome
lower_read cs book results diagnostics =
    let most : Limits = used_limits results diagnostics in
    ended (stored_count cs) most results diagnostics (run most (lower_records cs book) start)

-- causes 1 to 8 leave all as it was
unfoldable pub lower_book : List ℕ → List ℕ → List ℕ → Outcome
lower_book book results diagnostics =
    elim (first_refusal book) [
      | some x ↦ record { reply = refused (number x.cause) x.place; results = results; diagnostics = diagnostics }
      | none ↦ lower_read (settled (read book)) (read book) results diagnostics
    ]
