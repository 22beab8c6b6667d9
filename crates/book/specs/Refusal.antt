-- Which refusal of causes 1 to 8 comes first. Words in quotation marks are rules of docs/FORMAT.md in brief.
-- Assumes nothing.
use Rattle.std.specs.Prelude.{ℕ, Bool, not}
use mathlib.Core.List.{List, [], ◌∷◌, ◌++◌, flat_map}
use Rattle.std.proofs.Math.Option.{Option}
use Rattle.record.specs.Check.{check_holds}
use Rattle.record.specs.declared.Record.{Record}
use Rattle.book.specs.Lists.{find, up_to}
use Rattle.book.specs.Blocks.{length_fault, block_fault, blocks, record_count, records}
use Rattle.book.specs.Faults.{shape_fault, child_fault, follow_fault, name_fault, depth_fault}

-- the rows 1 to 8 of the table of causes (docs/FORMAT.md, section 4)
pub data Cause : Type 0 where
  book_length check block shape child follow name depth : Cause

-- the number of the cause
unfoldable pub number : Cause → ℕ
number book_length = 1
number check = 2
number block = 3
number shape = 4
number child = 5
number follow = 6
number name = 7
number depth = 8

-- the row holds at a place: of a book, whose records are `rs`
unfoldable pub faulty : List ℕ → List Record → Cause → ℕ → Bool
faulty book rs book_length p = length_fault book
faulty book rs check k = not (check_holds book k)
faulty book rs block k = block_fault book k
faulty book rs shape n = shape_fault rs n
faulty book rs child n = child_fault rs n
faulty book rs follow n = follow_fault rs n
faulty book rs name n = name_fault rs n
faulty book rs depth n = depth_fault rs n

-- a cause at a place: 0, a block or a record
pub record Refusal : Type 0 where
  pub cause : Cause
  pub place : ℕ

-- a cause at a place, written short
abbrev pub at : Cause → ℕ → Refusal
at c p = record { cause = c; place = p }

-- "2 before 3"
abbrev pub at_block : ℕ → List Refusal
at_block k = at check k ∷ at block k ∷ []

-- "4 to 8 within each"
abbrev pub at_record : ℕ → List Refusal
at_record n = at shape n ∷ at child n ∷ at follow n ∷ at name n ∷ at depth n ∷ []

-- "Order: 1; blocks upward, 2 before 3; records upward, 4 to 8 within each"
unfoldable pub in_order : List ℕ → List Refusal
in_order book = at book_length 0 ∷ flat_map at_block (up_to (blocks book)) ++ flat_map at_record (up_to (record_count book))

-- a refusal whose row holds at its place
abbrev pub holds : List ℕ → Refusal → Bool
holds book x = faulty book (records book) x.cause x.place

-- the first refusal, or none
unfoldable pub first_refusal : List ℕ → Option Refusal
first_refusal book =
    let rs : List Record = records book in
    find (λ x. faulty book rs x.cause x.place) (in_order book)
