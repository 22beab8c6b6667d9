-- What is claimed of `lower_book`, for every three lists of bytes; the proofs are in proofs/Laws.antt and
-- proofs/Written.antt. Words in quotation marks are rules of docs/FORMAT.md in brief.
-- Assumes nothing.
use Rattle.std.specs.Prelude.{ℕ, ◌*◌, ◌≤◌, true, List, [], map, ◌↔◌, ◌≡◌, length, take, drop, replicate}
use Rattle.record.specs.declared.Record.{Record}
use Rattle.record.specs.Bytes.{AreBytes}
use Rattle.record.specs.Layout.{decode_record}
use Rattle.record.specs.Write.{room_for}
use Rattle.book.specs.Lists.{keep, up_to}
use Rattle.book.specs.Refusal.{Refusal, number}
use Rattle.book.specs.First.{IsFirst, Holds, has_place}
use Rattle.book.specs.Outline.{read}
use Rattle.constants.specs.OfBook.{settled}
use Rattle.types.specs.Lowering.{Stop, stop_number, used_limits}
use Rattle.types.specs.Step.{is_stored}
use Rattle.types.specs.Events.{Event, events, written, told, StopsAt, Fits}
use Rattle.lower.specs.LowerBook.{Reply, accepted, refused, Outcome, lower_book, lower_records}

-- a slice as it was from byte n on, and as long as it was
pub record KeptFrom (n : ℕ) (lent left : List ℕ) : Type 0 where
  pub same_length : length left ≡ length lent
  pub rest : drop n left ≡ drop n lent

-- "zero up to its limit in bytes", and past it as it was
pub record Cleared (limit : ℕ) (lent left : List ℕ) : Type 0 where
  pub zeros : take (24 * limit) left ≡ replicate (24 * limit) 0
  pub past : KeptFrom (24 * limit) lent left

-- the first n records of a slice
unfoldable pub first_records : ℕ → List ℕ → List Record
first_records n slice = map (λ i. decode_record (drop (24 * i) slice)) (up_to n)

-- all that the lowering of a book does, one thing after the other, up to the first step past 64; what the list has
-- behind that is filler
abbrev pub doings : List ℕ → List Event
doings book = events (lower_records (settled (read book)) (read book)) 0

-- accepted with r results, d diagnostics and c stored constants: the slices hold exactly the records that the lowering
-- writes and tells, within the used limits, and are else as lent; the counts are those of these records
pub record LeavesRecords (book results diagnostics : List ℕ) (x : Outcome) (r d c : ℕ) : Type 0 where
  pub results_are : first_records r x.results ≡ written (doings book)
  pub results_count : r ≡ length (written (doings book))
  pub results_limit : r ≤ room_for 2048 results
  pub results_rest : KeptFrom (24 * r) results x.results
  pub diagnostics_are : first_records d x.diagnostics ≡ told (doings book)
  pub diagnostics_count : d ≡ length (told (doings book))
  pub diagnostics_limit : d ≤ room_for 256 diagnostics
  pub diagnostics_rest : KeptFrom (24 * d) diagnostics x.diagnostics
  pub stored_count : c ≡ length (keep is_stored (first_records r x.results))

-- refused by 9 or 10: "On 9 and 10 each slice is zero up to its limit in bytes"
pub record LeavesZeros (results diagnostics : List ℕ) (x : Outcome) : Type 0 where
  pub in_results : Cleared (room_for 2048 results) results x.results
  pub in_diagnostics : Cleared (room_for 256 diagnostics) diagnostics x.diagnostics

-- refused by 1 to 8: all is left as it was
pub record LeavesAll (results diagnostics : List ℕ) (x : Outcome) : Type 0 where
  pub in_results : x.results ≡ results
  pub in_diagnostics : x.diagnostics ≡ diagnostics

-- what each reply says of the slices
unfoldable pub Leaves : List ℕ → List ℕ → List ℕ → Outcome → Reply → Type 0
Leaves book results diagnostics x (accepted r d c) = LeavesRecords book results diagnostics x r d c
Leaves book results diagnostics x (refused n p) =
    (n ≤ 8 → LeavesAll results diagnostics x) × (9 ≤ n → LeavesZeros results diagnostics x)

-- what is left is what the reply says, for every book of bytes and every two slices
abbrev pub SlicesAreLeft : Type 0
SlicesAreLeft =
    (book results diagnostics : List ℕ) →
    AreBytes book →
    Leaves
    book
    results
    diagnostics
    (lower_book book results diagnostics)
    (lower_book book results diagnostics).reply

-- Which reply is given: a refusal exactly if its row holds and no earlier one does. Rows 1 to 8 are told from the book
-- as it lies there, rows 9 and 10 from one thing that its lowering does and the things before it.
abbrev pub NoRowHolds : List ℕ → Type 0
NoRowHolds book = (y : Refusal) → has_place book y.cause y.place ≡ true → Holds book y → ⊥

-- causes 1 to 8
abbrev pub RefusedByItsRow : Type 0
RefusedByItsRow =
    (book results diagnostics : List ℕ) (x : Refusal) →
    ((lower_book book results diagnostics).reply ≡ refused (number x.cause) x.place) ↔ IsFirst book x

-- causes 9 and 10
abbrev pub StoppedByItsRow : Type 0
StoppedByItsRow =
    (book results diagnostics : List ℕ) (c : Stop) (p : ℕ) →
    ((lower_book book results diagnostics).reply ≡ refused (stop_number c) p) ↔
    (NoRowHolds book × StopsAt (used_limits results diagnostics) [] (doings book) c p)

-- accepted, whatever the counts
pub record IsAccepted (x : Outcome) : Type 0 where
  pub results : ℕ
  pub diagnostics : ℕ
  pub constants : ℕ
  pub reply : x.reply ≡ accepted results diagnostics constants

-- accepted exactly if no row holds
abbrev pub AcceptedByNone : Type 0
AcceptedByNone =
    (book results diagnostics : List ℕ) →
    IsAccepted (lower_book book results diagnostics) ↔
    (NoRowHolds book × Fits (used_limits results diagnostics) (doings book))
