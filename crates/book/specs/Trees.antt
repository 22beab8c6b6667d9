-- What is known of an accepted book; the proofs are in proofs/Accepted.antt.
-- Assumes nothing.
use Rattle.std.specs.Prelude.{ℕ, ◌+◌, ◌*◌, ◌/◌, ◌%◌, ◌≤◌, ◌<◌, Bool, true, false, ◌&&◌, ◌||◌, List, ◌≡◌, eqb, length}
use Rattle.std.proofs.Math.Option.{none}
use Rattle.record.specs.Layout.{record_at}
use Rattle.record.specs.declared.Record.{Record}
use Rattle.book.specs.Lists.{All}
use Rattle.book.specs.Shape.{Child, well_shaped, children, names, is_of}
use Rattle.book.specs.Blocks.{record_count, records, wildcards}
use Rattle.book.specs.Faults.{record_of, used_before, used_twice, before, is_kind, is_union_tombstone, under, fields_go_here, may_follow}
use Rattle.book.specs.Faults.{name_fault, deeper_than}
use Rattle.book.specs.Refusal.{first_refusal}
use Rattle.book.specs.Answer.{accepted, read_book}

-- the child of record n is an earlier record, of the group that the row of n says, and no child of an earlier one
pub record IsChild (rs : List Record) (n : ℕ) (c : Child) : Type 0 where
  pub earlier : c.number < n
  pub of_group : is_of c.group (record_of rs c.number) ≡ true
  pub unused : used_before rs n c.number ≡ false

-- record n is inside the rules of causes 4 to 8: shapes, names below 4,096, children, the follow rule, names declared
-- once, and trees of at most 64 levels
pub record IsRecord (rs : List Record) (n : ℕ) : Type 0 where
  pub shaped : well_shaped (record_of rs n) ≡ true
  pub named : All (λ x. x < 4096) (names (record_of rs n))
  pub children_are : All (IsChild rs n) (children (record_of rs n))
  pub none_twice : used_twice (children (record_of rs n)) ≡ false
  pub follows : may_follow (record_of rs n) (before rs n) ≡ true
  -- items stand under the right declaration
  pub fields_under : is_kind 31 (record_of rs n) || is_kind 32 (record_of rs n) && eqb (record_of rs n).sub 0 ≡ true → fields_go_here (before rs n) ≡ true
  pub variants_under : is_union_tombstone (record_of rs n) || is_kind 33 (record_of rs n) ≡ true → under 21 (before rs n) ≡ true
  pub new_name : name_fault rs n ≡ false
  pub shallow : (record_of rs n).kind < 20 → deeper_than 64 rs n ≡ false

-- each of some records is
abbrev pub WellFormed : List Record → Type 0
WellFormed rs = (n : ℕ) → n < length rs → IsRecord rs n

-- record n stands at the place of its number, and all of it inside the book
pub record InRange (book : List ℕ) (n : ℕ) : Type 0 where
  pub there : record_of (records book) n ≡ record_at book n
  pub inside : 512 * (n / 21) + 4 + 24 * (n % 21) + 24 ≤ length book

-- what a book has that causes 1 to 8 do not refuse
pub record Readable (book : List ℕ) : Type 0 where
  pub some_records : 0 < record_count book
  pub few_records : record_count book ≤ 1344
  pub counted : length (records book) ≡ record_count book
  pub in_range : (n : ℕ) → n < record_count book → InRange book n
  pub well_formed : WellFormed (records book)

-- Claims. Of a book that none of causes 1 to 8 refuses
abbrev pub AcceptedIsReadable : Type 0
AcceptedIsReadable = (book : List ℕ) → first_refusal book ≡ none → Readable book

-- and of one that reading answers for, with so many records and such a wildcard byte
abbrev pub ReadIsReadable : Type 0
ReadIsReadable =
    (book : List ℕ) (n : ℕ) (w : Bool) → read_book book ≡ accepted n w →
    Readable book × (n ≡ record_count book) × (w ≡ wildcards book)
