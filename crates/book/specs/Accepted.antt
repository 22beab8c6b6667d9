-- What reading some bytes gives: the reader's book, or the cause and the place that refuse it; and what holds of each
-- book that is read.
-- Assumes nothing.
use Rattle.std.specs.Prelude.{ℕ, ◌<◌, ◌≤◌, Bool, List, map, ◌≡◌, length, Result, Ok, Err}
use Rattle.std.proofs.Math.Option.{Option, some, none}
use Rattle.record.specs.declared.Record.{Record}
use Rattle.record.specs.declared.kind.Kind.TheVariants.{Generic, OverOne, OverTwo, Operation, Logic, Comparison, Range, Newtype, Alias, Constant, Field, Tombstone}
use Rattle.record.specs.Kind.{kind_from}
use Rattle.record.specs.Layout.{record_at}
use Rattle.record.specs.declared.refusal.Refusal as answered
use Rattle.book.specs.Lists.{All, up_to}
use Rattle.book.specs.Shape.{children}
use Rattle.book.specs.Blocks.{record_count}
use Rattle.book.specs.Blocks as blocks
use Rattle.book.specs.Refusal.{Refusal, first_refusal}
pub use Rattle.book.specs.Answer.{named, refused_by}
use Rattle.book.specs.Answer.{Answer, accepted, refused, read_book}
use Rattle.book.specs.Outline.{Book, read}
use Rattle.book.specs.Trees.{WellFormed, Readable}

-- the book that some bytes are, or the refusal of them
unfoldable pub book_or : Option Refusal → List ℕ → Result Book answered.Refusal
book_or none bytes = Ok (read bytes)
book_or (some x) bytes = Err (refused_by x)

-- what reading some bytes gives
unfoldable pub book_of : List ℕ → Result Book answered.Refusal
book_of bytes = book_or (first_refusal bytes) bytes

-- the record that stands for none
abbrev pub blank : Record
blank = record { kind = 0; sub = 0; a = 0; b = 0; c = 0; v = 0; span = record { offset = 0; len = 0 } }

-- the book that so many records make, each at its place in some bytes
unfoldable pub book_in : List ℕ → ℕ → Bool → Book
book_in bytes count wildcards = record { records = map (record_at bytes) (up_to count); wildcards = wildcards }

-- what reading keeps of the bytes of a book: how many records it has, and whether there are wildcard imports; past the
-- last record its bytes read as none
pub record Kept (bytes : List ℕ) (count : ℕ) (wildcards : Bool) : Type 0 where
  pub readable : Readable bytes
  pub counted : count ≡ record_count bytes
  pub wild : wildcards ≡ blocks.wildcards bytes
  pub absent : (n : ℕ) → record_count bytes ≤ n → record_at bytes n ≡ blank

-- what the code holds of a book: some bytes, how many records it has, and whether there are wildcard imports. These make
-- the book that is read from bytes which are readable as a whole; past the last record what is held reads as none
pub record Held (bytes : List ℕ) (count : ℕ) (wildcards : Bool) : Type 0 where
  pub whole : List ℕ
  pub readable : Readable whole
  pub same : book_in bytes count wildcards ≡ read whole
  pub absent : (n : ℕ) → count ≤ n → record_at bytes n ≡ blank

-- what holds of each book that is read
pub record IsRead (book : Book) : Type 0 where
  pub some_records : 0 < length book.records
  pub few_records : length book.records ≤ 1344
  pub well_formed : WellFormed book.records

-- the children of record n, which is r, are earlier records: each of them, and by kind
pub record Earlier (n : ℕ) (r : Record) : Type 0 where
  pub all : All (λ c. c.number < n) (children r)
  pub generic : kind_from r.kind ≡ Ok Generic → r.b < n
  pub over_one : kind_from r.kind ≡ Ok OverOne → r.a < n
  pub over_two : kind_from r.kind ≡ Ok OverTwo → (r.a < n) × (r.b < n)
  pub operation : kind_from r.kind ≡ Ok Operation → (r.a < n) × (r.b < n)
  pub logic : kind_from r.kind ≡ Ok Logic → r.a < n
  -- And and Or have two sides, Not has one
  pub logic_two : kind_from r.kind ≡ Ok Logic → r.sub < 2 → r.b < n
  pub comparison : kind_from r.kind ≡ Ok Comparison → r.a < n
  pub range : kind_from r.kind ≡ Ok Range → (r.a < n) × (r.b < n)
  pub newtype : kind_from r.kind ≡ Ok Newtype → r.b < n
  pub alias : kind_from r.kind ≡ Ok Alias → r.b < n
  pub constant : kind_from r.kind ≡ Ok Constant → (r.b < n) × (r.c < n)
  pub field : kind_from r.kind ≡ Ok Field → r.b < n
  -- 65,535 stands for none
  pub field_where : kind_from r.kind ≡ Ok Field → (r.c ≡ 65535 → ⊥) → r.c < n
  pub tombstone : kind_from r.kind ≡ Ok Tombstone → (r.c ≡ 65535 → ⊥) → r.c < n

-- what reading some bytes gives, by what is answered for them: the book of so many records, or the refusal
unfoldable pub result_of : Answer → List ℕ → Result Book answered.Refusal
result_of (accepted n w) bytes = Ok (book_in bytes n w)
result_of (refused x) bytes = Err (refused_by x)

-- Claim. Bytes are read as a book, with so many records and such a wildcard byte, exactly if that is what is answered
-- for them, and else turned back as the answer says
abbrev pub ReadsAsAnswered : Type 0
ReadsAsAnswered = (bytes : List ℕ) → book_of bytes ≡ result_of (read_book bytes) bytes
