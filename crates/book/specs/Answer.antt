-- What reading answers, in the terms of the definitions.
-- Assumes nothing.
use Rattle.std.specs.Prelude.{ℕ, ◌+◌, ◌*◌, Bool, List, ◌≡◌, Result, Ok, Err}
use Rattle.std.proofs.Math.Option.{Option, some, none}
use Rattle.record.specs.declared.refusal.Cause as code
use Rattle.record.specs.declared.refusal.Cause.TheVariants.{BookLength, Check, Block, Shape, Child, Follow, Name, Depth}
use Rattle.record.specs.declared.refusal.Refusal as answered
use Rattle.book.specs.declared.Reading.{Reading}
use Rattle.book.specs.declared.Reading.TheVariants.{Accepted, Refused}
use Rattle.book.specs.Blocks.{record_count, wildcards}
use Rattle.book.specs.Refusal.{Cause, book_length, check, block, shape, child, follow, name, depth}
use Rattle.book.specs.Refusal.{Refusal, number, first_refusal}

-- a row of the table of causes, as the code names it; `number` gives its number
abbrev pub named : Cause → code.Cause
named book_length = BookLength
named check = Check
named block = Block
named shape = Shape
named child = Child
named follow = Follow
named name = Name
named depth = Depth

-- a cause at a place, as the code hands it out
abbrev pub refused_by : Refusal → answered.Refusal
refused_by x = record { cause = named x.cause; place = x.place }

-- what a part of the reading answers: the first of its refusals, if there is one
unfoldable pub outcome : Option Refusal → Result Unit answered.Refusal
outcome none = Ok tt
outcome (some x) = Err (refused_by x)

-- what is answered: the number of records and whether "wildcard imports exist", or the refusal
pub data Answer : Type 0 where
  accepted : ℕ → Bool → Answer
  refused : Refusal → Answer

-- the answer by the first refusal, if there is one
unfoldable pub answer_by : Option Refusal → List ℕ → Answer
answer_by none book = accepted (record_count book) (wildcards book)
answer_by (some x) book = refused x

-- what reading a book answers
unfoldable pub read_book : List ℕ → Answer
read_book book = answer_by (first_refusal book) book

-- the answer, as the code hands it out
unfoldable pub reading_of : Answer → Reading
reading_of (accepted n w) = Accepted n w
reading_of (refused x) = Refused (named x.cause) x.place

-- the answer as one number: 0, or the number of the cause times 65,536, and the place
unfoldable pub refusal_word : Answer → ℕ
refusal_word (accepted n w) = 0
refusal_word (refused x) = 65536 * number x.cause + x.place

-- Claim. What the code hands out tells the answer
abbrev pub ReadingTells : Type 0
ReadingTells = (a b : Answer) → reading_of a ≡ reading_of b → a ≡ b
