-- A book that is read: its records and its wildcard byte; which records stand under which declaration or item.
-- Words in quotation marks are rules of docs/FORMAT.md in brief.
-- Assumes nothing.
use Rattle.std.specs.Prelude.{ℕ, suc, ◌-◌, Bool, not, List, [], ◌∷◌, ltb, length, drop}
use Rattle.record.specs.declared.Record.{Record}
use Rattle.book.specs.Lists.{any, keep, keep_while, from, up_to}
use Rattle.book.specs.Blocks.{records, wildcards}
use Rattle.book.specs.Faults.{record_of, is_kind, is_declaration}

-- the records, and whether "wildcard imports exist"
pub record Book : Type 0 where
  pub records : List Record
  pub wildcards : Bool

-- the book that some bytes are; it means something where none of causes 1 to 8 refuses them
unfoldable pub read : List ℕ → Book
read bytes = record { records = records bytes; wildcards = wildcards bytes }

-- record n of the book
infixl 90 ◌!◌
abbrev pub ◌!◌ : Book → ℕ → Record
book ! n = record_of book.records n

-- the numbers of the records that pass a test, in book order
unfoldable pub numbers_of : (Record → Bool) → Book → List ℕ
numbers_of test book = keep (λ n. test (book ! n)) (up_to (length book.records))

-- the record is of one of some kinds
abbrev pub is_one_of : List ℕ → Record → Bool
is_one_of kinds r = any (λ k. is_kind k r) kinds

-- what stands behind a declaration or an item and belongs to it: type parameters, annotations and arguments (30, 34 to
-- 36)
unfoldable pub notes : Book → ℕ → List Record
notes book n =
    keep_while (is_one_of (30 ∷ 34 ∷ 35 ∷ 36 ∷ [])) (keep (λ r. ltb 16 r.kind) (drop (suc n) book.records))

-- the numbers of the fields, tombstones and variants (31 to 33) of a declaration: "The latest declaration is the one
-- meant"
unfoldable pub items : Book → ℕ → List ℕ
items book n =
    keep
    (λ m. is_one_of (31 ∷ 32 ∷ 33 ∷ []) (book ! m))
    (keep_while (λ m. not (is_declaration (book ! m))) (from (suc n) (length book.records - suc n)))
