-- The blocks of a book, causes 1 to 3, and its records. Words in quotation marks are rules of docs/FORMAT.md in brief.
-- Assumes nothing.
use Rattle.std.specs.Prelude.{ℕ, ◌+◌, ◌-◌, ◌*◌, ◌/◌, ◌%◌, Bool, cond, not, ◌&&◌, ◌||◌, List, map, leb, ltb, eqb, length, take, drop, get_or}
use Rattle.record.specs.Bytes.{little_endian}
use Rattle.record.specs.Layout.{record_at}
use Rattle.record.specs.declared.Record.{Record}
use Rattle.book.specs.Lists.{any, up_to}

-- cause 1: "length 0, above 32,768 or no multiple of 512"
unfoldable pub length_fault : List ℕ → Bool
length_fault book = eqb (length book) 0 || ltb 32768 (length book) || not (eqb (length book % 512) 0)

-- "blocks of 512 bytes"
abbrev pub blocks : List ℕ → ℕ
blocks book = length book / 512

-- block k from its first byte on
abbrev pub block : List ℕ → ℕ → List ℕ
block book k = drop (512 * k) book

-- "byte 2 its record count"
abbrev pub records_in : List ℕ → ℕ → ℕ
records_in book k = get_or (block book k) 2 0

-- block k is the last
abbrev last : List ℕ → ℕ → Bool
last book k = eqb (k + 1) (blocks book)

-- "21, in the last block 1 to 21"
abbrev pub count_holds : List ℕ → ℕ → Bool
count_holds book k = cond (last book k) (leb 1 (records_in book k) && leb (records_in book k) 21) (eqb (records_in book k) 21)

-- "byte 3 zero, but in block 0 it is 1 where wildcard imports exist"
abbrev pub byte3_holds : List ℕ → ℕ → Bool
byte3_holds book k = cond (eqb k 0) (ltb (get_or (block book k) 3 0) 2) (eqb (get_or (block book k) 3 0) 0)

-- "Unused record places are zero", and "508-509 zero" behind them
abbrev pub rest_holds : List ℕ → ℕ → Bool
rest_holds book k =
    let used : ℕ = 4 + 24 * records_in book k in
    not (any (λ x. not (eqb x 0)) (take (510 - used) (drop used (block book k))))

-- cause 3: "another block rule"; "bytes 0-1 its number from 0"
unfoldable pub block_fault : List ℕ → ℕ → Bool
block_fault book k =
    not (eqb (little_endian 2 (block book k)) k && count_holds book k && byte3_holds book k && rest_holds book k)

-- every block but the last holds 21 records
unfoldable pub record_count : List ℕ → ℕ
record_count book = 21 * (blocks book - 1) + records_in book (blocks book - 1)

-- the records of a book, in their order
unfoldable pub records : List ℕ → List Record
records book = map (record_at book) (up_to (record_count book))

-- "in block 0 it is 1 where wildcard imports exist"
unfoldable pub wildcards : List ℕ → Bool
wildcards book = eqb (get_or book 3 0) 1
