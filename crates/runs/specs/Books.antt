-- The bytes of a book, from its records.
-- Assumes nothing.
use Rattle.std.specs.Prelude.{ℕ, zero, suc, ◌-◌, ◌*◌, ◌/◌, ◌%◌, Bool, cond, length, take, drop, replicate}
use mathlib.Core.List.{List, [], ◌∷◌, ◌++◌, flat_map}
use Rattle.record.specs.declared.Record.{Record}
use Rattle.record.specs.Bytes.{little_bytes}
use Rattle.record.specs.Check.{words, checksum}
use Rattle.record.specs.Layout.{encode_record}

-- a block without its check: number, record count, byte 3, records, zeros up to byte 509
unfoldable pub block_bytes : ℕ → ℕ → List Record → List ℕ
block_bytes k byte3 rs =
    little_bytes 2 k
    ++ (length rs ∷ byte3 ∷ [])
    ++ flat_map encode_record rs
    ++ replicate (506 - 24 * length rs) 0

-- 255 words, and their check behind them
unfoldable pub with_check : List ℕ → List ℕ
with_check bytes =
    let c : ℕ = checksum (words bytes) in
    bytes ++ (c / 256 ∷ c % 256 ∷ [])

-- at most `most` blocks from number k on
unfoldable pub blocks_from : ℕ → ℕ → ℕ → List Record → List ℕ
blocks_from zero k byte3 rs = []
blocks_from (suc most) k byte3 [] = []
blocks_from (suc most) k byte3 (r ∷ rs) =
    with_check (block_bytes k byte3 (take 21 (r ∷ rs))) ++ blocks_from most (suc k) 0 (drop 20 rs)

-- the book of some records, with wildcard imports or without
abbrev pub book_of : Bool → List Record → List ℕ
book_of wildcards rs = blocks_from 64 0 (cond wildcards 1 0) rs

-- a record by its fields, in the order of its bytes; the last two are its span
abbrev pub rec : ℕ → ℕ → ℕ → ℕ → ℕ → ℕ → ℕ → ℕ → Record
rec kind sub a b c v offset len =
    record { kind = kind; sub = sub; a = a; b = b; c = c; v = v; span = record { offset = offset; len = len } }
