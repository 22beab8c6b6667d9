-- What a slice and a cursor show: the records written, and the bytes behind them as lent.
-- Assumes nothing.
use Rattle.std.specs.Prelude.{ℕ, Bool, ◌&&◌, ◌+◌, ◌*◌, List, [], ◌∷◌, ◌++◌, map, length, take, drop, nat_lt, if◌then◌else◌, slice_get, Option, Result, Ok, Err}
use Rattle.std.specs.List.{range_with_len}
use mathlib.Core.List.{flat_map}
use Rattle.record.specs.declared.Record.{Record}
use Rattle.record.specs.declared.cursor.Cursor.{Cursor}
use Rattle.record.specs.declared.write.Full.{Full}
use Rattle.record.specs.Layout.{decode_record, encode_record}

-- how many records are written, their bytes, the records, the bytes behind them, how many may stand there, and how
-- long the slice is
pub record Written : Type 0 where
  pub count : ℕ
  pub front : List ℕ
  pub records : List Record
  pub rest : List ℕ
  pub most : ℕ
  pub size : ℕ

-- the first n records of some bytes
unfoldable pub records_in : ℕ → List ℕ → List Record
records_in n bytes = map (λ i. decode_record (drop (24 * i) bytes)) (range_with_len 0 n)

unfoldable pub shown : List ℕ → Cursor → Written
shown bytes c =
    record {
      count = c.count;
      front = take (24 * c.count) bytes;
      records = records_in c.count bytes;
      rest = drop (24 * c.count) bytes;
      most = c.most;
      size = length bytes;
    }

-- nothing is written
abbrev pub blank : List ℕ → ℕ → Written
blank bytes most = record { count = 0; front = []; records = []; rest = bytes; most = most; size = length bytes }

-- records are written at the front of a slice, and the rest is as it was lent
abbrev pub written : List Record → List ℕ → ℕ → Written
written rs lent most =
    record {
      count = length rs;
      front = flat_map encode_record rs;
      records = rs;
      rest = drop (24 * length rs) lent;
      most = most;
      size = length lent;
    }

-- there is room for one more
abbrev pub has_room : Written → Bool
has_room t = nat_lt t.count t.most && nat_lt 23 (length t.rest)

-- one more record
abbrev pub with_record : Written → Record → Written
with_record t r =
    record {
      count = t.count + 1;
      front = t.front ++ encode_record r;
      records = t.records ++ r ∷ [];
      rest = drop 24 t.rest;
      most = t.most;
      size = t.size;
    }

-- one more record, where there is room
unfoldable pub pushed : Written → Record → Written
pushed t r = if has_room t then with_record t r else t

-- the number that it gets
unfoldable pub number_given : Written → Result ℕ Full
number_given t = if has_room t then Ok t.count else Err (record {})

-- record n, if it is written
unfoldable pub read_at : Written → ℕ → Option Record
read_at t n = slice_get t.records n

-- the whole slice
abbrev pub all_of : Written → List ℕ
all_of t = t.front ++ t.rest
