-- The 24 bytes of a record, and where record r of a book stands.
-- Assumes nothing.
use Rattle.std.specs.Prelude.{ℕ, ◌+◌, ◌*◌, ◌/◌, ◌%◌, ◌^◌, ◌<◌, List, ◌++◌, drop}
use Rattle.record.specs.Bytes.{little_endian, little_bytes}
use Rattle.record.specs.declared.Record.{Record}

-- "byte 0 kind; 1 sub; 2-3 a; 4-5 b; 6-7 c; 8-15 v; 16-19 span offset; 20-23 span length"
unfoldable pub decode_record : List ℕ → Record
decode_record s =
    record {
      kind = little_endian 1 s;
      sub = little_endian 1 (drop 1 s);
      a = little_endian 2 (drop 2 s);
      b = little_endian 2 (drop 4 s);
      c = little_endian 2 (drop 6 s);
      v = little_endian 8 (drop 8 s);
      span = record { offset = little_endian 4 (drop 16 s); len = little_endian 4 (drop 20 s) };
    }

unfoldable pub encode_record : Record → List ℕ
encode_record r =
    little_bytes 1 r.kind
    ++ little_bytes 1 r.sub
    ++ little_bytes 2 r.a
    ++ little_bytes 2 r.b
    ++ little_bytes 2 r.c
    ++ little_bytes 8 r.v
    ++ little_bytes 4 r.span.offset
    ++ little_bytes 4 r.span.len

-- "Record number = 21 × block + place": blocks of 512 bytes, "21 records of 24 bytes from byte 4"
unfoldable pub record_at : List ℕ → ℕ → Record
record_at book r = decode_record (drop (512 * (r / 21) + 4 + 24 * (r % 21)) book)

-- the fields are within their widths
pub record Within (r : Record) : Type 0 where
  pub kind : r.kind < 2 ^ 8
  pub sub : r.sub < 2 ^ 8
  pub a : r.a < 2 ^ 16
  pub b : r.b < 2 ^ 16
  pub c : r.c < 2 ^ 16
  pub v : r.v < 2 ^ 64
  pub offset : r.span.offset < 2 ^ 32
  pub len : r.span.len < 2 ^ 32
