-- The definitions at work: the example of RFC 1071, section 3, and where records of a book stand.
-- Assumes nothing.
use Prim.Native.Nat.{ℕ}
use mathlib.Core.List.{List, [], ◌∷◌}
use mathlib.Core.Path.{◌≡◌, refl}
use lib.ListN.{drop}
use Rattle.record.specs.Bytes.{little_endian, little_bytes}
use Rattle.record.specs.Check.{words, ones_sum, checksum}
use Rattle.record.specs.Layout.{decode_record, encode_record, record_at}
use Rattle.record.specs.declared.Record.{Record}

-- 0001 + f203 + f4f5 + f6f7 is 2ddf0, and ddf2 with its carries added in
example : List ℕ
example = 0x00 ∷ 0x01 ∷ 0xf2 ∷ 0x03 ∷ 0xf4 ∷ 0xf5 ∷ 0xf6 ∷ 0xf7 ∷ []

rfc_1071_sum : ones_sum (words example) ≡ 0xddf2
unfolding example ones_sum words
rfc_1071_sum = refl

rfc_1071_checksum : checksum (words example) ≡ 0x220d
unfolding example checksum ones_sum words
rfc_1071_checksum = refl

-- record 20 is the last of block 0, record 21 the first of block 1, and record 1,343 the last of the largest book
record_20 : (book : List ℕ) → record_at book 20 ≡ decode_record (drop 484 book)
unfolding record_at
record_20 book = refl

record_21 : (book : List ℕ) → record_at book 21 ≡ decode_record (drop 516 book)
unfolding record_at
record_21 book = refl

record_1343 : (book : List ℕ) → record_at book 1343 ≡ decode_record (drop 32740 book)
unfolding record_at
record_1343 book = refl

-- each field has its own bytes, least significant first
layout : Record
layout =
    record {
      kind = 0x01;
      sub = 0x02;
      a = 0x0403;
      b = 0x0605;
      c = 0x0807;
      v = 0x100f0e0d0c0b0a09;
      span = record { offset = 0x14131211; len = 0x18171615 };
    }

fields_in_order :
    encode_record layout ≡ 1 ∷ 2 ∷ 3 ∷ 4 ∷ 5 ∷ 6 ∷ 7 ∷ 8 ∷ 9 ∷ 10 ∷ 11 ∷ 12 ∷ 13 ∷ 14 ∷ 15 ∷ 16 ∷ 17 ∷ 18 ∷ 19 ∷ 20 ∷ 21 ∷ 22 ∷ 23 ∷ 24 ∷ []
unfolding layout encode_record little_bytes
fields_in_order = refl

-- past the end of the book every byte counts as 0
nothing_there : record_at [] 0 ≡ record { kind = 0; sub = 0; a = 0; b = 0; c = 0; v = 0; span = record { offset = 0; len = 0 } }
unfolding record_at decode_record little_endian
nothing_there = refl
