-- Small books for the rules that K1 to K12 and the books beside them do not come to, with their replies and records,
-- each record worked out by hand from the format. Records stand as in Known.antt. Words in quotation marks are
-- rules of docs/FORMAT.md in brief.
-- Assumes nothing.
use Rattle.std.specs.Prelude.{ℕ, true, false, List, [], ◌∷◌, pos}
use Rattle.book.specs.Lists.{All}
use Rattle.lower.specs.LowerBook.{accepted}
use Rattle.runs.specs.Books.{rec}
use Rattle.runs.specs.Claims.{stored, without_value, silent, one_message, no_message, newtype_over, u8, number, array_of, map_of, poison}
use Rattle.runs.specs.Claims.{default, varint, delta_over, no_delta, limited}
use Rattle.runs.specs.Known.{Known, Answered, N1, N2, N3, T, U, none}
use Rattle.runs.specs.Slips.{N4, N5, Foo}

-- names
abbrev pub N6 : ℕ
N6 = 6

abbrev pub N7 : ℕ
N7 = 7

abbrev pub Bar : ℕ
Bar = 8

abbrev pub Last : ℕ
Last = 4095

-- "46 its encoding (sub [..] 2 zigzag"
abbrev pub zigzag : ℕ
zigzag = 2

-- And over a comparison with Value and Not over a range of lengths. "an item's type, then its constraint, precede it";
-- "children first, left before right"; "Value becomes Int 0".
abbrev pub and_not : Known
and_not =
    record {
      wildcards = false;
      book =
          rec 20 0 N1 0 0 0 100 1  -- 0: message N1
          ∷ rec 16 4 0 0 0 7 110 2  -- 1: operand Value
          ∷ rec 14 2 1 0 0 0 120 3  -- 2: Lt: record 1
          ∷ rec 16 0 0 0 0 18446744073709551615 130 4  -- 3: operand Int -1
          ∷ rec 16 5 N4 0 0 0 140 5  -- 4: operand reference to N4
          ∷ rec 15 1 3 4 1 0 150 6  -- 5: range: record 3 to record 4, without it, of the length
          ∷ rec 13 2 5 0 0 0 160 7  -- 6: Not: record 5
          ∷ rec 13 0 2 6 0 0 170 8  -- 7: And: record 2, record 6
          ∷ rec 1 2 0 0 0 0 180 9  -- 8: u16
          ∷ rec 31 0 N2 8 7 3 190 1  -- 9: field N2: type 8, constraint 7, ordinal 3
          ∷ [];
      reply = accepted 11 0 0;
      results =
          rec 42 0 N1 0 0 0 100 1  -- 0: message N1
          ∷ rec 1 2 0 0 0 0 0 0  -- 1: u16
          ∷ rec 16 0 0 0 0 0 0 0  -- 2: operand Int 0
          ∷ rec 14 2 2 0 0 0 0 0  -- 3: Lt: record 2
          ∷ rec 16 0 0 0 0 18446744073709551615 0 0  -- 4: operand Int -1
          ∷ rec 16 5 N4 0 0 0 0 0  -- 5: operand reference to N4
          ∷ rec 15 1 4 5 1 0 0 0  -- 6: range: record 4 to record 5, without it, of the length
          ∷ rec 13 2 6 0 0 0 0 0  -- 7: Not: record 6
          ∷ rec 13 0 3 7 0 0 0 0  -- 8: And: record 3, record 7
          ∷ rec 45 0 N2 1 8 3 190 1  -- 9: field N2: type 1, constraint 8, ordinal 3
          ∷ rec 46 0 0 0 0 0 0 0  -- 10: its encoding: default
          ∷ [];
      diagnostics = [];
      says = [];
    }

-- Or over the length of a String and a range from Bool to Float, in the book right before left; the highest ordinal; a
-- second field without a constraint.
abbrev pub or_of_operands : Known
or_of_operands =
    record {
      wildcards = false;
      book =
          rec 20 0 N1 0 0 0 100 1  -- 0: message N1
          ∷ rec 16 1 0 0 0 4609434218613702656 110 2  -- 1: operand Float
          ∷ rec 16 3 0 0 0 1 120 3  -- 2: operand Bool 1
          ∷ rec 15 0 2 1 0 0 130 4  -- 3: range: record 2 to record 1
          ∷ rec 16 2 77 0 0 0 140 5  -- 4: operand String 77
          ∷ rec 14 5 4 0 1 0 150 6  -- 5: Ge: record 4, of the length
          ∷ rec 13 1 5 3 0 0 160 7  -- 6: Or: record 5, record 3
          ∷ rec 3 0 0 0 0 0 170 8  -- 7: String
          ∷ rec 31 0 N2 7 6 4294967295 180 9  -- 8: field N2: type 7, constraint 6, ordinal 4294967295
          ∷ rec 1 1 0 0 0 0 190 1  -- 9: u8
          ∷ rec 31 0 N3 9 none 0 200 2  -- 10: field N3: type 9, no constraint, ordinal 0
          ∷ [];
      reply = accepted 13 0 0;
      results =
          rec 42 0 N1 0 0 0 100 1  -- 0: message N1
          ∷ rec 3 0 0 0 0 0 0 0  -- 1: String
          ∷ rec 16 2 77 0 0 0 0 0  -- 2: operand String 77
          ∷ rec 14 5 2 0 1 0 0 0  -- 3: Ge: record 2, of the length
          ∷ rec 16 3 0 0 0 1 0 0  -- 4: operand Bool 1
          ∷ rec 16 1 0 0 0 4609434218613702656 0 0  -- 5: operand Float
          ∷ rec 15 0 4 5 0 0 0 0  -- 6: range: record 4 to record 5
          ∷ rec 13 1 3 6 0 0 0 0  -- 7: Or: record 3, record 6
          ∷ rec 45 0 N2 1 7 4294967295 180 9  -- 8: field N2: type 1, constraint 7, ordinal 4294967295
          ∷ rec 46 0 0 0 0 0 0 0  -- 9: its encoding: default
          ∷ rec 1 1 0 0 0 0 0 0  -- 10: u8
          ∷ rec 45 0 N3 10 none 0 200 2  -- 11: field N3: type 10, no constraint, ordinal 0
          ∷ rec 46 0 0 0 0 0 0 0  -- 12: its encoding: default
          ∷ [];
      diagnostics = [];
      says = [];
    }

-- Since before reason and reason before since, a reason without a string before one with a string, other keys; with a
-- type and without. "Reason and since are the first string under each key"; "47 tombstone (a reason, b since, rest as
-- 32)".
abbrev pub tombstones : Known
tombstones =
    record {
      wildcards = false;
      book =
          rec 20 0 N1 0 0 0 100 1  -- 0: message N1
          ∷ rec 32 0 0 0 none 1 110 2  -- 1: tombstone: no type, ordinal 1
          ∷ rec 36 1 5 0 0 0 120 3  -- 2: since: string 5
          ∷ rec 36 0 none 0 0 0 130 4  -- 3: reason: no string
          ∷ rec 36 0 6 0 0 0 140 5  -- 4: reason: string 6
          ∷ rec 36 0 7 0 0 0 150 6  -- 5: reason: string 7
          ∷ rec 36 1 8 0 0 0 160 7  -- 6: since: string 8
          ∷ rec 1 3 0 0 0 0 170 8  -- 7: u32
          ∷ rec 32 0 0 0 7 2 180 9  -- 8: tombstone: type 7, ordinal 2
          ∷ rec 36 2 9 0 0 0 190 1  -- 9: other: string 9
          ∷ rec 36 0 10 0 0 0 200 2  -- 10: reason: string 10
          ∷ rec 36 1 none 0 0 0 210 3  -- 11: since: no string
          ∷ rec 32 0 0 0 none 3 220 4  -- 12: tombstone: no type, ordinal 3
          ∷ [];
      reply = accepted 5 0 0;
      results =
          rec 42 0 N1 0 0 0 100 1  -- 0: message N1
          ∷ rec 47 0 6 5 none 1 110 2  -- 1: tombstone: reason 6, since 5, no type
          ∷ rec 1 3 0 0 0 0 0 0  -- 2: u32
          ∷ rec 47 0 10 none 2 2 180 9  -- 3: tombstone: reason 10, since none, type 2
          ∷ rec 47 0 none none none 3 220 4  -- 4: tombstone: reason none, since none, no type
          ∷ [];
      diagnostics = [];
      says = [];
    }

-- Variants with fields, and both sorts of tombstones: "32 tombstone (sub 1 belongs to the union itself, else 0)". One
-- of the union stands before any variant, and a variant opens the union again. Names and ordinals of items may come
-- again; a type may be the union itself.
abbrev pub unions : Known
unions =
    record {
      wildcards = false;
      book =
          rec 21 0 N1 0 0 0 100 1  -- 0: union N1
          ∷ rec 32 1 0 0 none 1 110 2  -- 1: tombstone of the union: no type, ordinal 1
          ∷ rec 36 1 4 0 0 0 120 3  -- 2: since: string 4
          ∷ rec 33 0 N2 0 0 2 130 4  -- 3: variant N2, ordinal 2
          ∷ rec 1 9 0 0 0 0 140 5  -- 4: f32
          ∷ rec 31 0 N3 4 none 1 150 6  -- 5: field N3: type 4, no constraint, ordinal 1
          ∷ rec 34 2 0 0 0 0 160 7  -- 6: its delta
          ∷ rec 32 0 0 0 none 2 170 8  -- 7: tombstone: no type, ordinal 2
          ∷ rec 36 0 5 0 0 0 180 9  -- 8: reason: string 5
          ∷ rec 4 0 N1 0 0 0 190 1  -- 9: N1
          ∷ rec 32 1 0 0 9 3 200 2  -- 10: tombstone of the union: type 9, ordinal 3
          ∷ rec 33 0 N2 0 0 2 210 3  -- 11: variant N2, ordinal 2
          ∷ rec 2 1 7 0 0 0 220 4  -- 12: sub-byte, signed, 7 bits
          ∷ rec 31 0 N3 12 none 1 230 5  -- 13: field N3: type 12, no constraint, ordinal 1
          ∷ [];
      reply = accepted 13 0 0;
      results =
          rec 43 0 N1 0 0 0 100 1  -- 0: union N1
          ∷ rec 47 1 none 4 none 1 110 2  -- 1: tombstone of the union: reason none, since 4, no type
          ∷ rec 44 0 N2 0 0 2 130 4  -- 2: variant N2, ordinal 2
          ∷ rec 1 9 0 0 0 0 0 0  -- 3: f32
          ∷ rec 45 0 N3 3 none 1 150 6  -- 4: field N3: type 3, no constraint, ordinal 1
          ∷ rec 46 0 1 0 0 0 0 0  -- 5: its encoding: delta over default
          ∷ rec 47 0 5 none none 2 170 8  -- 6: tombstone: reason 5, since none, no type
          ∷ rec 4 0 0 0 0 0 0 0  -- 7: type number 0
          ∷ rec 47 1 none none 7 3 200 2  -- 8: tombstone of the union: reason none, since none, type 7
          ∷ rec 44 0 N2 0 0 2 210 3  -- 9: variant N2, ordinal 2
          ∷ rec 2 1 7 0 0 0 0 0  -- 10: sub-byte, signed, 7 bits
          ∷ rec 45 0 N3 10 none 1 230 5  -- 11: field N3: type 10, no constraint, ordinal 1
          ∷ rec 46 0 0 0 0 0 0 0  -- 12: its encoding: default
          ∷ [];
      diagnostics = [];
      says = [];
    }

-- The highest name, 4,095, as message, type, field and key, and the highest string, 65,534; string 0.
abbrev pub highest : Known
highest =
    record {
      wildcards = false;
      book =
          rec 20 0 Last 0 0 0 100 1  -- 0: message Last
          ∷ rec 16 2 65534 0 0 0 110 2  -- 1: operand String 65534
          ∷ rec 14 0 1 0 0 0 120 3  -- 2: Eq: record 1
          ∷ rec 4 0 Last 0 0 0 130 4  -- 3: Last
          ∷ rec 31 0 Last 3 2 0 140 5  -- 4: field Last: type 3, constraint 2, ordinal 0
          ∷ rec 34 3 0 0 0 0 150 6  -- 5: limit
          ∷ rec 35 0 Last 0 0 7 160 7  -- 6: Int 7, key Last
          ∷ rec 32 0 0 0 none 1 170 8  -- 7: tombstone: no type, ordinal 1
          ∷ rec 36 0 65534 0 0 0 180 9  -- 8: reason: string 65534
          ∷ rec 36 1 0 0 0 0 190 1  -- 9: since: string 0
          ∷ [];
      reply = accepted 7 0 0;
      results =
          rec 42 0 Last 0 0 0 100 1  -- 0: message Last
          ∷ rec 4 0 0 0 0 0 0 0  -- 1: type number 0
          ∷ rec 16 2 65534 0 0 0 0 0  -- 2: operand String 65534
          ∷ rec 14 0 2 0 0 0 0 0  -- 3: Eq: record 2
          ∷ rec 45 0 Last 1 3 0 140 5  -- 4: field Last: type 1, constraint 3, ordinal 0
          ∷ rec 46 0 0 0 0 0 0 0  -- 5: its encoding: default
          ∷ rec 47 0 65534 0 none 1 170 8  -- 6: tombstone: reason 65534, since 0, no type
          ∷ [];
      diagnostics = [];
      says = [];
    }

-- "varint wins over zigzag; delta wraps the base": zigzag and varint, delta and zigzag, zigzag, and another annotation
-- with an argument. The message's own varint is nothing to its fields.
abbrev pub encodings : Known
encodings =
    record {
      wildcards = false;
      book =
          rec 20 0 N1 0 0 0 100 1  -- 0: message N1
          ∷ rec 34 0 0 0 0 0 110 2  -- 1: its varint
          ∷ rec 1 2 0 0 0 0 120 3  -- 2: u16
          ∷ rec 31 0 N2 2 none 1 130 4  -- 3: field N2: type 2, no constraint, ordinal 1
          ∷ rec 34 1 0 0 0 0 140 5  -- 4: its zigzag
          ∷ rec 34 0 0 0 0 0 150 6  -- 5: its varint
          ∷ rec 1 6 0 0 0 0 160 7  -- 6: i16
          ∷ rec 31 0 N3 6 none 2 170 8  -- 7: field N3: type 6, no constraint, ordinal 2
          ∷ rec 34 2 0 0 0 0 180 9  -- 8: its delta
          ∷ rec 34 1 0 0 0 0 190 1  -- 9: its zigzag
          ∷ rec 1 3 0 0 0 0 200 2  -- 10: u32
          ∷ rec 31 0 N4 10 none 3 210 3  -- 11: field N4: type 10, no constraint, ordinal 3
          ∷ rec 34 4 0 0 0 0 220 4  -- 12: other
          ∷ rec 35 0 none 0 0 5 230 5  -- 13: Int 5, without key
          ∷ rec 34 1 0 0 0 0 240 6  -- 14: its zigzag
          ∷ [];
      reply = accepted 10 0 0;
      results =
          rec 42 0 N1 0 0 0 100 1  -- 0: message N1
          ∷ rec 1 2 0 0 0 0 0 0  -- 1: u16
          ∷ rec 45 0 N2 1 none 1 130 4  -- 2: field N2: type 1, no constraint, ordinal 1
          ∷ rec 46 1 0 0 0 0 0 0  -- 3: its encoding: varint
          ∷ rec 1 6 0 0 0 0 0 0  -- 4: i16
          ∷ rec 45 0 N3 4 none 2 170 8  -- 5: field N3: type 4, no constraint, ordinal 2
          ∷ rec 46 2 1 0 0 0 0 0  -- 6: its encoding: delta over zigzag
          ∷ rec 1 3 0 0 0 0 0 0  -- 7: u32
          ∷ rec 45 0 N4 7 none 3 210 3  -- 8: field N4: type 7, no constraint, ordinal 3
          ∷ rec 46 2 0 0 0 0 0 0  -- 9: its encoding: zigzag
          ∷ [];
      diagnostics = [];
      says = no_delta N2 varint ∷ delta_over N3 zigzag ∷ no_delta N4 zigzag ∷ [];
    }

-- u32 to i64 in a delta message, whatever they had: "varint for 1-4, zigzag for 5-8".
abbrev pub delta_integers : Known
delta_integers =
    record {
      wildcards = false;
      book =
          rec 20 0 N1 0 0 0 100 1  -- 0: message N1
          ∷ rec 34 2 0 0 0 0 110 2  -- 1: its delta
          ∷ rec 1 3 0 0 0 0 120 3  -- 2: u32
          ∷ rec 31 0 N2 2 none 1 130 4  -- 3: field N2: type 2, no constraint, ordinal 1
          ∷ rec 1 4 0 0 0 0 140 5  -- 4: u64
          ∷ rec 31 0 N3 4 none 2 150 6  -- 5: field N3: type 4, no constraint, ordinal 2
          ∷ rec 1 5 0 0 0 0 160 7  -- 6: i8
          ∷ rec 31 0 N4 6 none 3 170 8  -- 7: field N4: type 6, no constraint, ordinal 3
          ∷ rec 1 6 0 0 0 0 180 9  -- 8: i16
          ∷ rec 31 0 N5 8 none 4 190 1  -- 9: field N5: type 8, no constraint, ordinal 4
          ∷ rec 34 0 0 0 0 0 200 2  -- 10: its varint
          ∷ rec 1 7 0 0 0 0 210 3  -- 11: i32
          ∷ rec 31 0 N6 11 none 5 220 4  -- 12: field N6: type 11, no constraint, ordinal 5
          ∷ rec 1 8 0 0 0 0 230 5  -- 13: i64
          ∷ rec 31 0 N7 13 none 6 240 6  -- 14: field N7: type 13, no constraint, ordinal 6
          ∷ [];
      reply = accepted 19 0 0;
      results =
          rec 42 0 N1 0 0 0 100 1  -- 0: message N1
          ∷ rec 1 3 0 0 0 0 0 0  -- 1: u32
          ∷ rec 45 0 N2 1 none 1 130 4  -- 2: field N2: type 1, no constraint, ordinal 1
          ∷ rec 46 1 1 0 0 0 0 0  -- 3: its encoding: delta over varint
          ∷ rec 1 4 0 0 0 0 0 0  -- 4: u64
          ∷ rec 45 0 N3 4 none 2 150 6  -- 5: field N3: type 4, no constraint, ordinal 2
          ∷ rec 46 1 1 0 0 0 0 0  -- 6: its encoding: delta over varint
          ∷ rec 1 5 0 0 0 0 0 0  -- 7: i8
          ∷ rec 45 0 N4 7 none 3 170 8  -- 8: field N4: type 7, no constraint, ordinal 3
          ∷ rec 46 2 1 0 0 0 0 0  -- 9: its encoding: delta over zigzag
          ∷ rec 1 6 0 0 0 0 0 0  -- 10: i16
          ∷ rec 45 0 N5 10 none 4 190 1  -- 11: field N5: type 10, no constraint, ordinal 4
          ∷ rec 46 2 1 0 0 0 0 0  -- 12: its encoding: delta over zigzag
          ∷ rec 1 7 0 0 0 0 0 0  -- 13: i32
          ∷ rec 45 0 N6 13 none 5 220 4  -- 14: field N6: type 13, no constraint, ordinal 5
          ∷ rec 46 2 1 0 0 0 0 0  -- 15: its encoding: delta over zigzag
          ∷ rec 1 8 0 0 0 0 0 0  -- 16: i64
          ∷ rec 45 0 N7 16 none 6 240 6  -- 17: field N7: type 16, no constraint, ordinal 6
          ∷ rec 46 2 1 0 0 0 0 0  -- 18: its encoding: delta over zigzag
          ∷ [];
      diagnostics = [];
      says =
          delta_over N2 varint
          ∷ delta_over N3 varint
          ∷ delta_over N4 zigzag
          ∷ delta_over N5 zigzag
          ∷ delta_over N6 zigzag
          ∷ delta_over N7 zigzag
          ∷ [];
    }

-- f32 to fixed64 and a sub-byte in a delta message: "resolved to primitive 1-12 or sub-byte become delta over: [..]
-- else what they had".
abbrev pub delta_what_they_had : Known
delta_what_they_had =
    record {
      wildcards = false;
      book =
          rec 20 0 N1 0 0 0 100 1  -- 0: message N1
          ∷ rec 34 2 0 0 0 0 110 2  -- 1: its delta
          ∷ rec 1 9 0 0 0 0 120 3  -- 2: f32
          ∷ rec 31 0 N2 2 none 1 130 4  -- 3: field N2: type 2, no constraint, ordinal 1
          ∷ rec 34 0 0 0 0 0 140 5  -- 4: its varint
          ∷ rec 1 10 0 0 0 0 150 6  -- 5: f64
          ∷ rec 31 0 N3 5 none 2 160 7  -- 6: field N3: type 5, no constraint, ordinal 2
          ∷ rec 1 11 0 0 0 0 170 8  -- 7: fixed32
          ∷ rec 31 0 N4 7 none 3 180 9  -- 8: field N4: type 7, no constraint, ordinal 3
          ∷ rec 34 1 0 0 0 0 190 1  -- 9: its zigzag
          ∷ rec 1 12 0 0 0 0 200 2  -- 10: fixed64
          ∷ rec 31 0 N5 10 none 4 210 3  -- 11: field N5: type 10, no constraint, ordinal 4
          ∷ rec 2 0 3 0 0 0 220 4  -- 12: sub-byte, unsigned, 3 bits
          ∷ rec 31 0 N6 12 none 5 230 5  -- 13: field N6: type 12, no constraint, ordinal 5
          ∷ rec 34 1 0 0 0 0 240 6  -- 14: its zigzag
          ∷ [];
      reply = accepted 16 0 0;
      results =
          rec 42 0 N1 0 0 0 100 1  -- 0: message N1
          ∷ rec 1 9 0 0 0 0 0 0  -- 1: f32
          ∷ rec 45 0 N2 1 none 1 130 4  -- 2: field N2: type 1, no constraint, ordinal 1
          ∷ rec 46 1 1 0 0 0 0 0  -- 3: its encoding: delta over varint
          ∷ rec 1 10 0 0 0 0 0 0  -- 4: f64
          ∷ rec 45 0 N3 4 none 2 160 7  -- 5: field N3: type 4, no constraint, ordinal 2
          ∷ rec 46 0 1 0 0 0 0 0  -- 6: its encoding: delta over default
          ∷ rec 1 11 0 0 0 0 0 0  -- 7: fixed32
          ∷ rec 45 0 N4 7 none 3 180 9  -- 8: field N4: type 7, no constraint, ordinal 3
          ∷ rec 46 2 1 0 0 0 0 0  -- 9: its encoding: delta over zigzag
          ∷ rec 1 12 0 0 0 0 0 0  -- 10: fixed64
          ∷ rec 45 0 N5 10 none 4 210 3  -- 11: field N5: type 10, no constraint, ordinal 4
          ∷ rec 46 0 1 0 0 0 0 0  -- 12: its encoding: delta over default
          ∷ rec 2 0 3 0 0 0 0 0  -- 13: sub-byte, unsigned, 3 bits
          ∷ rec 45 0 N6 13 none 5 230 5  -- 14: field N6: type 13, no constraint, ordinal 5
          ∷ rec 46 2 1 0 0 0 0 0  -- 15: its encoding: delta over zigzag
          ∷ [];
      diagnostics = [];
      says = delta_over N2 varint ∷ delta_over N3 default ∷ delta_over N4 zigzag ∷ delta_over N5 default ∷ delta_over N6 zigzag ∷ [];
    }

-- Void, a declared type and an optional u8 in a delta message stay as they are, and so does u64 with delta and zigzag
-- of its own: "fields not yet delta".
abbrev pub delta_not_eligible : Known
delta_not_eligible =
    record {
      wildcards = false;
      book =
          rec 20 0 N1 0 0 0 100 1  -- 0: message N1
          ∷ rec 34 4 0 0 0 0 110 2  -- 1: other
          ∷ rec 34 2 0 0 0 0 120 3  -- 2: its delta
          ∷ rec 1 13 0 0 0 0 130 4  -- 3: Void
          ∷ rec 31 0 N2 3 none 1 140 5  -- 4: field N2: type 3, no constraint, ordinal 1
          ∷ rec 34 0 0 0 0 0 150 6  -- 5: its varint
          ∷ rec 4 0 N1 0 0 0 160 7  -- 6: N1
          ∷ rec 31 0 N3 6 none 2 170 8  -- 7: field N3: type 6, no constraint, ordinal 2
          ∷ rec 1 4 0 0 0 0 180 9  -- 8: u64
          ∷ rec 31 0 N4 8 none 3 190 1  -- 9: field N4: type 8, no constraint, ordinal 3
          ∷ rec 34 2 0 0 0 0 200 2  -- 10: its delta
          ∷ rec 34 1 0 0 0 0 210 3  -- 11: its zigzag
          ∷ rec 1 1 0 0 0 0 220 4  -- 12: u8
          ∷ rec 7 0 12 0 0 0 230 5  -- 13: optional of record 12
          ∷ rec 31 0 N5 13 none 4 240 6  -- 14: field N5: type 13, no constraint, ordinal 4
          ∷ [];
      reply = accepted 14 0 0;
      results =
          rec 42 0 N1 0 0 0 100 1  -- 0: message N1
          ∷ rec 1 13 0 0 0 0 0 0  -- 1: Void
          ∷ rec 45 0 N2 1 none 1 140 5  -- 2: field N2: type 1, no constraint, ordinal 1
          ∷ rec 46 1 0 0 0 0 0 0  -- 3: its encoding: varint
          ∷ rec 4 0 0 0 0 0 0 0  -- 4: type number 0
          ∷ rec 45 0 N3 4 none 2 170 8  -- 5: field N3: type 4, no constraint, ordinal 2
          ∷ rec 46 0 0 0 0 0 0 0  -- 6: its encoding: default
          ∷ rec 1 4 0 0 0 0 0 0  -- 7: u64
          ∷ rec 45 0 N4 7 none 3 190 1  -- 8: field N4: type 7, no constraint, ordinal 3
          ∷ rec 46 2 1 0 0 0 0 0  -- 9: its encoding: delta over zigzag
          ∷ rec 1 1 0 0 0 0 0 0  -- 10: u8
          ∷ rec 7 0 10 0 0 0 0 0  -- 11: optional of record 10
          ∷ rec 45 0 N5 11 none 4 240 6  -- 12: field N5: type 11, no constraint, ordinal 4
          ∷ rec 46 0 0 0 0 0 0 0  -- 13: its encoding: default
          ∷ [];
      diagnostics = [];
      says = no_delta N2 varint ∷ no_delta N3 default ∷ delta_over N4 zigzag ∷ no_delta N5 default ∷ [];
    }

-- "resolved to": an alias of i8 in a delta message is eligible; String, inline bits and a result are not.
abbrev pub delta_through_alias : Known
delta_through_alias =
    record {
      wildcards = false;
      book =
          rec 1 5 0 0 0 0 100 1  -- 0: i8
          ∷ rec 23 0 N2 0 0 0 110 2  -- 1: alias N2: record 0
          ∷ rec 20 0 N1 0 0 0 120 3  -- 2: message N1
          ∷ rec 34 2 0 0 0 0 130 4  -- 3: its delta
          ∷ rec 4 0 N2 0 0 0 140 5  -- 4: N2
          ∷ rec 31 0 N3 4 none 1 150 6  -- 5: field N3: type 4, no constraint, ordinal 1
          ∷ rec 3 0 0 0 0 0 160 7  -- 6: String
          ∷ rec 31 0 N4 6 none 2 170 8  -- 7: field N4: type 6, no constraint, ordinal 2
          ∷ rec 9 0 3 0 0 0 180 9  -- 8: inline bits, list 3
          ∷ rec 31 0 N5 8 none 3 190 1  -- 9: field N5: type 8, no constraint, ordinal 3
          ∷ rec 1 1 0 0 0 0 200 2  -- 10: u8
          ∷ rec 1 2 0 0 0 0 210 3  -- 11: u16
          ∷ rec 8 1 10 11 0 0 220 4  -- 12: result of record 10, record 11
          ∷ rec 31 0 N6 12 none 4 230 5  -- 13: field N6: type 12, no constraint, ordinal 4
          ∷ [];
      reply = accepted 17 0 0;
      results =
          rec 1 5 0 0 0 0 0 0  -- 0: i8
          ∷ rec 40 0 N2 0 0 0 110 2  -- 1: alias N2: type 0
          ∷ rec 42 0 N1 0 0 0 120 3  -- 2: message N1
          ∷ rec 1 5 0 0 0 0 0 0  -- 3: i8
          ∷ rec 45 0 N3 3 none 1 150 6  -- 4: field N3: type 3, no constraint, ordinal 1
          ∷ rec 46 2 1 0 0 0 0 0  -- 5: its encoding: delta over zigzag
          ∷ rec 3 0 0 0 0 0 0 0  -- 6: String
          ∷ rec 45 0 N4 6 none 2 170 8  -- 7: field N4: type 6, no constraint, ordinal 2
          ∷ rec 46 0 0 0 0 0 0 0  -- 8: its encoding: default
          ∷ rec 9 0 3 0 0 0 0 0  -- 9: inline bits, list 3
          ∷ rec 45 0 N5 9 none 3 190 1  -- 10: field N5: type 9, no constraint, ordinal 3
          ∷ rec 46 0 0 0 0 0 0 0  -- 11: its encoding: default
          ∷ rec 1 1 0 0 0 0 0 0  -- 12: u8
          ∷ rec 1 2 0 0 0 0 0 0  -- 13: u16
          ∷ rec 8 1 12 13 0 0 0 0  -- 14: result of record 12, record 13
          ∷ rec 45 0 N6 14 none 4 230 5  -- 15: field N6: type 14, no constraint, ordinal 4
          ∷ rec 46 0 0 0 0 0 0 0  -- 16: its encoding: default
          ∷ [];
      diagnostics = [];
      says = delta_over N3 zigzag ∷ no_delta N4 default ∷ no_delta N5 default ∷ no_delta N6 default ∷ [];
    }

-- "Limit is the first keyless Int or Hex in the first limit annotation having one": the Hex behind an Int with a key,
-- and nothing of the second limit. The message's delta leaves it as it is.
abbrev pub limits : Known
limits =
    record {
      wildcards = false;
      book =
          rec 20 0 N1 0 0 0 100 1  -- 0: message N1
          ∷ rec 34 2 0 0 0 0 110 2  -- 1: its delta
          ∷ rec 1 2 0 0 0 0 120 3  -- 2: u16
          ∷ rec 31 0 N2 2 none 1 130 4  -- 3: field N2: type 2, no constraint, ordinal 1
          ∷ rec 34 3 0 0 0 0 140 5  -- 4: limit
          ∷ rec 35 0 N5 0 0 11 150 6  -- 5: Int 11, key N5
          ∷ rec 35 1 none 0 0 12 160 7  -- 6: Hex 12, without key
          ∷ rec 35 0 none 0 0 13 170 8  -- 7: Int 13, without key
          ∷ rec 34 3 0 0 0 0 180 9  -- 8: limit
          ∷ rec 35 0 none 0 0 14 190 1  -- 9: Int 14, without key
          ∷ [];
      reply = accepted 4 0 0;
      results =
          rec 42 0 N1 0 0 0 100 1  -- 0: message N1
          ∷ rec 1 2 0 0 0 0 0 0  -- 1: u16
          ∷ rec 45 0 N2 1 none 1 130 4  -- 2: field N2: type 1, no constraint, ordinal 1
          ∷ rec 46 1 1 1 0 12 0 0  -- 3: its encoding: delta over varint, limit 12
          ∷ [];
      diagnostics = [];
      says = limited N2 12 ∷ delta_over N2 varint ∷ [];
    }

-- No limit is a number under another annotation, nor what is no number, nor the message's own; a limit of 0 is one.
abbrev pub no_limits : Known
no_limits =
    record {
      wildcards = false;
      book =
          rec 20 0 N1 0 0 0 100 1  -- 0: message N1
          ∷ rec 34 3 0 0 0 0 110 2  -- 1: limit
          ∷ rec 35 0 none 0 0 9 120 3  -- 2: Int 9, without key
          ∷ rec 3 1 0 0 0 0 130 4  -- 3: Bytes
          ∷ rec 31 0 N2 3 none 1 140 5  -- 4: field N2: type 3, no constraint, ordinal 1
          ∷ rec 34 3 0 0 0 0 150 6  -- 5: limit
          ∷ rec 35 2 none 0 0 0 160 7  -- 6: other, without key
          ∷ rec 34 4 0 0 0 0 170 8  -- 7: other
          ∷ rec 35 0 none 0 0 15 180 9  -- 8: Int 15, without key
          ∷ rec 1 1 0 0 0 0 190 1  -- 9: u8
          ∷ rec 31 0 N3 9 none 2 200 2  -- 10: field N3: type 9, no constraint, ordinal 2
          ∷ rec 34 0 0 0 0 0 210 3  -- 11: its varint
          ∷ rec 34 3 0 0 0 0 220 4  -- 12: limit
          ∷ rec 35 1 none 0 0 0 230 5  -- 13: Hex 0, without key
          ∷ [];
      reply = accepted 7 0 0;
      results =
          rec 42 0 N1 0 0 0 100 1  -- 0: message N1
          ∷ rec 3 1 0 0 0 0 0 0  -- 1: Bytes
          ∷ rec 45 0 N2 1 none 1 140 5  -- 2: field N2: type 1, no constraint, ordinal 1
          ∷ rec 46 0 0 0 0 0 0 0  -- 3: its encoding: default
          ∷ rec 1 1 0 0 0 0 0 0  -- 4: u8
          ∷ rec 45 0 N3 4 none 2 200 2  -- 5: field N3: type 4, no constraint, ordinal 2
          ∷ rec 46 1 0 1 0 0 0 0  -- 6: its encoding: varint, limit 0
          ∷ [];
      diagnostics = [];
      says = no_delta N2 default ∷ limited N3 0 ∷ [];
    }

-- Types that no other book has. Each is written where its newtype is, not where it stands in the book; "FixedArray with
-- size v"; list number 65,535 is one like any other. A type that nothing uses says nothing.
abbrev pub shapes : Known
shapes =
    record {
      wildcards = false;
      book =
          rec 4 0 Foo 0 0 0 100 1  -- 0: Foo
          ∷ rec 3 5 0 0 0 0 110 2  -- 1: Hash
          ∷ rec 9 0 65535 0 0 0 120 3  -- 2: inline bits, list 65535
          ∷ rec 7 3 2 0 0 0 130 4  -- 3: set of record 2
          ∷ rec 8 1 3 1 0 0 140 5  -- 4: result of record 3, record 1
          ∷ rec 1 9 0 0 0 0 150 6  -- 5: f32
          ∷ rec 7 4 5 0 0 0 160 7  -- 6: Vec2 of record 5
          ∷ rec 7 2 6 0 0 18446744073709551615 170 8  -- 7: fixed array of record 6, its size
          ∷ rec 22 0 N1 7 0 0 180 9  -- 8: newtype N1: record 7
          ∷ rec 22 0 N2 4 0 0 190 1  -- 9: newtype N2: record 4
          ∷ [];
      reply = accepted 9 0 0;
      results =
          rec 1 9 0 0 0 0 0 0  -- 0: f32
          ∷ rec 7 4 0 0 0 0 0 0  -- 1: Vec2 of record 0
          ∷ rec 7 2 1 0 0 18446744073709551615 0 0  -- 2: fixed array of record 1, its size
          ∷ rec 48 0 N1 2 0 0 180 9  -- 3: newtype N1: type 2
          ∷ rec 9 0 65535 0 0 0 0 0  -- 4: inline bits, list 65535
          ∷ rec 7 3 4 0 0 0 0 0  -- 5: set of record 4
          ∷ rec 3 5 0 0 0 0 0 0  -- 6: Hash
          ∷ rec 8 1 5 6 0 0 0 0  -- 7: result of record 5, record 6
          ∷ rec 48 0 N2 7 0 0 190 1  -- 8: newtype N2: type 7
          ∷ [];
      diagnostics = [];
      says = [];
    }

-- Vec3 to Mat4, and sub-bytes with the fewest and the most bits.
abbrev pub more_shapes : Known
more_shapes =
    record {
      wildcards = false;
      book =
          rec 2 1 255 0 0 0 100 1  -- 0: sub-byte, signed, 255 bits
          ∷ rec 7 9 0 0 0 0 110 2  -- 1: Mat4 of record 0
          ∷ rec 7 7 1 0 0 0 120 3  -- 2: Quat of record 1
          ∷ rec 2 0 0 0 0 0 130 4  -- 3: sub-byte, unsigned, 0 bits
          ∷ rec 7 5 3 0 0 0 140 5  -- 4: Vec3 of record 3
          ∷ rec 7 6 4 0 0 0 150 6  -- 5: Vec4 of record 4
          ∷ rec 7 8 5 0 0 0 160 7  -- 6: Mat3 of record 5
          ∷ rec 22 0 N4 6 0 0 170 8  -- 7: newtype N4: record 6
          ∷ rec 22 0 N3 2 0 0 180 9  -- 8: newtype N3: record 2
          ∷ [];
      reply = accepted 9 0 0;
      results =
          rec 2 0 0 0 0 0 0 0  -- 0: sub-byte, unsigned, 0 bits
          ∷ rec 7 5 0 0 0 0 0 0  -- 1: Vec3 of record 0
          ∷ rec 7 6 1 0 0 0 0 0  -- 2: Vec4 of record 1
          ∷ rec 7 8 2 0 0 0 0 0  -- 3: Mat3 of record 2
          ∷ rec 48 0 N4 3 0 0 170 8  -- 4: newtype N4: type 3
          ∷ rec 2 1 255 0 0 0 0 0  -- 5: sub-byte, signed, 255 bits
          ∷ rec 7 9 5 0 0 0 0 0  -- 6: Mat4 of record 5
          ∷ rec 7 7 6 0 0 0 0 0  -- 7: Quat of record 6
          ∷ rec 48 0 N3 7 0 0 180 9  -- 8: newtype N3: type 7
          ∷ [];
      diagnostics = [];
      says = [];
    }

-- "plain alias (its result copied)": a map that is copied twice, each time with references of its own, once by an alias
-- of the alias. N1 names N2 before N2 is lowered, so it is poison, which is copied without a diagnostic.
abbrev pub plain_aliases : Known
plain_aliases =
    record {
      wildcards = false;
      book =
          rec 4 0 N2 0 0 0 100 1  -- 0: N2
          ∷ rec 23 0 N1 0 0 0 110 2  -- 1: alias N1: record 0
          ∷ rec 1 1 0 0 0 0 120 3  -- 2: u8
          ∷ rec 7 0 2 0 0 0 130 4  -- 3: optional of record 2
          ∷ rec 3 0 0 0 0 0 140 5  -- 4: String
          ∷ rec 8 0 4 3 0 0 150 6  -- 5: map of record 4, record 3
          ∷ rec 23 0 N2 5 0 0 160 7  -- 6: alias N2: record 5
          ∷ rec 4 0 N2 0 0 0 170 8  -- 7: N2
          ∷ rec 23 0 N3 7 0 0 180 9  -- 8: alias N3: record 7
          ∷ rec 4 0 N2 0 0 0 190 1  -- 9: N2
          ∷ rec 4 0 N3 0 0 0 200 2  -- 10: N3
          ∷ rec 8 1 10 9 0 0 210 3  -- 11: result of record 10, record 9
          ∷ rec 22 0 N4 11 0 0 220 4  -- 12: newtype N4: record 11
          ∷ rec 4 0 N1 0 0 0 230 5  -- 13: N1
          ∷ rec 22 0 N5 13 0 0 240 6  -- 14: newtype N5: record 13
          ∷ [];
      reply = accepted 24 1 0;
      results =
          rec 4 0 0 0 0 4294967295 0 0  -- 0: poison
          ∷ rec 40 0 N1 0 0 0 110 2  -- 1: alias N1: type 0
          ∷ rec 3 0 0 0 0 0 0 0  -- 2: String
          ∷ rec 1 1 0 0 0 0 0 0  -- 3: u8
          ∷ rec 7 0 3 0 0 0 0 0  -- 4: optional of record 3
          ∷ rec 8 0 2 4 0 0 0 0  -- 5: map of record 2, record 4
          ∷ rec 40 0 N2 5 0 0 160 7  -- 6: alias N2: type 5
          ∷ rec 3 0 0 0 0 0 0 0  -- 7: String
          ∷ rec 1 1 0 0 0 0 0 0  -- 8: u8
          ∷ rec 7 0 8 0 0 0 0 0  -- 9: optional of record 8
          ∷ rec 8 0 7 9 0 0 0 0  -- 10: map of record 7, record 9
          ∷ rec 40 0 N3 10 0 0 180 9  -- 11: alias N3: type 10
          ∷ rec 3 0 0 0 0 0 0 0  -- 12: String
          ∷ rec 1 1 0 0 0 0 0 0  -- 13: u8
          ∷ rec 7 0 13 0 0 0 0 0  -- 14: optional of record 13
          ∷ rec 8 0 12 14 0 0 0 0  -- 15: map of record 12, record 14
          ∷ rec 3 0 0 0 0 0 0 0  -- 16: String
          ∷ rec 1 1 0 0 0 0 0 0  -- 17: u8
          ∷ rec 7 0 17 0 0 0 0 0  -- 18: optional of record 17
          ∷ rec 8 0 16 18 0 0 0 0  -- 19: map of record 16, record 18
          ∷ rec 8 1 15 19 0 0 0 0  -- 20: result of record 15, record 19
          ∷ rec 48 0 N4 20 0 0 220 4  -- 21: newtype N4: type 20
          ∷ rec 4 0 0 0 0 4294967295 0 0  -- 22: poison
          ∷ rec 48 0 N5 22 0 0 240 6  -- 23: newtype N5: type 22
          ∷ [];
      diagnostics =
          rec 50 1 N2 0 0 0 100 1  -- 0: message 1, N2
          ∷ [];
      says = one_message 1 N2 100 1 ∷ newtype_over N5 poison ∷ [];
    }

-- "Lookup tries the name's own number, then a plain alias to one": N2 is a plain alias to the generic alias N1, and is
-- a head as N1 is; N4 is one to the newtype N3, whose number is of no generic alias. Numbers: the newtypes 0 and 1,
-- "then generic aliases".
abbrev pub alias_as_head : Known
alias_as_head =
    record {
      wildcards = false;
      book =
          rec 4 0 T 0 0 0 100 1  -- 0: T
          ∷ rec 7 1 0 0 0 0 110 2  -- 1: array of record 0
          ∷ rec 23 0 N1 1 0 0 120 3  -- 2: alias N1: record 1
          ∷ rec 30 0 T 0 0 0 130 4  -- 3: its parameter T
          ∷ rec 4 0 N1 0 0 0 140 5  -- 4: N1
          ∷ rec 23 0 N2 4 0 0 150 6  -- 5: alias N2: record 4
          ∷ rec 1 1 0 0 0 0 160 7  -- 6: u8
          ∷ rec 6 0 N2 6 0 0 170 8  -- 7: N2 of record 6
          ∷ rec 22 0 N3 7 0 0 180 9  -- 8: newtype N3: record 7
          ∷ rec 4 0 N3 0 0 0 190 1  -- 9: N3
          ∷ rec 23 0 N4 9 0 0 200 2  -- 10: alias N4: record 9
          ∷ rec 1 1 0 0 0 0 210 3  -- 11: u8
          ∷ rec 6 0 N4 11 0 0 220 4  -- 12: N4 of record 11
          ∷ rec 22 0 N5 12 0 0 230 5  -- 13: newtype N5: record 12
          ∷ [];
      reply = accepted 9 1 0;
      results =
          rec 4 0 0 0 0 2 0 0  -- 0: type number 2
          ∷ rec 40 0 N2 0 0 0 150 6  -- 1: alias N2: type 0
          ∷ rec 4 0 0 0 0 0 0 0  -- 2: type number 0
          ∷ rec 40 0 N4 2 0 0 200 2  -- 3: alias N4: type 2
          ∷ rec 1 1 0 0 0 0 0 0  -- 4: u8
          ∷ rec 7 1 4 0 0 0 0 0  -- 5: array of record 4
          ∷ rec 48 0 N3 5 0 0 180 9  -- 6: newtype N3: type 5
          ∷ rec 4 0 0 0 0 4294967295 0 0  -- 7: poison
          ∷ rec 48 0 N5 7 0 0 230 5  -- 8: newtype N5: type 7
          ∷ [];
      diagnostics =
          rec 50 3 N4 0 0 1 220 4  -- 0: message 3, N4
          ∷ [];
      says = newtype_over N3 (array_of u8) ∷ newtype_over N5 poison ∷ one_message 3 N4 220 4 ∷ [];
    }

-- "Qualified: known pair; stub if the namespace name has a number": N2 is a plain alias to the newtype N1, and has its
-- number. The second N2.N5 has the number of the first, N1.N5 one of its own. A pair gives its names no number: N5.N2
-- is message 2.
abbrev pub qualified : Known
qualified =
    record {
      wildcards = false;
      book =
          rec 1 1 0 0 0 0 100 1  -- 0: u8
          ∷ rec 22 0 N1 0 0 0 110 2  -- 1: newtype N1: record 0
          ∷ rec 4 0 N1 0 0 0 120 3  -- 2: N1
          ∷ rec 23 0 N2 2 0 0 130 4  -- 3: alias N2: record 2
          ∷ rec 5 0 N2 N5 0 0 140 5  -- 4: N2.N5
          ∷ rec 5 0 N2 N5 0 0 150 6  -- 5: N2.N5
          ∷ rec 8 0 4 5 0 0 160 7  -- 6: map of record 4, record 5
          ∷ rec 22 0 N3 6 0 0 170 8  -- 7: newtype N3: record 6
          ∷ rec 5 0 N1 N5 0 0 180 9  -- 8: N1.N5
          ∷ rec 22 0 N4 8 0 0 190 1  -- 9: newtype N4: record 8
          ∷ rec 5 0 N5 N2 0 0 200 2  -- 10: N5.N2
          ∷ rec 22 0 N6 10 0 0 210 3  -- 11: newtype N6: record 10
          ∷ [];
      reply = accepted 12 1 0;
      results =
          rec 4 0 0 0 0 0 0 0  -- 0: type number 0
          ∷ rec 40 0 N2 0 0 0 130 4  -- 1: alias N2: type 0
          ∷ rec 1 1 0 0 0 0 0 0  -- 2: u8
          ∷ rec 48 0 N1 2 0 0 110 2  -- 3: newtype N1: type 2
          ∷ rec 4 0 0 0 0 4 0 0  -- 4: type number 4
          ∷ rec 4 0 0 0 0 4 0 0  -- 5: type number 4
          ∷ rec 8 0 4 5 0 0 0 0  -- 6: map of record 4, record 5
          ∷ rec 48 0 N3 6 0 0 170 8  -- 7: newtype N3: type 6
          ∷ rec 4 0 0 0 0 5 0 0  -- 8: type number 5
          ∷ rec 48 0 N4 8 0 0 190 1  -- 9: newtype N4: type 8
          ∷ rec 4 0 0 0 0 4294967295 0 0  -- 10: poison
          ∷ rec 48 0 N6 10 0 0 210 3  -- 11: newtype N6: type 10
          ∷ [];
      diagnostics =
          rec 50 2 N5 N2 0 0 200 2  -- 0: message 2, N5.N2
          ∷ [];
      says = newtype_over N3 (map_of (number 4) (number 4)) ∷ newtype_over N4 (number 5) ∷ newtype_over N6 poison ∷ [];
    }

-- N1 is an alias of the unknown Foo, message 1. "poison counts": N1 has a number, so N1.N2 is a stub, while N1 of u8 is
-- message 3. Foo has none: Foo.N2 is message 2, and again at the next use.
abbrev pub poison_counts : Known
poison_counts =
    record {
      wildcards = false;
      book =
          rec 4 0 Foo 0 0 0 100 1  -- 0: Foo
          ∷ rec 23 0 N1 0 0 0 110 2  -- 1: alias N1: record 0
          ∷ rec 5 0 Foo N2 0 0 120 3  -- 2: Foo.N2
          ∷ rec 5 0 Foo N2 0 0 130 4  -- 3: Foo.N2
          ∷ rec 8 0 2 3 0 0 140 5  -- 4: map of record 2, record 3
          ∷ rec 22 0 N2 4 0 0 150 6  -- 5: newtype N2: record 4
          ∷ rec 5 0 N1 N2 0 0 160 7  -- 6: N1.N2
          ∷ rec 22 0 N3 6 0 0 170 8  -- 7: newtype N3: record 6
          ∷ rec 1 1 0 0 0 0 180 9  -- 8: u8
          ∷ rec 6 0 N1 8 0 0 190 1  -- 9: N1 of record 8
          ∷ rec 22 0 N4 9 0 0 200 2  -- 10: newtype N4: record 9
          ∷ [];
      reply = accepted 10 4 0;
      results =
          rec 4 0 0 0 0 4294967295 0 0  -- 0: poison
          ∷ rec 40 0 N1 0 0 0 110 2  -- 1: alias N1: type 0
          ∷ rec 4 0 0 0 0 4294967295 0 0  -- 2: poison
          ∷ rec 4 0 0 0 0 4294967295 0 0  -- 3: poison
          ∷ rec 8 0 2 3 0 0 0 0  -- 4: map of record 2, record 3
          ∷ rec 48 0 N2 4 0 0 150 6  -- 5: newtype N2: type 4
          ∷ rec 4 0 0 0 0 3 0 0  -- 6: type number 3
          ∷ rec 48 0 N3 6 0 0 170 8  -- 7: newtype N3: type 6
          ∷ rec 4 0 0 0 0 4294967295 0 0  -- 8: poison
          ∷ rec 48 0 N4 8 0 0 200 2  -- 9: newtype N4: type 8
          ∷ [];
      diagnostics =
          rec 50 1 Foo 0 0 0 100 1  -- 0: message 1, Foo
          ∷ rec 50 2 Foo N2 0 0 120 3  -- 1: message 2, Foo.N2
          ∷ rec 50 2 Foo N2 0 0 130 4  -- 2: message 2, Foo.N2
          ∷ rec 50 3 N1 0 0 1 190 1  -- 3: message 3, N1
          ∷ [];
      says = newtype_over N2 (map_of poison poison) ∷ newtype_over N3 (number 3) ∷ newtype_over N4 poison ∷ [];
    }

-- N2<T> = N1 of T, N1<U> = Foo of U; N2 of u8, and Foo of u8. "no number gives message 4 (inside a substitution 1)". "A
-- generic's target takes the span of the use": that of N2 of u8 is handed on through the target of N2, which is a use
-- of N1, to the target of N1.
abbrev pub handed_on : Known
handed_on =
    record {
      wildcards = false;
      book =
          rec 4 0 U 0 0 0 100 1  -- 0: U
          ∷ rec 6 0 Foo 0 0 0 110 2  -- 1: Foo of record 0
          ∷ rec 23 0 N1 1 0 0 120 3  -- 2: alias N1: record 1
          ∷ rec 30 0 U 0 0 0 130 4  -- 3: its parameter U
          ∷ rec 4 0 T 0 0 0 140 5  -- 4: T
          ∷ rec 6 0 N1 4 0 0 150 6  -- 5: N1 of record 4
          ∷ rec 23 0 N2 5 0 0 160 7  -- 6: alias N2: record 5
          ∷ rec 30 0 T 0 0 0 170 8  -- 7: its parameter T
          ∷ rec 1 1 0 0 0 0 180 9  -- 8: u8
          ∷ rec 6 0 N2 8 0 0 190 1  -- 9: N2 of record 8
          ∷ rec 22 0 N3 9 0 0 200 2  -- 10: newtype N3: record 9
          ∷ rec 1 1 0 0 0 0 210 3  -- 11: u8
          ∷ rec 6 0 Foo 11 0 0 220 4  -- 12: Foo of record 11
          ∷ rec 22 0 N4 12 0 0 230 5  -- 13: newtype N4: record 12
          ∷ [];
      reply = accepted 4 2 0;
      results =
          rec 4 0 0 0 0 4294967295 0 0  -- 0: poison
          ∷ rec 48 0 N3 0 0 0 200 2  -- 1: newtype N3: type 0
          ∷ rec 4 0 0 0 0 4294967295 0 0  -- 2: poison
          ∷ rec 48 0 N4 2 0 0 230 5  -- 3: newtype N4: type 2
          ∷ [];
      diagnostics =
          rec 50 1 Foo 0 0 0 190 1  -- 0: message 1, Foo
          ∷ rec 50 4 Foo 0 0 0 220 4  -- 1: message 4, Foo
          ∷ [];
      says = [];
    }

-- N1<T, T> = map of T, optional of T, and N1 of Foo of u8: the argument is resolved at each place of T, and outside the
-- target, where Foo gives message 4; "an argument as a whole [takes the span] of the parameter it replaces".
abbrev pub argument_twice : Known
argument_twice =
    record {
      wildcards = false;
      book =
          rec 4 0 T 0 0 0 100 1  -- 0: T
          ∷ rec 4 0 T 0 0 0 110 2  -- 1: T
          ∷ rec 7 0 1 0 0 0 120 3  -- 2: optional of record 1
          ∷ rec 8 0 0 2 0 0 130 4  -- 3: map of record 0, record 2
          ∷ rec 23 0 N1 3 0 0 140 5  -- 4: alias N1: record 3
          ∷ rec 30 0 T 0 0 0 150 6  -- 5: its parameter T
          ∷ rec 30 0 T 0 0 0 160 7  -- 6: its parameter T
          ∷ rec 1 1 0 0 0 0 170 8  -- 7: u8
          ∷ rec 6 0 Foo 7 0 0 180 9  -- 8: Foo of record 7
          ∷ rec 6 0 N1 8 0 0 190 1  -- 9: N1 of record 8
          ∷ rec 22 0 N2 9 0 0 200 2  -- 10: newtype N2: record 9
          ∷ [];
      reply = accepted 5 2 0;
      results =
          rec 4 0 0 0 0 4294967295 0 0  -- 0: poison
          ∷ rec 4 0 0 0 0 4294967295 0 0  -- 1: poison
          ∷ rec 7 0 1 0 0 0 0 0  -- 2: optional of record 1
          ∷ rec 8 0 0 2 0 0 0 0  -- 3: map of record 0, record 2
          ∷ rec 48 0 N2 3 0 0 200 2  -- 4: newtype N2: type 3
          ∷ [];
      diagnostics =
          rec 50 4 Foo 0 0 0 100 1  -- 0: message 4, Foo
          ∷ rec 50 4 Foo 0 0 0 110 2  -- 1: message 4, Foo
          ∷ [];
      says = [];
    }

-- N1<T> = T: the whole target is the parameter, so Foo in N1 of Foo has the span of that use. "parts inside either keep
-- their own": Foo in N1 of array of Foo.
abbrev pub whole_target : Known
whole_target =
    record {
      wildcards = false;
      book =
          rec 4 0 T 0 0 0 100 1  -- 0: T
          ∷ rec 23 0 N1 0 0 0 110 2  -- 1: alias N1: record 0
          ∷ rec 30 0 T 0 0 0 120 3  -- 2: its parameter T
          ∷ rec 4 0 Foo 0 0 0 130 4  -- 3: Foo
          ∷ rec 6 0 N1 3 0 0 140 5  -- 4: N1 of record 3
          ∷ rec 4 0 Foo 0 0 0 150 6  -- 5: Foo
          ∷ rec 7 1 5 0 0 0 160 7  -- 6: array of record 5
          ∷ rec 6 0 N1 6 0 0 170 8  -- 7: N1 of record 6
          ∷ rec 8 0 4 7 0 0 180 9  -- 8: map of record 4, record 7
          ∷ rec 22 0 N3 8 0 0 190 1  -- 9: newtype N3: record 8
          ∷ [];
      reply = accepted 5 2 0;
      results =
          rec 4 0 0 0 0 4294967295 0 0  -- 0: poison
          ∷ rec 4 0 0 0 0 4294967295 0 0  -- 1: poison
          ∷ rec 7 1 1 0 0 0 0 0  -- 2: array of record 1
          ∷ rec 8 0 0 2 0 0 0 0  -- 3: map of record 0, record 2
          ∷ rec 48 0 N3 3 0 0 190 1  -- 4: newtype N3: type 3
          ∷ [];
      diagnostics =
          rec 50 1 Foo 0 0 0 140 5  -- 0: message 1, Foo
          ∷ rec 50 1 Foo 0 0 0 150 6  -- 1: message 1, Foo
          ∷ [];
      says = newtype_over N3 (map_of poison (array_of poison)) ∷ [];
    }

-- N1<T> = map of T of u8, result of T.Foo, T, and a message T. The parameter is replaced at a bare name, there before
-- "declared 20-22", and never as head or namespace: T of u8 is message 3, in a target too, and T.Foo a stub behind N2,
-- T and the generic aliases. The target of N3, which nothing uses, says nothing.
abbrev pub only_bare_names : Known
only_bare_names =
    record {
      wildcards = false;
      book =
          rec 1 1 0 0 0 0 100 1  -- 0: u8
          ∷ rec 6 0 T 0 0 0 110 2  -- 1: T of record 0
          ∷ rec 5 0 T Foo 0 0 120 3  -- 2: T.Foo
          ∷ rec 4 0 T 0 0 0 130 4  -- 3: T
          ∷ rec 8 1 2 3 0 0 140 5  -- 4: result of record 2, record 3
          ∷ rec 8 0 1 4 0 0 150 6  -- 5: map of record 1, record 4
          ∷ rec 23 0 N1 5 0 0 160 7  -- 6: alias N1: record 5
          ∷ rec 30 0 T 0 0 0 170 8  -- 7: its parameter T
          ∷ rec 1 6 0 0 0 0 180 9  -- 8: i16
          ∷ rec 6 0 N1 8 0 0 190 1  -- 9: N1 of record 8
          ∷ rec 22 0 N2 9 0 0 200 2  -- 10: newtype N2: record 9
          ∷ rec 20 0 T 0 0 0 210 3  -- 11: message T
          ∷ rec 4 0 Foo 0 0 0 220 4  -- 12: Foo
          ∷ rec 23 0 N3 12 0 0 230 5  -- 13: alias N3: record 12
          ∷ rec 30 0 U 0 0 0 240 6  -- 14: its parameter U
          ∷ [];
      reply = accepted 7 1 0;
      results =
          rec 4 0 0 0 0 4294967295 0 0  -- 0: poison
          ∷ rec 4 0 0 0 0 4 0 0  -- 1: type number 4
          ∷ rec 1 6 0 0 0 0 0 0  -- 2: i16
          ∷ rec 8 1 1 2 0 0 0 0  -- 3: result of record 1, record 2
          ∷ rec 8 0 0 3 0 0 0 0  -- 4: map of record 0, record 3
          ∷ rec 48 0 N2 4 0 0 200 2  -- 5: newtype N2: type 4
          ∷ rec 42 0 T 0 0 0 210 3  -- 6: message T
          ∷ [];
      diagnostics =
          rec 50 3 T 0 0 1 110 2  -- 0: message 3, T
          ∷ [];
      says = one_message 3 T 110 2 ∷ [];
    }

-- A message, a constant and an ambiguous name N1: "20-23 share one set, 24 and 25 have one each". "Named, in order:
-- plain alias [..]; declared 20-22; ambiguous": neither N1 nor the alias N2 is poison.
abbrev pub one_name_in_three_sets : Known
one_name_in_three_sets =
    record {
      wildcards = true;
      book =
          rec 25 0 N1 0 0 0 100 1  -- 0: N1 is ambiguous
          ∷ rec 1 1 0 0 0 0 110 2  -- 1: u8
          ∷ rec 23 0 N2 1 0 0 120 3  -- 2: alias N2: record 1
          ∷ rec 25 0 N2 0 0 0 130 4  -- 3: N2 is ambiguous
          ∷ rec 10 0 0 0 0 5 140 5  -- 4: Int 5
          ∷ rec 1 2 0 0 0 0 150 6  -- 5: u16
          ∷ rec 24 0 N1 5 4 0 160 7  -- 6: constant N1: type 5, expression 4
          ∷ rec 20 0 N1 0 0 0 170 8  -- 7: message N1
          ∷ rec 4 0 N1 0 0 0 180 9  -- 8: N1
          ∷ rec 31 0 N3 8 none 1 190 1  -- 9: field N3: type 8, no constraint, ordinal 1
          ∷ rec 4 0 N2 0 0 0 200 2  -- 10: N2
          ∷ rec 31 0 N3 10 none 1 210 3  -- 11: field N3: type 10, no constraint, ordinal 1
          ∷ [];
      reply = accepted 11 0 1;
      results =
          rec 1 1 0 0 0 0 0 0  -- 0: u8
          ∷ rec 40 0 N2 0 0 0 120 3  -- 1: alias N2: type 0
          ∷ rec 1 2 0 0 0 0 0 0  -- 2: u16
          ∷ rec 41 1 N1 2 0 5 160 7  -- 3: constant N1: stored, type 2
          ∷ rec 42 0 N1 0 0 0 170 8  -- 4: message N1
          ∷ rec 4 0 0 0 0 0 0 0  -- 5: type number 0
          ∷ rec 45 0 N3 5 none 1 190 1  -- 6: field N3: type 5, no constraint, ordinal 1
          ∷ rec 46 0 0 0 0 0 0 0  -- 7: its encoding: default
          ∷ rec 1 1 0 0 0 0 0 0  -- 8: u8
          ∷ rec 45 0 N3 8 none 1 210 3  -- 9: field N3: type 8, no constraint, ordinal 1
          ∷ rec 46 0 0 0 0 0 0 0  -- 10: its encoding: default
          ∷ [];
      diagnostics = [];
      says = stored N1 (pos 5) ∷ no_message ∷ [];
    }

-- "ambiguous (poison 4,294,967,295, message 0); known number; with wildcards a fresh stub": a bare generic alias N1
-- that is ambiguous, and Foo, which is said to be ambiguous only behind its use. A head is not asked: N1 of u16 is u16.
abbrev pub ambiguous : Known
ambiguous =
    record {
      wildcards = true;
      book =
          rec 25 0 N1 0 0 0 100 1  -- 0: N1 is ambiguous
          ∷ rec 4 0 T 0 0 0 110 2  -- 1: T
          ∷ rec 23 0 N1 1 0 0 120 3  -- 2: alias N1: record 1
          ∷ rec 30 0 T 0 0 0 130 4  -- 3: its parameter T
          ∷ rec 4 0 N1 0 0 0 140 5  -- 4: N1
          ∷ rec 1 2 0 0 0 0 150 6  -- 5: u16
          ∷ rec 6 0 N1 5 0 0 160 7  -- 6: N1 of record 5
          ∷ rec 8 0 4 6 0 0 170 8  -- 7: map of record 4, record 6
          ∷ rec 4 0 Foo 0 0 0 180 9  -- 8: Foo
          ∷ rec 8 1 7 8 0 0 190 1  -- 9: result of record 7, record 8
          ∷ rec 22 0 N2 9 0 0 200 2  -- 10: newtype N2: record 9
          ∷ rec 25 0 Foo 0 0 0 210 3  -- 11: Foo is ambiguous
          ∷ [];
      reply = accepted 6 2 0;
      results =
          rec 4 0 0 0 0 4294967295 0 0  -- 0: poison
          ∷ rec 1 2 0 0 0 0 0 0  -- 1: u16
          ∷ rec 8 0 0 1 0 0 0 0  -- 2: map of record 0, record 1
          ∷ rec 4 0 0 0 0 4294967295 0 0  -- 3: poison
          ∷ rec 8 1 2 3 0 0 0 0  -- 4: result of record 2, record 3
          ∷ rec 48 0 N2 4 0 0 200 2  -- 5: newtype N2: type 4
          ∷ [];
      diagnostics =
          rec 50 0 N1 0 0 0 140 5  -- 0: message 0, N1
          ∷ rec 50 0 Foo 0 0 0 180 9  -- 1: message 0, Foo
          ∷ [];
      says = [];
    }

-- An ambiguous name where no wildcard imports exist: message 0 all the same.
abbrev pub ambiguous_alone : Known
ambiguous_alone =
    record {
      wildcards = false;
      book =
          rec 4 0 Foo 0 0 0 100 1  -- 0: Foo
          ∷ rec 22 0 N1 0 0 0 110 2  -- 1: newtype N1: record 0
          ∷ rec 25 0 Foo 0 0 0 120 3  -- 2: Foo is ambiguous
          ∷ [];
      reply = accepted 2 1 0;
      results =
          rec 4 0 0 0 0 4294967295 0 0  -- 0: poison
          ∷ rec 48 0 N1 0 0 0 110 2  -- 1: newtype N1: type 0
          ∷ [];
      diagnostics =
          rec 50 0 Foo 0 0 0 100 1  -- 0: message 0, Foo
          ∷ [];
      says = newtype_over N1 poison ∷ one_message 0 Foo 100 1 ∷ [];
    }

-- Wildcards exist: "with wildcards a fresh stub". Foo and Bar get numbers behind the newtypes (0 and 1) and the generic
-- alias (2), as met; Foo has its number again, and is a namespace. A head with a stub's number is message 3.
abbrev pub stubs : Known
stubs =
    record {
      wildcards = true;
      book =
          rec 4 0 T 0 0 0 100 1  -- 0: T
          ∷ rec 23 0 N1 0 0 0 110 2  -- 1: alias N1: record 0
          ∷ rec 30 0 T 0 0 0 120 3  -- 2: its parameter T
          ∷ rec 4 0 Bar 0 0 0 130 4  -- 3: Bar
          ∷ rec 4 0 Foo 0 0 0 140 5  -- 4: Foo
          ∷ rec 8 0 4 3 0 0 150 6  -- 5: map of record 4, record 3
          ∷ rec 23 0 N2 5 0 0 160 7  -- 6: alias N2: record 5
          ∷ rec 5 0 Foo Bar 0 0 170 8  -- 7: Foo.Bar
          ∷ rec 4 0 Foo 0 0 0 180 9  -- 8: Foo
          ∷ rec 8 1 8 7 0 0 190 1  -- 9: result of record 8, record 7
          ∷ rec 22 0 N3 9 0 0 200 2  -- 10: newtype N3: record 9
          ∷ rec 1 1 0 0 0 0 210 3  -- 11: u8
          ∷ rec 6 0 Bar 11 0 0 220 4  -- 12: Bar of record 11
          ∷ rec 22 0 N4 12 0 0 230 5  -- 13: newtype N4: record 12
          ∷ [];
      reply = accepted 10 1 0;
      results =
          rec 4 0 0 0 0 3 0 0  -- 0: type number 3
          ∷ rec 4 0 0 0 0 4 0 0  -- 1: type number 4
          ∷ rec 8 0 0 1 0 0 0 0  -- 2: map of record 0, record 1
          ∷ rec 40 0 N2 2 0 0 160 7  -- 3: alias N2: type 2
          ∷ rec 4 0 0 0 0 3 0 0  -- 4: type number 3
          ∷ rec 4 0 0 0 0 5 0 0  -- 5: type number 5
          ∷ rec 8 1 4 5 0 0 0 0  -- 6: result of record 4, record 5
          ∷ rec 48 0 N3 6 0 0 200 2  -- 7: newtype N3: type 6
          ∷ rec 4 0 0 0 0 4294967295 0 0  -- 8: poison
          ∷ rec 48 0 N4 8 0 0 230 5  -- 9: newtype N4: type 8
          ∷ [];
      diagnostics =
          rec 50 3 Bar 0 0 1 220 4  -- 0: message 3, Bar
          ∷ [];
      says = newtype_over N4 poison ∷ one_message 3 Bar 220 4 ∷ [];
    }

-- N1 names Foo before the alias Foo = u8 is lowered, so Foo has a stub too. The bare name is the alias; as a namespace
-- Foo has the stub's number: "Lookup tries the name's own number" first.
abbrev pub stub_before_alias : Known
stub_before_alias =
    record {
      wildcards = true;
      book =
          rec 4 0 Foo 0 0 0 100 1  -- 0: Foo
          ∷ rec 23 0 N1 0 0 0 110 2  -- 1: alias N1: record 0
          ∷ rec 1 1 0 0 0 0 120 3  -- 2: u8
          ∷ rec 23 0 Foo 2 0 0 130 4  -- 3: alias Foo: record 2
          ∷ rec 4 0 Foo 0 0 0 140 5  -- 4: Foo
          ∷ rec 5 0 Foo Bar 0 0 150 6  -- 5: Foo.Bar
          ∷ rec 8 0 4 5 0 0 160 7  -- 6: map of record 4, record 5
          ∷ rec 22 0 N2 6 0 0 170 8  -- 7: newtype N2: record 6
          ∷ [];
      reply = accepted 8 0 0;
      results =
          rec 4 0 0 0 0 1 0 0  -- 0: type number 1
          ∷ rec 40 0 N1 0 0 0 110 2  -- 1: alias N1: type 0
          ∷ rec 1 1 0 0 0 0 0 0  -- 2: u8
          ∷ rec 40 0 Foo 2 0 0 130 4  -- 3: alias Foo: type 2
          ∷ rec 1 1 0 0 0 0 0 0  -- 4: u8
          ∷ rec 4 0 0 0 0 2 0 0  -- 5: type number 2
          ∷ rec 8 0 4 5 0 0 0 0  -- 6: map of record 4, record 5
          ∷ rec 48 0 N2 6 0 0 170 8  -- 7: newtype N2: type 6
          ∷ [];
      diagnostics = [];
      says = newtype_over N2 (map_of u8 (number 2)) ∷ no_message ∷ [];
    }

-- The same where the alias is to the generic alias N3<T>: by its own number, the stub's, N2 is no generic alias, so N2
-- of u8 is message 3.
abbrev pub stub_before_generic : Known
stub_before_generic =
    record {
      wildcards = true;
      book =
          rec 4 0 N2 0 0 0 100 1  -- 0: N2
          ∷ rec 23 0 N1 0 0 0 110 2  -- 1: alias N1: record 0
          ∷ rec 1 1 0 0 0 0 120 3  -- 2: u8
          ∷ rec 23 0 N3 2 0 0 130 4  -- 3: alias N3: record 2
          ∷ rec 30 0 T 0 0 0 140 5  -- 4: its parameter T
          ∷ rec 4 0 N3 0 0 0 150 6  -- 5: N3
          ∷ rec 23 0 N2 5 0 0 160 7  -- 6: alias N2: record 5
          ∷ rec 1 1 0 0 0 0 170 8  -- 7: u8
          ∷ rec 6 0 N2 7 0 0 180 9  -- 8: N2 of record 7
          ∷ rec 22 0 N4 8 0 0 190 1  -- 9: newtype N4: record 8
          ∷ [];
      reply = accepted 6 1 0;
      results =
          rec 4 0 0 0 0 2 0 0  -- 0: the stub
          ∷ rec 40 0 N1 0 0 0 110 2  -- 1: alias N1: type 0
          ∷ rec 4 0 0 0 0 1 0 0  -- 2: the generic alias
          ∷ rec 40 0 N2 2 0 0 160 7  -- 3: alias N2: type 2
          ∷ rec 4 0 0 0 0 4294967295 0 0  -- 4: poison
          ∷ rec 48 0 N4 4 0 0 190 1  -- 5: newtype N4: type 4
          ∷ [];
      diagnostics =
          rec 50 3 N2 0 0 1 180 9  -- 0: message 3, N2
          ∷ [];
      says = newtype_over N4 poison ∷ one_message 3 N2 180 9 ∷ [];
    }

-- N1 = N2 - N3, N2 = N3 × 10, N3 = 7, N4 = N3: "always the earliest reached one whose declared references are done".
-- That is N3, then N2, then N1, which stands before N4.
abbrev pub constant_order : Known
constant_order =
    record {
      wildcards = false;
      book =
          rec 11 0 N2 0 0 0 100 1  -- 0: reference to N2
          ∷ rec 11 0 N3 0 0 0 110 2  -- 1: reference to N3
          ∷ rec 12 1 0 1 0 0 120 3  -- 2: Sub: record 0, record 1
          ∷ rec 1 7 0 0 0 0 130 4  -- 3: i32
          ∷ rec 24 0 N1 3 2 0 140 5  -- 4: constant N1: type 3, expression 2
          ∷ rec 11 0 N3 0 0 0 150 6  -- 5: reference to N3
          ∷ rec 10 3 0 0 0 10 160 7  -- 6: Hex 10
          ∷ rec 12 2 5 6 0 0 170 8  -- 7: Mul: record 5, record 6
          ∷ rec 1 8 0 0 0 0 180 9  -- 8: i64
          ∷ rec 24 0 N2 8 7 0 190 1  -- 9: constant N2: type 8, expression 7
          ∷ rec 10 1 0 0 0 7 200 2  -- 10: UInt 7
          ∷ rec 1 4 0 0 0 0 210 3  -- 11: u64
          ∷ rec 24 0 N3 11 10 0 220 4  -- 12: constant N3: type 11, expression 10
          ∷ rec 11 0 N3 0 0 0 230 5  -- 13: reference to N3
          ∷ rec 1 5 0 0 0 0 240 6  -- 14: i8
          ∷ rec 24 0 N4 14 13 0 250 7  -- 15: constant N4: type 14, expression 13
          ∷ [];
      reply = accepted 8 0 4;
      results =
          rec 1 4 0 0 0 0 0 0  -- 0: u64
          ∷ rec 41 1 N3 0 0 7 220 4  -- 1: constant N3: stored, type 0
          ∷ rec 1 8 0 0 0 0 0 0  -- 2: i64
          ∷ rec 41 1 N2 2 0 70 190 1  -- 3: constant N2: stored, type 2
          ∷ rec 1 7 0 0 0 0 0 0  -- 4: i32
          ∷ rec 41 1 N1 4 0 63 140 5  -- 5: constant N1: stored, type 4
          ∷ rec 1 5 0 0 0 0 0 0  -- 6: i8
          ∷ rec 41 1 N4 6 0 7 250 7  -- 7: constant N4: stored, type 6
          ∷ [];
      diagnostics = [];
      says = stored N1 (pos 63) ∷ stored N2 (pos 70) ∷ stored N3 (pos 7) ∷ stored N4 (pos 7) ∷ [];
    }

-- N1 = N1, N2 = N3 + N1, N3 = 5: N1 is on a ring and N2 leads into it, "Unreached gives silence", also about their
-- types.
abbrev pub rings : Known
rings =
    record {
      wildcards = false;
      book =
          rec 11 0 N1 0 0 0 100 1  -- 0: reference to N1
          ∷ rec 4 0 Foo 0 0 0 110 2  -- 1: Foo
          ∷ rec 24 0 N1 1 0 0 120 3  -- 2: constant N1: type 1, expression 0
          ∷ rec 11 0 N3 0 0 0 130 4  -- 3: reference to N3
          ∷ rec 11 0 N1 0 0 0 140 5  -- 4: reference to N1
          ∷ rec 12 0 3 4 0 0 150 6  -- 5: Add: record 3, record 4
          ∷ rec 4 0 Foo 0 0 0 160 7  -- 6: Foo
          ∷ rec 24 0 N2 6 5 0 170 8  -- 7: constant N2: type 6, expression 5
          ∷ rec 10 0 0 0 0 5 180 9  -- 8: Int 5
          ∷ rec 1 1 0 0 0 0 190 1  -- 9: u8
          ∷ rec 24 0 N3 9 8 0 200 2  -- 10: constant N3: type 9, expression 8
          ∷ [];
      reply = accepted 2 0 1;
      results =
          rec 1 1 0 0 0 0 0 0  -- 0: u8
          ∷ rec 41 1 N3 0 0 5 200 2  -- 1: constant N3: stored, type 0
          ∷ [];
      diagnostics = [];
      says = silent N1 ∷ silent N2 ∷ stored N3 (pos 5) ∷ no_message ∷ [];
    }

-- N1 = Foo + Foo, N2 = N1: Foo is no declared constant, so N1 is reached, and N2 by it. "reached without a value gives
-- message 5", at the expression.
abbrev pub undeclared_twice : Known
undeclared_twice =
    record {
      wildcards = false;
      book =
          rec 11 0 Foo 0 0 0 100 1  -- 0: reference to Foo
          ∷ rec 11 0 Foo 0 0 0 110 2  -- 1: reference to Foo
          ∷ rec 12 0 0 1 0 0 120 3  -- 2: Add: record 0, record 1
          ∷ rec 1 1 0 0 0 0 130 4  -- 3: u8
          ∷ rec 24 0 N1 3 2 0 140 5  -- 4: constant N1: type 3, expression 2
          ∷ rec 11 0 N1 0 0 0 150 6  -- 5: reference to N1
          ∷ rec 1 2 0 0 0 0 160 7  -- 6: u16
          ∷ rec 24 0 N2 6 5 0 170 8  -- 7: constant N2: type 6, expression 5
          ∷ [];
      reply = accepted 4 2 0;
      results =
          rec 1 1 0 0 0 0 0 0  -- 0: u8
          ∷ rec 41 0 N1 0 0 0 140 5  -- 1: constant N1: not stored, type 0
          ∷ rec 1 2 0 0 0 0 0 0  -- 2: u16
          ∷ rec 41 0 N2 2 0 0 170 8  -- 3: constant N2: not stored, type 2
          ∷ [];
      diagnostics =
          rec 50 5 N1 0 0 2 120 3  -- 0: message 5, N1
          ∷ rec 50 5 N2 0 0 2 150 6  -- 1: message 5, N2
          ∷ [];
      says = without_value N1 ∷ without_value N2 ∷ [];
    }

-- "Float, Bool, comparisons, zero divisors [..] give none". The type comes first: message 1 of N1's type stands before
-- its message 5.
abbrev pub valueless : Known
valueless =
    record {
      wildcards = false;
      book =
          rec 10 2 0 0 0 1 100 1  -- 0: Float
          ∷ rec 4 0 Foo 0 0 0 110 2  -- 1: Foo
          ∷ rec 24 0 N1 1 0 0 120 3  -- 2: constant N1: type 1, expression 0
          ∷ rec 10 4 0 0 0 1 130 4  -- 3: Bool 1
          ∷ rec 1 0 0 0 0 0 140 5  -- 4: Bool
          ∷ rec 24 0 N2 4 3 0 150 6  -- 5: constant N2: type 4, expression 3
          ∷ rec 10 0 0 0 0 1 160 7  -- 6: Int 1
          ∷ rec 10 0 0 0 0 2 170 8  -- 7: Int 2
          ∷ rec 12 6 6 7 0 0 180 9  -- 8: Lt: record 6, record 7
          ∷ rec 1 0 0 0 0 0 190 1  -- 9: Bool
          ∷ rec 24 0 N3 9 8 0 200 2  -- 10: constant N3: type 9, expression 8
          ∷ [];
      reply = accepted 6 4 0;
      results =
          rec 4 0 0 0 0 4294967295 0 0  -- 0: poison
          ∷ rec 41 0 N1 0 0 0 120 3  -- 1: constant N1: not stored, type 0
          ∷ rec 1 0 0 0 0 0 0 0  -- 2: Bool
          ∷ rec 41 0 N2 2 0 0 150 6  -- 3: constant N2: not stored, type 2
          ∷ rec 1 0 0 0 0 0 0 0  -- 4: Bool
          ∷ rec 41 0 N3 4 0 0 200 2  -- 5: constant N3: not stored, type 4
          ∷ [];
      diagnostics =
          rec 50 1 Foo 0 0 0 110 2  -- 0: message 1, Foo
          ∷ rec 50 5 N1 0 0 2 100 1  -- 1: message 5, N1
          ∷ rec 50 5 N2 0 0 2 130 4  -- 2: message 5, N2
          ∷ rec 50 5 N3 0 0 2 180 9  -- 3: message 5, N3
          ∷ [];
      says = without_value N2 ∷ without_value N3 ∷ [];
    }

-- N1 = (8 - 10) × (-7 ÷ 2) + Hex FFFFFFFFFFFFFFFF, four levels: -2 × -3 - 1.
abbrev pub deep_expression : Known
deep_expression =
    record {
      wildcards = false;
      book =
          rec 10 0 0 0 0 8 100 1  -- 0: Int 8
          ∷ rec 10 0 0 0 0 10 110 2  -- 1: Int 10
          ∷ rec 12 1 0 1 0 0 120 3  -- 2: Sub: record 0, record 1
          ∷ rec 10 0 0 0 0 18446744073709551609 130 4  -- 3: Int -7
          ∷ rec 10 1 0 0 0 2 140 5  -- 4: UInt 2
          ∷ rec 12 3 3 4 0 0 150 6  -- 5: Div: record 3, record 4
          ∷ rec 12 2 2 5 0 0 160 7  -- 6: Mul: record 2, record 5
          ∷ rec 10 3 0 0 0 18446744073709551615 170 8  -- 7: Hex 18446744073709551615
          ∷ rec 12 0 6 7 0 0 180 9  -- 8: Add: record 6, record 7
          ∷ rec 1 8 0 0 0 0 190 1  -- 9: i64
          ∷ rec 24 0 N1 9 8 0 200 2  -- 10: constant N1: type 9, expression 8
          ∷ [];
      reply = accepted 2 0 1;
      results =
          rec 1 8 0 0 0 0 0 0  -- 0: i64
          ∷ rec 41 1 N1 0 0 5 200 2  -- 1: constant N1: stored, type 0
          ∷ [];
      diagnostics = [];
      says = stored N1 (pos 5) ∷ no_message ∷ [];
    }

-- -9223372036854775808 - 1, 4611686018427387904 × 2, 7 ÷ 0: "zero divisors and overflow give none".
abbrev pub beyond_i64 : Known
beyond_i64 =
    record {
      wildcards = false;
      book =
          rec 10 0 0 0 0 9223372036854775808 100 1  -- 0: Int -9223372036854775808
          ∷ rec 10 0 0 0 0 1 110 2  -- 1: Int 1
          ∷ rec 12 1 0 1 0 0 120 3  -- 2: Sub: record 0, record 1
          ∷ rec 1 8 0 0 0 0 130 4  -- 3: i64
          ∷ rec 24 0 N1 3 2 0 140 5  -- 4: constant N1: type 3, expression 2
          ∷ rec 10 0 0 0 0 4611686018427387904 150 6  -- 5: Int 4611686018427387904
          ∷ rec 10 0 0 0 0 2 160 7  -- 6: Int 2
          ∷ rec 12 2 5 6 0 0 170 8  -- 7: Mul: record 5, record 6
          ∷ rec 1 8 0 0 0 0 180 9  -- 8: i64
          ∷ rec 24 0 N2 8 7 0 190 1  -- 9: constant N2: type 8, expression 7
          ∷ rec 10 0 0 0 0 7 200 2  -- 10: Int 7
          ∷ rec 10 0 0 0 0 0 210 3  -- 11: Int 0
          ∷ rec 12 3 10 11 0 0 220 4  -- 12: Div: record 10, record 11
          ∷ rec 1 8 0 0 0 0 230 5  -- 13: i64
          ∷ rec 24 0 N3 13 12 0 240 6  -- 14: constant N3: type 13, expression 12
          ∷ [];
      reply = accepted 6 3 0;
      results =
          rec 1 8 0 0 0 0 0 0  -- 0: i64
          ∷ rec 41 0 N1 0 0 0 140 5  -- 1: constant N1: not stored, type 0
          ∷ rec 1 8 0 0 0 0 0 0  -- 2: i64
          ∷ rec 41 0 N2 2 0 0 190 1  -- 3: constant N2: not stored, type 2
          ∷ rec 1 8 0 0 0 0 0 0  -- 4: i64
          ∷ rec 41 0 N3 4 0 0 240 6  -- 5: constant N3: not stored, type 4
          ∷ [];
      diagnostics =
          rec 50 5 N1 0 0 2 120 3  -- 0: message 5, N1
          ∷ rec 50 5 N2 0 0 2 170 8  -- 1: message 5, N2
          ∷ rec 50 5 N3 0 0 2 220 4  -- 2: message 5, N3
          ∷ [];
      says = without_value N1 ∷ without_value N2 ∷ without_value N3 ∷ [];
    }

abbrev pub edges : List Known
edges =
    and_not
    ∷ or_of_operands
    ∷ tombstones
    ∷ unions
    ∷ highest
    ∷ encodings
    ∷ delta_integers
    ∷ delta_what_they_had
    ∷ delta_not_eligible
    ∷ delta_through_alias
    ∷ limits
    ∷ no_limits
    ∷ shapes
    ∷ more_shapes
    ∷ plain_aliases
    ∷ alias_as_head
    ∷ qualified
    ∷ poison_counts
    ∷ handed_on
    ∷ argument_twice
    ∷ whole_target
    ∷ only_bare_names
    ∷ one_name_in_three_sets
    ∷ ambiguous
    ∷ ambiguous_alone
    ∷ stubs
    ∷ stub_before_alias
    ∷ stub_before_generic
    ∷ constant_order
    ∷ rings
    ∷ undeclared_twice
    ∷ valueless
    ∷ deep_expression
    ∷ beyond_i64
    ∷ []

-- their answers, claimed as those of K1 to K12 are. The proof is in proofs/Edges.antt.
abbrev pub EdgesAnswered : Type 0
EdgesAnswered = All Answered edges
