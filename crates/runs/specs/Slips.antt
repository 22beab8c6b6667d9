-- Slips, which are wrong readings of the format (docs/FORMAT.md, section 7), each with the records that it would give,
-- and the books beside K1 to K12 that they need. Records stand as in Known.antt. Words in quotation marks are rules of
-- docs/FORMAT.md in brief.
-- Assumes nothing.
use Rattle.std.specs.Prelude.{ℕ, true, false, List, [], ◌∷◌, ◌≡◌, pos, length}
use Rattle.record.specs.declared.Record.{Record}
use Rattle.book.specs.Lists.{All}
use Rattle.lower.specs.LowerBook.{Reply, accepted, lower_book}
use Rattle.runs.specs.Books.{book_of, rec}
use Rattle.runs.specs.Claims.{Claim, minus, stored, one_message, no_message, newtype_over, u8, number, array_of, poison}
use Rattle.runs.specs.Claims.{default, varint, delta_over, is_delta, no_delta}
use Rattle.runs.specs.Known.{Known, leaving, Answered, N1, N2, N3, Outer, T, none, k5, k6, k10}

-- names
abbrev pub N4 : ℕ
N4 = 4

abbrev pub N5 : ℕ
N5 = 5

abbrev pub Foo : ℕ
Foo = 9

-- K3's 64 bits are those of the UInt as well. N2 = N1 ÷ 2 shows the cast, -9223372036854775808 ÷ 2: "UInt and Hex cast
-- to i64".
abbrev pub cast_seen : Known
cast_seen =
    record {
      wildcards = false;
      book =
          rec 10 1 0 0 0 9223372036854775808 100 1  -- 0: UInt 9223372036854775808
          ∷ rec 1 1 0 0 0 0 110 2  -- 1: u8
          ∷ rec 24 0 N1 1 0 0 120 3  -- 2: constant N1: type 1, expression 0
          ∷ rec 11 0 N1 0 0 0 130 4  -- 3: reference to N1
          ∷ rec 10 0 0 0 0 2 140 5  -- 4: Int 2
          ∷ rec 12 3 3 4 0 0 150 6  -- 5: Div: record 3, record 4
          ∷ rec 1 1 0 0 0 0 160 7  -- 6: u8
          ∷ rec 24 0 N2 6 5 0 170 8  -- 7: constant N2: type 6, expression 5
          ∷ [];
      reply = accepted 4 0 2;
      results =
          rec 1 1 0 0 0 0 0 0  -- 0: u8
          ∷ rec 41 1 N1 0 0 9223372036854775808 120 3  -- 1: constant N1: stored, type 0
          ∷ rec 1 1 0 0 0 0 0 0  -- 2: u8
          ∷ rec 41 1 N2 2 0 13835058055282163712 170 8  -- 3: constant N2: stored, type 2
          ∷ [];
      diagnostics = [];
      says = stored N1 (minus 9223372036854775808) ∷ stored N2 (minus 4611686018427387904) ∷ no_message ∷ [];
    }

-- Foo of u8 where wildcard imports exist and nothing is called Foo. "Generic: no number gives message 4"; poison.
abbrev pub unknown_head : Known
unknown_head =
    record {
      wildcards = true;
      book =
          rec 1 1 0 0 0 0 100 1  -- 0: u8
          ∷ rec 6 0 Foo 0 0 0 110 2  -- 1: Foo of record 0
          ∷ rec 22 0 N1 1 0 0 120 3  -- 2: newtype N1: record 1
          ∷ [];
      reply = accepted 2 1 0;
      results =
          rec 4 0 0 0 0 4294967295 0 0  -- 0: poison
          ∷ rec 48 0 N1 0 0 0 120 3  -- 1: newtype N1: type 0
          ∷ [];
      diagnostics =
          rec 50 4 Foo 0 0 0 110 2  -- 0: message 4, Foo
          ∷ [];
      says = newtype_over N1 poison ∷ one_message 4 Foo 110 2 ∷ [];
    }

-- Outer<T> = array of T, and Outer of T, T being undeclared. The argument stands outside the target: it is no parameter
-- there, and "an argument as a whole [takes the span] of the parameter it replaces".
abbrev pub argument_outside : Known
argument_outside =
    record {
      wildcards = false;
      book =
          rec 4 0 T 0 0 0 100 1  -- 0: T
          ∷ rec 7 1 0 0 0 0 110 2  -- 1: array of record 0
          ∷ rec 23 0 Outer 1 0 0 120 3  -- 2: alias Outer: record 1
          ∷ rec 30 0 T 0 0 0 130 4  -- 3: its parameter T
          ∷ rec 4 0 T 0 0 0 140 5  -- 4: T
          ∷ rec 6 0 Outer 4 0 0 150 6  -- 5: Outer of record 4
          ∷ rec 22 0 N2 5 0 0 160 7  -- 6: newtype N2: record 5
          ∷ [];
      reply = accepted 3 1 0;
      results =
          rec 4 0 0 0 0 4294967295 0 0  -- 0: poison
          ∷ rec 7 1 0 0 0 0 0 0  -- 1: array of 0
          ∷ rec 48 0 N2 1 0 0 160 7  -- 2: newtype N2: type 1
          ∷ [];
      diagnostics =
          rec 50 1 T 0 0 0 100 1  -- 0: message 1, T
          ∷ [];
      says = newtype_over N2 (array_of poison) ∷ one_message 1 T 100 1 ∷ [];
    }

-- a Bool and a u8 in a delta message: "fields not yet delta and resolved to primitive 1-12 or sub-byte become delta",
-- and Bool is 0
abbrev pub delta_and_bool : Known
delta_and_bool =
    record {
      wildcards = false;
      book =
          rec 20 0 N1 0 0 0 100 1  -- 0: message N1
          ∷ rec 34 2 0 0 0 0 110 2  -- 1: its delta
          ∷ rec 1 0 0 0 0 0 120 3  -- 2: Bool
          ∷ rec 31 0 N2 2 none 1 130 4  -- 3: field N2: type 2, no constraint, ordinal 1
          ∷ rec 1 1 0 0 0 0 140 5  -- 4: u8
          ∷ rec 31 0 N3 4 none 2 150 6  -- 5: field N3: type 4, no constraint, ordinal 2
          ∷ [];
      reply = accepted 7 0 0;
      results =
          rec 42 0 N1 0 0 0 100 1  -- 0: message N1
          ∷ rec 1 0 0 0 0 0 0 0  -- 1: Bool
          ∷ rec 45 0 N2 1 none 1 130 4  -- 2: field N2: type 1, no constraint, ordinal 1
          ∷ rec 46 0 0 0 0 0 0 0  -- 3: its encoding: default
          ∷ rec 1 1 0 0 0 0 0 0  -- 4: u8
          ∷ rec 45 0 N3 4 none 2 150 6  -- 5: field N3: type 4, no constraint, ordinal 2
          ∷ rec 46 1 1 0 0 0 0 0  -- 6: its encoding: delta over varint
          ∷ [];
      diagnostics = [];
      says = no_delta N2 default ∷ delta_over N3 varint ∷ [];
    }

-- a delta message, and behind it a union, which can have no annotation of its own, each with a field of u16: the
-- message's becomes delta
abbrev pub delta_and_union : Known
delta_and_union =
    record {
      wildcards = false;
      book =
          rec 20 0 N1 0 0 0 100 1  -- 0: message N1
          ∷ rec 34 2 0 0 0 0 110 2  -- 1: its delta
          ∷ rec 1 2 0 0 0 0 120 3  -- 2: u16
          ∷ rec 31 0 N2 2 none 1 130 4  -- 3: field N2: type 2, no constraint, ordinal 1
          ∷ rec 21 0 N3 0 0 0 140 5  -- 4: union N3
          ∷ rec 33 0 N4 0 0 1 150 6  -- 5: variant N4, ordinal 1
          ∷ rec 1 2 0 0 0 0 160 7  -- 6: u16
          ∷ rec 31 0 N5 6 none 2 170 8  -- 7: field N5: type 6, no constraint, ordinal 2
          ∷ [];
      reply = accepted 9 0 0;
      results =
          rec 42 0 N1 0 0 0 100 1  -- 0: message N1
          ∷ rec 1 2 0 0 0 0 0 0  -- 1: u16
          ∷ rec 45 0 N2 1 none 1 130 4  -- 2: field N2: type 1, no constraint, ordinal 1
          ∷ rec 46 1 1 0 0 0 0 0  -- 3: its encoding: delta over varint
          ∷ rec 43 0 N3 0 0 0 140 5  -- 4: union N3
          ∷ rec 44 0 N4 0 0 1 150 6  -- 5: variant N4, ordinal 1
          ∷ rec 1 2 0 0 0 0 0 0  -- 6: u16
          ∷ rec 45 0 N5 6 none 2 170 8  -- 7: field N5: type 6, no constraint, ordinal 2
          ∷ rec 46 0 0 0 0 0 0 0  -- 8: its encoding: default
          ∷ [];
      diagnostics = [];
      says = delta_over N2 varint ∷ no_delta N5 default ∷ [];
    }

-- the books beside K1 to K12
abbrev pub beside : List Known
beside = cast_seen ∷ unknown_head ∷ argument_outside ∷ delta_and_bool ∷ delta_and_union ∷ []

-- their answers, claimed as those of K1 to K12 are. The proof is in proofs/Slips.antt.
abbrev pub AnswersBeside : Type 0
AnswersBeside = All Answered beside

-- a book with its right answer, the reply and the records that the slip would give for it, and what these would say
pub record Slip : Type 0 where
  pub of : Known
  pub reply : Reply
  pub results : List Record
  pub diagnostics : List Record
  pub says : Claim

-- What is claimed of each: in slices of the full limits, whatever these hold, the book is not lowered to that; what the
-- slip's records say, the right ones do not.
pub record NotSo (s : Slip) : Type 0 where
  pub not_lowered_so :
      (results diagnostics : List ℕ) →
      length results ≡ 49152 →
      length diagnostics ≡ 6144 →
      lower_book (book_of s.of.wildcards s.of.book) results diagnostics
      ≡ leaving s.reply s.results s.diagnostics results diagnostics →
      ⊥
  pub says : s.says s.results s.diagnostics ≡ true
  pub not_said : s.says s.of.results s.of.diagnostics ≡ false

-- K6 evaluated to 9
abbrev pub square_stored : Slip
square_stored =
    record {
      of = k6;
      reply = accepted 4 0 2;
      results =
          rec 1 1 0 0 0 0 0 0  -- 0: u8
          ∷ rec 41 1 N1 0 0 3 120 3  -- 1: constant N1: stored, type 0
          ∷ rec 1 1 0 0 0 0 0 0  -- 2: u8
          ∷ rec 41 1 N2 2 0 9 170 8  -- 3: constant N2: stored, type 2
          ∷ [];
      diagnostics = [];
      says = stored N2 (pos 9);
    }

-- T substituted in K10: an array of u8, and no message
abbrev pub inner_substituted : Slip
inner_substituted =
    record {
      of = k10;
      reply = accepted 3 0 0;
      results =
          rec 1 1 0 0 0 0 0 0  -- 0: u8
          ∷ rec 7 1 0 0 0 0 0 0  -- 1: array of record 0
          ∷ rec 48 0 N3 1 0 0 200 2  -- 2: newtype N3: type 1
          ∷ [];
      diagnostics = [];
      says = newtype_over N3 (array_of u8);
    }

-- a stub for an unknown generic head: the stub is the type; the newtype has number 0, so the stub gets 1
abbrev pub head_stubbed : Slip
head_stubbed =
    record {
      of = unknown_head;
      reply = accepted 2 0 0;
      results =
          rec 4 0 0 0 0 1 0 0  -- 0: type number 1
          ∷ rec 48 0 N1 0 0 0 120 3  -- 1: newtype N1: type 0
          ∷ [];
      diagnostics = [];
      says = newtype_over N1 (number 1);
    }

-- the same, where the stub then counts as a number of no generic alias: "no generic alias gives 3"
abbrev pub head_stubbed_then_looked_at : Slip
head_stubbed_then_looked_at =
    record {
      of = unknown_head;
      reply = accepted 2 1 0;
      results =
          rec 4 0 0 0 0 4294967295 0 0  -- 0: poison
          ∷ rec 48 0 N1 0 0 0 120 3  -- 1: newtype N1: type 0
          ∷ [];
      diagnostics =
          rec 50 3 Foo 0 0 1 110 2  -- 0: message 3, Foo
          ∷ [];
      says = one_message 3 Foo 110 2;
    }

-- a message's delta on Bool
abbrev pub delta_on_bool : Slip
delta_on_bool =
    record {
      of = delta_and_bool;
      reply = accepted 7 0 0;
      results =
          rec 42 0 N1 0 0 0 100 1  -- 0: message N1
          ∷ rec 1 0 0 0 0 0 0 0  -- 1: Bool
          ∷ rec 45 0 N2 1 none 1 130 4  -- 2: field N2: type 1, no constraint, ordinal 1
          ∷ rec 46 0 1 0 0 0 0 0  -- 3: its encoding: delta over default
          ∷ rec 1 1 0 0 0 0 0 0  -- 4: u8
          ∷ rec 45 0 N3 4 none 2 150 6  -- 5: field N3: type 4, no constraint, ordinal 2
          ∷ rec 46 1 1 0 0 0 0 0  -- 6: its encoding: delta over varint
          ∷ [];
      diagnostics = [];
      says = is_delta N2;
    }

-- a message's delta on a union's fields
abbrev pub delta_on_union : Slip
delta_on_union =
    record {
      of = delta_and_union;
      reply = accepted 9 0 0;
      results =
          rec 42 0 N1 0 0 0 100 1  -- 0: message N1
          ∷ rec 1 2 0 0 0 0 0 0  -- 1: u16
          ∷ rec 45 0 N2 1 none 1 130 4  -- 2: field N2: type 1, no constraint, ordinal 1
          ∷ rec 46 1 1 0 0 0 0 0  -- 3: its encoding: delta over varint
          ∷ rec 43 0 N3 0 0 0 140 5  -- 4: union N3
          ∷ rec 44 0 N4 0 0 1 150 6  -- 5: variant N4, ordinal 1
          ∷ rec 1 2 0 0 0 0 0 0  -- 6: u16
          ∷ rec 45 0 N5 6 none 2 170 8  -- 7: field N5: type 6, no constraint, ordinal 2
          ∷ rec 46 1 1 0 0 0 0 0  -- 8: its encoding: delta over varint
          ∷ [];
      diagnostics = [];
      says = is_delta N5;
    }

-- division toward minus infinity: K5 to -4
abbrev pub divided_down : Slip
divided_down =
    record {
      of = k5;
      reply = accepted 2 0 1;
      results =
          rec 1 1 0 0 0 0 0 0  -- 0: u8
          ∷ rec 41 1 N1 0 0 18446744073709551612 140 5  -- 1: constant N1: stored, type 0
          ∷ [];
      diagnostics = [];
      says = stored N1 (minus 4);
    }

-- the list
abbrev pub slips : List Slip
slips =
    square_stored
    ∷ inner_substituted
    ∷ head_stubbed
    ∷ head_stubbed_then_looked_at
    ∷ delta_on_bool
    ∷ delta_on_union
    ∷ divided_down
    ∷ []

-- no slip holds. The proof is in proofs/Slips.antt.
abbrev pub NoSlip : Type 0
NoSlip = All NotSo slips
