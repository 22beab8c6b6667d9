-- The known answers K1 to K12 (docs/FORMAT.md, section 7): books with the replies and records that they are lowered to.
-- A record stands as kind, sub, a, b, c, v, span offset and span length, with its number behind it. Words in quotation
-- marks are rules of docs/FORMAT.md in brief.
-- Assumes nothing.
use Rattle.std.specs.Prelude.{ℕ, Bool, true, false, List, [], ◌∷◌, ◌≡◌, pos, length}
use Rattle.record.specs.declared.Record.{Record}
use Rattle.book.specs.Lists.{All}
use Rattle.book.specs.Outline.{read}
use Rattle.record.specs.Write.{with_records}
use Rattle.lower.specs.LowerBook.{Reply, accepted, Outcome, lower_book}
use Rattle.runs.specs.Books.{book_of, rec}
use Rattle.runs.specs.Claims.{Claim, minus, stored, without_value, silent, one_message, no_message}
use Rattle.runs.specs.Claims.{newtype_over, u8, number, array_of, map_of, poison, delta_over, limited, varint}

-- a book by its records, the reply to it, the records that it is lowered to, and what these say
pub record Known : Type 0 where
  pub wildcards : Bool
  pub book : List Record
  pub reply : Reply
  pub results : List Record
  pub diagnostics : List Record
  pub says : List Claim

-- a reply, and two slices that have records from their start on and are else as lent
abbrev pub leaving : Reply → List Record → List Record → List ℕ → List ℕ → Outcome
leaving reply rs ds results diagnostics =
    record { reply = reply; results = with_records rs results; diagnostics = with_records ds diagnostics }

-- every claim holds of the records
abbrev pub Says : Known → Type 0
Says k = All (λ claim. claim k.results k.diagnostics ≡ true) k.says

-- What is claimed of each: the bytes are read as these records; in slices of the full limits, whatever these hold, the
-- book is lowered to this reply and these records, and no other byte changes; the records say what is stated of the
-- book.
pub record Answered (k : Known) : Type 0 where
  pub reads : read (book_of k.wildcards k.book) ≡ record { records = k.book; wildcards = k.wildcards }
  pub lowers :
      (results diagnostics : List ℕ) →
      length results ≡ 49152 →
      length diagnostics ≡ 6144 →
      lower_book (book_of k.wildcards k.book) results diagnostics
      ≡ leaving k.reply k.results k.diagnostics results diagnostics
  pub says : Says k

-- names
abbrev pub N1 : ℕ
N1 = 1

abbrev pub N2 : ℕ
N2 = 2

abbrev pub N3 : ℕ
N3 = 3

abbrev pub Outer : ℕ
Outer = 1

abbrev pub Inner : ℕ
Inner = 2

abbrev pub Pair : ℕ
Pair = 1

abbrev pub T : ℕ
T = 10

abbrev pub U : ℕ
U = 11

-- "65,535 means none"
abbrev pub none : ℕ
none = 65535

-- "K1 N1 = 6, N2 = N1 × 7: 42"; "K1 with types u8 prints exactly `accepted 4 0 2`"
abbrev pub k1 : Known
k1 =
    record {
      wildcards = false;
      book =
          rec 10 0 0 0 0 6 100 1  -- 0: Int 6
          ∷ rec 1 1 0 0 0 0 110 2  -- 1: u8
          ∷ rec 24 0 N1 1 0 0 120 3  -- 2: constant N1: type 1, expression 0
          ∷ rec 11 0 N1 0 0 0 130 4  -- 3: reference to N1
          ∷ rec 10 0 0 0 0 7 140 5  -- 4: Int 7
          ∷ rec 12 2 3 4 0 0 150 6  -- 5: Mul: record 3, record 4
          ∷ rec 1 1 0 0 0 0 160 7  -- 6: u8
          ∷ rec 24 0 N2 6 5 0 170 8  -- 7: constant N2: type 6, expression 5
          ∷ [];
      reply = accepted 4 0 2;
      results =
          rec 1 1 0 0 0 0 0 0  -- 0: u8
          ∷ rec 41 1 N1 0 0 6 120 3  -- 1: constant N1: stored, type 0
          ∷ rec 1 1 0 0 0 0 0 0  -- 2: u8
          ∷ rec 41 1 N2 2 0 42 170 8  -- 3: constant N2: stored, type 2
          ∷ [];
      diagnostics = [];
      says = stored N1 (pos 6) ∷ stored N2 (pos 42) ∷ no_message ∷ [];
    }

-- "K2 9223372036854775807 + 1: message 5"; "Message 5 takes the expression's span"
abbrev pub k2 : Known
k2 =
    record {
      wildcards = false;
      book =
          rec 10 0 0 0 0 9223372036854775807 100 1  -- 0: Int 9223372036854775807
          ∷ rec 10 0 0 0 0 1 110 2  -- 1: Int 1
          ∷ rec 12 0 0 1 0 0 120 3  -- 2: Add: record 0, record 1
          ∷ rec 1 1 0 0 0 0 130 4  -- 3: u8
          ∷ rec 24 0 N1 3 2 0 140 5  -- 4: constant N1: type 3, expression 2
          ∷ [];
      reply = accepted 2 1 0;
      results =
          rec 1 1 0 0 0 0 0 0  -- 0: u8
          ∷ rec 41 0 N1 0 0 0 140 5  -- 1: constant N1: not stored, type 0
          ∷ [];
      diagnostics =
          rec 50 5 N1 0 0 2 120 3  -- 0: message 5, N1
          ∷ [];
      says = without_value N1 ∷ one_message 5 N1 120 3 ∷ [];
    }

-- "K3 UInt 9223372036854775808: -9223372036854775808"
abbrev pub k3 : Known
k3 =
    record {
      wildcards = false;
      book =
          rec 10 1 0 0 0 9223372036854775808 100 1  -- 0: UInt 9223372036854775808
          ∷ rec 1 1 0 0 0 0 110 2  -- 1: u8
          ∷ rec 24 0 N1 1 0 0 120 3  -- 2: constant N1: type 1, expression 0
          ∷ [];
      reply = accepted 2 0 1;
      results =
          rec 1 1 0 0 0 0 0 0  -- 0: u8
          ∷ rec 41 1 N1 0 0 9223372036854775808 120 3  -- 1: constant N1: stored, type 0
          ∷ [];
      diagnostics = [];
      says = stored N1 (minus 9223372036854775808) ∷ no_message ∷ [];
    }

-- "K4 -9223372036854775808 ÷ -1: none"; "reached without a value gives message 5"
abbrev pub k4 : Known
k4 =
    record {
      wildcards = false;
      book =
          rec 10 0 0 0 0 9223372036854775808 100 1  -- 0: Int -9223372036854775808
          ∷ rec 10 0 0 0 0 18446744073709551615 110 2  -- 1: Int -1
          ∷ rec 12 3 0 1 0 0 120 3  -- 2: Div: record 0, record 1
          ∷ rec 1 1 0 0 0 0 130 4  -- 3: u8
          ∷ rec 24 0 N1 3 2 0 140 5  -- 4: constant N1: type 3, expression 2
          ∷ [];
      reply = accepted 2 1 0;
      results =
          rec 1 1 0 0 0 0 0 0  -- 0: u8
          ∷ rec 41 0 N1 0 0 0 140 5  -- 1: constant N1: not stored, type 0
          ∷ [];
      diagnostics =
          rec 50 5 N1 0 0 2 120 3  -- 0: message 5, N1
          ∷ [];
      says = without_value N1 ∷ one_message 5 N1 120 3 ∷ [];
    }

-- "K5 -7 ÷ 2: -3"
abbrev pub k5 : Known
k5 =
    record {
      wildcards = false;
      book =
          rec 10 0 0 0 0 18446744073709551609 100 1  -- 0: Int -7
          ∷ rec 10 0 0 0 0 2 110 2  -- 1: Int 2
          ∷ rec 12 3 0 1 0 0 120 3  -- 2: Div: record 0, record 1
          ∷ rec 1 1 0 0 0 0 130 4  -- 3: u8
          ∷ rec 24 0 N1 3 2 0 140 5  -- 4: constant N1: type 3, expression 2
          ∷ [];
      reply = accepted 2 0 1;
      results =
          rec 1 1 0 0 0 0 0 0  -- 0: u8
          ∷ rec 41 1 N1 0 0 18446744073709551613 140 5  -- 1: constant N1: stored, type 0
          ∷ [];
      diagnostics = [];
      says = stored N1 (minus 3) ∷ no_message ∷ [];
    }

-- "K6 N1 = 3, N2 = N1 × N1: N2 silent"
abbrev pub k6 : Known
k6 =
    record {
      wildcards = false;
      book =
          rec 10 0 0 0 0 3 100 1  -- 0: Int 3
          ∷ rec 1 1 0 0 0 0 110 2  -- 1: u8
          ∷ rec 24 0 N1 1 0 0 120 3  -- 2: constant N1: type 1, expression 0
          ∷ rec 11 0 N1 0 0 0 130 4  -- 3: reference to N1
          ∷ rec 11 0 N1 0 0 0 140 5  -- 4: reference to N1
          ∷ rec 12 2 3 4 0 0 150 6  -- 5: Mul: record 3, record 4
          ∷ rec 1 1 0 0 0 0 160 7  -- 6: u8
          ∷ rec 24 0 N2 6 5 0 170 8  -- 7: constant N2: type 6, expression 5
          ∷ [];
      reply = accepted 2 0 1;
      results =
          rec 1 1 0 0 0 0 0 0  -- 0: u8
          ∷ rec 41 1 N1 0 0 3 120 3  -- 1: constant N1: stored, type 0
          ∷ [];
      diagnostics = [];
      says = stored N1 (pos 3) ∷ silent N2 ∷ [];
    }

-- "K7 N1 = N2, N2 = N1: both silent"
abbrev pub k7 : Known
k7 =
    record {
      wildcards = false;
      book =
          rec 11 0 N2 0 0 0 100 1  -- 0: reference to N2
          ∷ rec 1 1 0 0 0 0 110 2  -- 1: u8
          ∷ rec 24 0 N1 1 0 0 120 3  -- 2: constant N1: type 1, expression 0
          ∷ rec 11 0 N1 0 0 0 130 4  -- 3: reference to N1
          ∷ rec 1 1 0 0 0 0 140 5  -- 4: u8
          ∷ rec 24 0 N2 4 3 0 150 6  -- 5: constant N2: type 4, expression 3
          ∷ [];
      reply = accepted 0 0 0;
      results = [];
      diagnostics = [];
      says = silent N1 ∷ silent N2 ∷ [];
    }

-- "K8 u16 zigzag in a delta message: delta over varint"
abbrev pub k8 : Known
k8 =
    record {
      wildcards = false;
      book =
          rec 20 0 N1 0 0 0 100 1  -- 0: message N1
          ∷ rec 34 2 0 0 0 0 110 2  -- 1: its delta
          ∷ rec 1 2 0 0 0 0 120 3  -- 2: u16
          ∷ rec 31 0 N2 2 none 2 130 4  -- 3: field N2: type 2, no constraint, ordinal 2
          ∷ rec 34 1 0 0 0 0 140 5  -- 4: its zigzag
          ∷ [];
      reply = accepted 4 0 0;
      results =
          rec 42 0 N1 0 0 0 100 1  -- 0: message N1
          ∷ rec 1 2 0 0 0 0 0 0  -- 1: u16
          ∷ rec 45 0 N2 1 none 2 130 4  -- 2: field N2: type 1, no constraint, ordinal 2
          ∷ rec 46 1 1 0 0 0 0 0  -- 3: its encoding: delta over varint
          ∷ [];
      diagnostics = [];
      says = delta_over N2 varint ∷ [];
    }

-- "K9 limit("s"), limit(key 5), limit(7, 9): 7"; in the second, 5 is both the key's name and the value
abbrev pub k9 : Known
k9 =
    record {
      wildcards = false;
      book =
          rec 20 0 N1 0 0 0 100 1  -- 0: message N1
          ∷ rec 1 2 0 0 0 0 110 2  -- 1: u16
          ∷ rec 31 0 N2 1 none 2 120 3  -- 2: field N2: type 1, no constraint, ordinal 2
          ∷ rec 34 3 0 0 0 0 130 4  -- 3: limit
          ∷ rec 35 2 none 0 0 0 140 5  -- 4: other, without key
          ∷ rec 34 3 0 0 0 0 150 6  -- 5: limit
          ∷ rec 35 0 5 0 0 5 160 7  -- 6: Int 5, key 5
          ∷ rec 34 3 0 0 0 0 170 8  -- 7: limit
          ∷ rec 35 0 none 0 0 7 180 9  -- 8: Int 7, without key
          ∷ rec 35 0 none 0 0 9 190 1  -- 9: Int 9, without key
          ∷ [];
      reply = accepted 4 0 0;
      results =
          rec 42 0 N1 0 0 0 100 1  -- 0: message N1
          ∷ rec 1 2 0 0 0 0 0 0  -- 1: u16
          ∷ rec 45 0 N2 1 none 2 120 3  -- 2: field N2: type 1, no constraint, ordinal 2
          ∷ rec 46 0 0 1 0 7 0 0  -- 3: its encoding: default, limit 7
          ∷ [];
      diagnostics = [];
      says = limited N2 7 ∷ [];
    }

-- "K10 Outer<T> = Inner<T>, Inner<U> = array of U; Outer of u8: array of poison, message 1 naming T"; "no wildcards, T
-- and U undeclared". The message has the span of the U in whose place T is resolved: "an argument as a whole [takes]
-- that of the parameter it replaces".
abbrev pub k10 : Known
k10 =
    record {
      wildcards = false;
      book =
          rec 4 0 T 0 0 0 100 1  -- 0: T
          ∷ rec 6 0 Inner 0 0 0 110 2  -- 1: Inner of record 0
          ∷ rec 23 0 Outer 1 0 0 120 3  -- 2: alias Outer: record 1
          ∷ rec 30 0 T 0 0 0 130 4  -- 3: its parameter T
          ∷ rec 4 0 U 0 0 0 140 5  -- 4: U
          ∷ rec 7 1 4 0 0 0 150 6  -- 5: array of record 4
          ∷ rec 23 0 Inner 5 0 0 160 7  -- 6: alias Inner: record 5
          ∷ rec 30 0 U 0 0 0 170 8  -- 7: its parameter U
          ∷ rec 1 1 0 0 0 0 180 9  -- 8: u8
          ∷ rec 6 0 Outer 8 0 0 190 1  -- 9: Outer of record 8
          ∷ rec 22 0 N3 9 0 0 200 2  -- 10: newtype N3: record 9
          ∷ [];
      reply = accepted 3 1 0;
      results =
          rec 4 0 0 0 0 4294967295 0 0  -- 0: poison
          ∷ rec 7 1 0 0 0 0 0 0  -- 1: array of record 0
          ∷ rec 48 0 N3 1 0 0 200 2  -- 2: newtype N3: type 1
          ∷ [];
      diagnostics =
          rec 50 1 T 0 0 0 140 5  -- 0: message 1, T
          ∷ [];
      says = newtype_over N3 (array_of poison) ∷ one_message 1 T 140 5 ∷ [];
    }

-- "K11 Pair<T, U> = map of T, U; Pair of u8: map of u8, poison"; "no wildcards, T and U undeclared". "Only the first
-- parameter is replaced", so U is an unknown name.
abbrev pub k11 : Known
k11 =
    record {
      wildcards = false;
      book =
          rec 4 0 T 0 0 0 100 1  -- 0: T
          ∷ rec 4 0 U 0 0 0 110 2  -- 1: U
          ∷ rec 8 0 0 1 0 0 120 3  -- 2: map of record 0, record 1
          ∷ rec 23 0 Pair 2 0 0 130 4  -- 3: alias Pair: record 2
          ∷ rec 30 0 T 0 0 0 140 5  -- 4: its parameter T
          ∷ rec 30 0 U 0 0 0 150 6  -- 5: its parameter U
          ∷ rec 1 1 0 0 0 0 160 7  -- 6: u8
          ∷ rec 6 0 Pair 6 0 0 170 8  -- 7: Pair of record 6
          ∷ rec 22 0 N2 7 0 0 180 9  -- 8: newtype N2: record 7
          ∷ [];
      reply = accepted 4 1 0;
      results =
          rec 1 1 0 0 0 0 0 0  -- 0: u8
          ∷ rec 4 0 0 0 0 4294967295 0 0  -- 1: poison
          ∷ rec 8 0 0 1 0 0 0 0  -- 2: map of record 0, record 1
          ∷ rec 48 0 N2 2 0 0 180 9  -- 3: newtype N2: type 2
          ∷ [];
      diagnostics =
          rec 50 1 U 0 0 0 110 2  -- 0: message 1, U
          ∷ [];
      says = newtype_over N2 (map_of u8 poison) ∷ one_message 1 U 110 2 ∷ [];
    }

-- "K12 bare generic alias: its number, no diagnostic"; the newtype has number 0, "then generic aliases"
abbrev pub k12 : Known
k12 =
    record {
      wildcards = false;
      book =
          rec 4 0 T 0 0 0 100 1  -- 0: T
          ∷ rec 23 0 N1 0 0 0 110 2  -- 1: alias N1: record 0
          ∷ rec 30 0 T 0 0 0 120 3  -- 2: its parameter T
          ∷ rec 4 0 N1 0 0 0 130 4  -- 3: N1
          ∷ rec 22 0 N2 3 0 0 140 5  -- 4: newtype N2: record 3
          ∷ [];
      reply = accepted 2 0 0;
      results =
          rec 4 0 0 0 0 1 0 0  -- 0: type number 1
          ∷ rec 48 0 N2 0 0 0 140 5  -- 1: newtype N2: type 0
          ∷ [];
      diagnostics = [];
      says = newtype_over N2 (number 1) ∷ no_message ∷ [];
    }

-- the list
abbrev pub known : List Known
known = k1 ∷ k2 ∷ k3 ∷ k4 ∷ k5 ∷ k6 ∷ k7 ∷ k8 ∷ k9 ∷ k10 ∷ k11 ∷ k12 ∷ []

-- K1 to K12 together, as one list. The proof is in proofs/Known.antt.
abbrev pub KnownAnswers : Type 0
KnownAnswers = All Answered known
