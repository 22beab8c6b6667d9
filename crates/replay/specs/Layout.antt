-- The list of answers. Its numbers have four bytes, least significant first.
-- It starts with a head of 16 bytes: the line "answers", the number of answers, zero. Then come the answers, and then
-- the end of the input. An answer is a header of 64 bytes, the bytes of the book, and, if the book is accepted, the
-- bytes of the results and of the diagnostics that were written. In the header the name comes first, 24 bytes padded
-- with zeros, and then ten numbers: 24 length of the book; 28 and 32 lengths of the two slices as lent; 36 cause, 0 for
-- accepted; 40 place; 44 results; 48 diagnostics; 52 stored constants; 56 and 60 how many bytes at the front of the
-- result and the diagnostics slice changed.
-- Assumes nothing.
use Rattle.std.specs.Prelude.{ℕ, Bool, ◌&&◌, List, [], ◌∷◌, Option, eqb, drop, nat_eq}
use Rattle.std.specs.List.{starts_with}
use Rattle.std.specs.Result.{result_ok}
use Rattle.record.specs.Bytes.{little_endian}
use Rattle.record.specs.Refused.{cause_from}
use Rattle.record.specs.declared.refusal.Cause.{Cause}
use Rattle.replay.specs.declared.layout.Header.{Header}

-- the number that stands at a place
abbrev pub number_at : List ℕ → ℕ → ℕ
number_at s at = little_endian 4 (drop at s)

-- the line "answers"
abbrev pub answers_line : List ℕ
answers_line = 97 ∷ 110 ∷ 115 ∷ 119 ∷ 101 ∷ 114 ∷ 115 ∷ 10 ∷ []

-- the head; the number of answers stands at 8
unfoldable pub is_head : List ℕ → Bool
is_head s = starts_with nat_eq s answers_line && eqb (number_at s 12) 0

-- the cause that a number stands for: none for 0, which stands for accepted, and for what is no cause's number
abbrev pub cause_numbered : ℕ → Option Cause
cause_numbered n = result_ok (cause_from n)

-- the ten numbers behind the name
unfoldable pub header_of : List ℕ → Header
header_of s =
    record {
      book = number_at s 24;
      cause = cause_numbered (number_at s 36);
      place = number_at s 40;
      constants = number_at s 52;
      results = record { lent = number_at s 28; count = number_at s 44; changed = number_at s 56 };
      diagnostics = record { lent = number_at s 32; count = number_at s 48; changed = number_at s 60 };
    }
