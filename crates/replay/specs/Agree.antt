-- The numbers of a header against each other, and against the lengths of what stands behind it.
-- Assumes nothing.
use Rattle.std.specs.Prelude.{ℕ, ◌*◌, ◌/◌, ◌%◌, min, Bool, cond, not, ◌&&◌, ◌||◌, Option, Some, None, is_none, leb, ltb, eqb}
use Rattle.record.specs.Refused.{number_of}
use Rattle.record.specs.declared.refusal.Cause.{Cause}
use Rattle.replay.specs.declared.layout.Header.{Header}
use Rattle.replay.specs.declared.layout.Part.{Part}

-- bytes up to a slice's used limit: `most` records, "or as many whole records as a shorter slice holds"
abbrev pub used_limit : ℕ → ℕ → ℕ
used_limit most bytes = 24 * min most (bytes / 24)

-- bytes of a slice that change: those of the records written if the book is accepted; none at causes 1 to 8; all up to
-- the limit at 9 and 10
unfoldable pub changes : Option Cause → ℕ → Part → ℕ
changes None most p = 24 * p.count
changes (Some cause) most p = cond (ltb (number_of cause) 9) 0 (used_limit most p.lent)

-- bytes of a slice that follow the book: those that changed if it is accepted, else none
unfoldable pub follows : Option Cause → Part → ℕ
follows None p = p.changed
follows (Some cause) p = 0

-- a refusal counts nothing
abbrev pub counts : Header → Bool
counts h =
    is_none h.cause || eqb h.results.count 0 && eqb h.diagnostics.count 0 && eqb h.constants 0

unfoldable pub agrees : Header → Bool
agrees h =
    counts h
    && eqb h.results.changed (changes h.cause 2048 h.results)
    && eqb h.diagnostics.changed (changes h.cause 256 h.diagnostics)

-- blocks of a book of n bytes; a book has at most 64
abbrev pub blocks_in : ℕ → ℕ
blocks_in n = min 64 (n / 512)

-- a length that cause 1 does not refuse: a multiple of 512 from 512 to 32,768
abbrev pub right_length : ℕ → Bool
right_length n = leb 512 n && leb n 32768 && eqb (n % 512) 0

-- places are below this: none to name if accepted or at cause 1; blocks at 2 and 3; records at the others
unfoldable pub places_in : Option Cause → ℕ → ℕ
places_in None n = 1
places_in (Some cause) n = cond (ltb (number_of cause) 2) 1 (cond (ltb (number_of cause) 4) n (21 * n))

-- a book of n bytes has the right length, if it is not cause 1 that turns it back, and else a wrong one
abbrev pub length_suits : Option Cause → ℕ → Bool
length_suits None n = right_length n
length_suits (Some cause) n = cond (eqb (number_of cause) 1) (not (right_length n)) (right_length n)

-- the length of the book is wrong at cause 1 and at no other, and the place is one of the book
unfoldable pub suits : Header → ℕ → Bool
suits h n = length_suits h.cause n && ltb h.place (places_in h.cause (blocks_in n))
