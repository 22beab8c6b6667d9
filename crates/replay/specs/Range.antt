-- The range of each number of a header. A list whose headers are within it can be read to its end.
-- Assumes nothing.
use Rattle.std.specs.Prelude.{ℕ, Bool, ◌&&◌, List, leb, ltb, take}
use Rattle.replay.specs.Bytes.{is_name}
use Rattle.replay.specs.Layout.{number_at, header_of}
use Rattle.replay.specs.declared.layout.Header.{Header}
use Rattle.replay.specs.declared.layout.Part.{Part}

-- at most `bytes` are lent, with at most `most` records; what changed lies within
abbrev pub part_in_range : ℕ → ℕ → Part → Bool
part_in_range bytes most p = leb p.lent bytes && leb p.count most && leb p.changed p.lent

-- at most 65 blocks, places below 1,344, no more constants than results
unfoldable pub in_range : Header → Bool
in_range h =
    leb h.book 33280
    && ltb h.place 1344
    && leb h.constants h.results.count
    && part_in_range 49200 2048 h.results
    && part_in_range 6192 256 h.diagnostics

-- the 64 bytes of a header: a name, causes to 10, and the other numbers in range
unfoldable pub well_formed : List ℕ → Bool
well_formed s = is_name (take 24 s) && leb (number_at s 36) 10 && in_range (header_of s)
