-- The slices as they are lent to the lowering of a book: filled with a pattern that shows each change.
-- Assumes nothing.
use Rattle.std.specs.Prelude.{ℕ, ◌+◌, ◌*◌, ◌%◌, min, List, map}
use Rattle.book.specs.Lists.{up_to}
use Rattle.replay.specs.declared.layout.Header.{Header}

-- byte i of a slice as lent
abbrev pub lent_byte : ℕ → ℕ → ℕ → ℕ
lent_byte step first i = (step * i + first) % 256

-- a slice of n bytes as lent
unfoldable pub patterned : ℕ → ℕ → ℕ → List ℕ
patterned n step first = map (lent_byte step first) (up_to n)

-- the result slice as lent for an answer; a header in range asks for at most 49,200 bytes
abbrev pub lent_results : Header → List ℕ
lent_results h = patterned (min h.results.lent 49200) 5 17

-- its diagnostics slice as lent, for which it asks for at most 6,192
abbrev pub lent_diagnostics : Header → List ℕ
lent_diagnostics h = patterned (min h.diagnostics.lent 6192) 3 29
