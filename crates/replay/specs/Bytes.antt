-- Bytes of a list of answers: names, counts.
-- Assumes nothing.
use Rattle.std.specs.Prelude.{ℕ, Bool, true, false, ◌&&◌, List, ◌==◌, ltb, drop, length, take_while}
use Rattle.std.specs.List.{list_all}
use Rattle.std.specs.Char.{is_ascii_graphic}

-- every byte is zero
abbrev pub zeros : List ℕ → Bool
zeros s = list_all (λ b. b == 0) s

-- how many printable ASCII characters that are no space, 0x21 to 0x7e, stand at the front of s
abbrev pub printed : List ℕ → ℕ
printed s = length (take_while is_ascii_graphic s)

-- a name: one or more of them, padded with zero bytes
unfoldable pub is_name : List ℕ → Bool
is_name s = ltb 0 (printed s) && zeros (drop (printed s) s)

-- 1 for true, 0 for false
abbrev pub bit : Bool → ℕ
bit true = 1
bit false = 0
