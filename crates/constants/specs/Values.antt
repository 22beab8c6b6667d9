-- Values of constants are i64s; the proof is in proofs/Values.antt.
-- Assumes nothing.
use Rattle.std.specs.Prelude.{ℕ, List, ℤ, ◌≤ℤ◌}
use Rattle.std.proofs.Math.Option.{Option, some, none}
use Rattle.record.specs.Bytes.{AreBytes}
use Rattle.arith.specs.Word.{MIN, MAX}
use Rattle.book.specs.Lists.{All}
use Rattle.book.specs.Outline.{read}
use Rattle.constants.specs.OfBook.{settled}

-- a value, if there is one, is an i64
abbrev pub IsI64 : Option ℤ → Type 0
IsI64 none = Unit
IsI64 (some z) = (MIN ≤ℤ z) × (z ≤ℤ MAX)

-- every value of a book's constants is, for every book of bytes
abbrev pub SettledAreI64 : Type 0
SettledAreI64 = (book : List ℕ) → AreBytes book → All (λ x. IsI64 x.value) (settled (read book))
