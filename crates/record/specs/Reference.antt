-- References that may be missing: the number that stands for none.
-- Assumes nothing.
use Rattle.std.specs.Prelude.{ℕ, ◌==◌, if◌then◌else◌, Option, Some, None}

-- the reference that a number stands for, if it stands for one
abbrev pub reference : ℕ → Option ℕ
reference number = if number == 65535 then None else Some number

-- the number that stands for a reference, or for none
abbrev pub reference_number : Option ℕ → ℕ
reference_number None = 65535
reference_number (Some number) = number
