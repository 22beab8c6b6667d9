-- Values by name and reached constants, as the code keeps them.
-- Assumes nothing.
use Rattle.std.specs.Prelude.{ℕ, ◌<◌, ◌≡◌, List, [], ◌∷◌, ◌++◌, cond, ltb, length, get_or, set, ℤ, Option as Answer, Some, None}
use Rattle.std.proofs.Math.Option.{Option, some, none}
use Rattle.arith.specs.Checked.{answer}
use Rattle.book.specs.Outline.{Book, ◌!◌}
use Rattle.constants.specs.Eval.{Table}
use Rattle.constants.specs.Order as settling
use Rattle.constants.specs.declared.reached.Settled.{Settled}

-- the values of names, by name; a name past the end has none
unfoldable pub table_in : List (Answer ℤ) → Table
table_in values n = answer (get_or values n None)

-- a value or none, as the code answers it
abbrev pub answered : Option ℤ → Answer ℤ
answered (some z) = Some z
answered none = None

-- one more of at most so many
unfoldable pub pushed : {A : Type 0} → ℕ → List A → A → List A
pushed most l x = cond (ltb (length l) most) (l ++ (x ∷ [])) l

-- what is left of a constant that is settled
abbrev pub told : settling.Settled → Settled
told x = record { place = x.constant.place; value = answered x.value }

-- a value is stored under its name, none changes nothing
abbrev pub stored : ℕ → Answer ℤ → List (Answer ℤ) → List (Answer ℤ)
stored name (Some z) values = set values name (Some z)
stored name None values = values

-- the values behind some that were settled, one after the other
unfoldable pub stored_behind : List settling.Settled → List (Answer ℤ) → List (Answer ℤ)
stored_behind [] values = values
stored_behind (x ∷ xs) values = stored_behind xs (stored x.constant.name (answered x.value) values)

-- the names of a book's constants are below a number
abbrev pub NamesIn : Book → ℕ → Type 0
NamesIn book most = (n : ℕ) → n < length book.records → (book ! n).kind ≡ 24 → (book ! n).a < most
