-- The causes for which a book is turned back, by their numbers.
-- Assumes nothing.
use Rattle.std.specs.Prelude.{ℕ, ◌==◌, if◌then◌else◌, ◌≡◌, List, ◌++◌, codes, decimal, Result, Ok, Err}
use Rattle.record.specs.declared.refusal.Cause.{Cause}
use Rattle.record.specs.declared.refusal.Refusal.{Refusal}
use Rattle.record.specs.declared.refusal.UnknownCause.{UnknownCause}
use Rattle.record.specs.declared.refusal.Cause.TheVariants.{BookLength, Check, Block, Shape, Child, Follow, Name, Depth, TooDeep, Full}

-- the number of a cause
abbrev pub number_of : Cause → ℕ
number_of BookLength = 1
number_of Check = 2
number_of Block = 3
number_of Shape = 4
number_of Child = 5
number_of Follow = 6
number_of Name = 7
number_of Depth = 8
number_of TooDeep = 9
number_of Full = 10

-- the cause that a number stands for
unfoldable pub cause_from : ℕ → Result Cause UnknownCause
cause_from number =
    if number == 1 then Ok BookLength else
    (if number == 2 then Ok Check else
    (if number == 3 then Ok Block else
    (if number == 4 then Ok Shape else
    (if number == 5 then Ok Child else
    (if number == 6 then Ok Follow else
    (if number == 7 then Ok Name else
    (if number == 8 then Ok Depth else
    (if number == 9 then Ok TooDeep else
    (if number == 10 then Ok Full else
    Err (record { 0 = number }))))))))))

-- what reading a number as a cause gives
abbrev pub DecodesCause : ℕ → Result Cause UnknownCause → Type 0
DecodesCause number r = r ≡ cause_from number

-- a refusal as text
abbrev pub refusal_line : Refusal → List ℕ
refusal_line refusal =
    codes "turned back by cause " ++ (decimal (number_of refusal.cause) ++ (codes " at " ++ decimal refusal.place))
