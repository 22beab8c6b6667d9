-- The code lowers constants and bodies as the definitions say; the proofs are in proofs/Agreeing.antt.
-- Assumes nothing.
use Rattle.std.specs.Prelude.{List, map}
use Rattle.book.specs.Outline.{Book, numbers_of}
use Rattle.book.specs.Noted.{is_outside}
use Rattle.book.specs.Trees.{WellFormed}
use Rattle.constants.specs.Order.{Settled}
use Rattle.constants.specs.Given.{told}
use Rattle.types.specs.Step.{◌>>◌}
use Rattle.types.specs.Stands.{Refines, Always}
use Rattle.types.specs.Code.{next}
use Rattle.bodies.specs.Constant.{lower_constants}
use Rattle.bodies.specs.Bodies.{lower_bodies}
use Rattle.bodies.specs.Code as code

-- reached constants, in any book
abbrev pub ConstantsAsDefined : Type 0
ConstantsAsDefined =
    (book : Book) (cs : List Settled) →
    Refines book Always (λ c. code.lower_constants (map told cs) c) (lower_constants book cs)

-- bodies, in a book that is accepted
abbrev pub BodiesAsDefined : Type 0
BodiesAsDefined =
    (book : Book) → WellFormed book.records →
    Refines book Always (λ c. code.lower_bodies (numbers_of is_outside book) c) (lower_bodies book)

-- constants, and then bodies, in a book that is accepted
abbrev pub LowersAsDefined : Type 0
LowersAsDefined =
    (book : Book) → WellFormed book.records → (cs : List Settled) →
    Refines book Always
    (λ c. next (code.lower_constants (map told cs) c) (λ u t. code.lower_bodies (numbers_of is_outside book) t))
    (lower_constants book cs >> lower_bodies book)
