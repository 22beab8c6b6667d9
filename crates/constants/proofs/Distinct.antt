-- A name is declared by one constant in the records of an accepted book: a second one would be refused by cause 7.
-- Assumes nothing.
use mathlib.Core.Path.{◌≡◌, refl, sym, ap, ◌∙◌}
use native.Mathlib.Omega.{arith}
use Rattle.record.specs.declared.Record.{Record}
use Rattle.book.specs.Faults.{name_set}
use Rattle.book.specs.Outline.{Book, read, ◌!◌}
use Rattle.book.specs.Trees.{WellFormed}
use Rattle.book.proofs.Declares.{declared_once}
use Rattle.book.proofs.Accepted.{accepted_is_readable}
use Rattle.constants.specs.Theory.{Distinct}
use Rattle.constants.specs.OfBook.{constant_at, constants}
use Rattle.constants.specs.SameTrees.{AcceptedIsDistinct}
use Rattle.constants.proofs.Declared.{declared_at}

pub set_of_constants : (r : Record) → r.kind ≡ 24 → name_set r ≡ 2
unfolding name_set
set_of_constants r e = rw (e, name_set) refl

-- in well-formed records
pub distinct : (book : Book) → WellFormed book.records → Distinct (constants book)
unfolding constant_at
distinct book sound c d m n same =
    let (at_c, less, is) = declared_at book m in
    let (at_d, less', is') = declared_at book n in
    let names = ap (λ c. c.name) (sym at_c) ∙ same ∙ ap (λ c. c.name) at_d in
    let set = set_of_constants (book ! c.place) is in
    let set' = set_of_constants (book ! d.place) is' in
    let places = declared_once book.records sound c.place d.place less less' (omega (arith, set')) (set ∙ sym set') names in
    at_c ∙ ap (constant_at book) places ∙ sym at_d

pub accepted_is_distinct : AcceptedIsDistinct
unfolding read
accepted_is_distinct book e = distinct (read book) (accepted_is_readable book e).well_formed
