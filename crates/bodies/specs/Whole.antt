-- 64 levels are the whole tree of a constraint; the proof is in proofs/Whole.antt.
-- Assumes nothing.
use Rattle.std.specs.Prelude.{ℕ, ◌+◌, ◌<◌, true, ◌⊎◌, ◌≡◌, length}
use Rattle.book.specs.Shape.{constraint, operand, is_of}
use Rattle.book.specs.Outline.{Book, ◌!◌}
use Rattle.book.specs.Trees.{WellFormed}
use Rattle.types.specs.Resolved.{Names}
use Rattle.bodies.specs.Constraint.{lower_where_expr}

-- more levels give the same lowering, in the records of an accepted book
abbrev pub WholeConstraints : Type 0
WholeConstraints =
    (book : Book) → WellFormed book.records →
    (n : ℕ) → n < length book.records → (is_of constraint (book ! n) ≡ true) ⊎ (is_of operand (book ! n) ≡ true) →
    (more : ℕ) (s : Names) → lower_where_expr (64 + more) book n s ≡ lower_where_expr 64 book n s
