-- 64 levels are the whole tree of an expression; the proof is in proofs/Whole.antt.
-- Assumes nothing.
use Rattle.std.specs.Prelude.{ℕ, ◌+◌, ◌<◌, true, List, ◌≡◌, length}
use Rattle.record.specs.declared.Record.{Record}
use Rattle.book.specs.Shape.{constant, is_of}
use Rattle.book.specs.Faults.{record_of}
use Rattle.book.specs.Trees.{WellFormed}
use Rattle.constants.specs.Expr.{expr_at}

-- more levels give the same expression, in the records of an accepted book
abbrev pub WholeExpressions : Type 0
WholeExpressions =
    (rs : List Record) → WellFormed rs →
    (n : ℕ) → n < length rs → is_of constant (record_of rs n) ≡ true → (more : ℕ) → expr_at (64 + more) rs n ≡ expr_at 64 rs n
