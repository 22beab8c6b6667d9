-- The totals of a list.
-- Assumes nothing.
use Rattle.std.specs.Prelude.{ℕ, ◌≡◌, ◌+◌, not, is_some, is_none, List, [], ◌∷◌, ◌++◌, codes, decimal}
use Rattle.std.specs.Option.{option_map_or}
use Rattle.lower.specs.declared.Counts.{Counts}
use Rattle.replay.specs.Bytes.{bit}
use Rattle.replay.specs.declared.answer.Finding.{Finding}
use Rattle.replay.specs.declared.totals.Totals.{Totals}

-- one of the counts of an answer's book; one that is refused counts nothing
abbrev pub count_of : (Counts → ℕ) → Finding → ℕ
count_of count f = option_map_or count f.counts 0

-- one answer more
pub record CountsOne (old : Totals) (f : Finding) (new : Totals) : Type 0 where
  pub answers : new.answers ≡ old.answers + 1
  pub accepted : new.accepted ≡ old.accepted + bit (is_some f.counts)
  pub refused : new.refused ≡ old.refused + bit (is_none f.counts)
  pub results : new.results ≡ old.results + count_of (λ c. c.results) f
  pub diagnostics : new.diagnostics ≡ old.diagnostics + count_of (λ c. c.diagnostics) f
  pub constants : new.constants ≡ old.constants + count_of (λ c. c.constants) f
  pub wrong : new.wrong ≡ old.wrong + bit (not f.right)

-- one of the totals as it is printed: its name, a space, the number and the end of the line; and what comes behind it
abbrev pub line : List ℕ → ℕ → List ℕ → List ℕ
line name n rest = name ++ (decimal n ++ (10 ∷ rest))

-- the totals as they are printed, a line each
abbrev pub lines_of : Totals → List ℕ
lines_of t =
    line (codes "answers ") t.answers
    (line (codes "accepted ") t.accepted
    (line (codes "refused ") t.refused
    (line (codes "results ") t.results
    (line (codes "diagnostics ") t.diagnostics
    (line (codes "constants ") t.constants
    (line (codes "wrong ") t.wrong []))))))
