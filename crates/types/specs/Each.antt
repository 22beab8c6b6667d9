-- A step of the code for each of some records, one after the other.
-- Assumes nothing.
use Rattle.std.specs.Prelude.{ℕ, List, [], ◌∷◌}
use Rattle.types.specs.Code.{State, Outcome, done, next}

-- a is what is answered where none is left
unfoldable pub each : {A : Type 0} → A → (ℕ → State → Outcome A) → List ℕ → State → Outcome A
each a f [] s = done a s
each a f (n ∷ ns) s = next (f n s) (λ b t. each a f ns t)
