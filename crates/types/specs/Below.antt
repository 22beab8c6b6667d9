-- The names that the tables by name have an entry for: those of declarations, of ambiguous names, and of types that are
-- names. No other name is ever given a number or an alias.
-- Assumes nothing.
use Rattle.std.specs.Prelude.{ℕ, ◌≤◌, ◌<◌, Bool, not, ◌&&◌, ◌||◌, List, ◌≡◌, leb, eqb}
use Rattle.record.specs.declared.Record.{Record}
use Rattle.book.specs.Lists.{any}
use Rattle.book.specs.Blocks.{record_count, records}
use Rattle.book.specs.Faults.{record_of}

-- a kind with such a name
abbrev pub is_entered : ℕ → Bool
is_entered kind = eqb kind 4 || leb 20 kind && leb kind 25

-- the names of some records are below n, where they are such ones
unfoldable pub names_below : ℕ → List Record → Bool
names_below n rs = not (any (λ r. is_entered r.kind && leb n r.a) rs)

-- and those of a book, by the kinds of its records
pub record NamesBelow (bytes : List ℕ) (n : ℕ) : Type 0 where
  pub uses : (m : ℕ) → m < record_count bytes → (record_of (records bytes) m).kind ≡ 4 → (record_of (records bytes) m).a < n
  pub declarations :
      (m : ℕ) → m < record_count bytes → 20 ≤ (record_of (records bytes) m).kind → (record_of (records bytes) m).kind ≤ 25 →
      (record_of (records bytes) m).a < n
