-- What a type that is resolved has written; the proofs are in proofs/Rooting.antt.
-- Assumes nothing.
use Rattle.std.specs.Prelude.{◌≡◌, ℕ, ◌+◌, ◌++◌, length}
use Rattle.record.specs.declared.Span.{Span}
use Rattle.book.specs.Outline.{Book}
use Rattle.types.specs.Lowering.{Limits, State, finished, run}
use Rattle.types.specs.Resolved.{Names}
use Rattle.types.specs.Step.{Resolved}
use Rattle.types.specs.Records.{below, type_records, StandsAt}
use Rattle.types.specs.Resolve.{resolve_type_expr}

-- from one state to another, a type's records are written, its root last
pub record Rooted (s : State) (t : Resolved) (s' : State) : Type 0 where
  pub results_are : s'.results ≡ s.results ++ type_records (length s.results) t.type
  pub root_is : t.root ≡ length s.results + below t.type

-- whatever has resolved a type has written its records and no others, under any limits and in any number of steps
abbrev pub ResolvedIsWritten : Type 0
ResolvedIsWritten =
    (most : Limits) (left : ℕ) (book : Book) (n : ℕ) (span : Span) (k : Names) (s : State) (t : Resolved) (k' : Names)
    (s' : State) → run most (resolve_type_expr left book n span k) s ≡ finished (t, k') s' → Rooted s t s'

-- and then its records stand in one row up to its root, the first of them where the results ended before
abbrev pub ResolvedStands : Type 0
ResolvedStands =
    (most : Limits) (left : ℕ) (book : Book) (n : ℕ) (span : Span) (k : Names) (s : State) (t : Resolved) (k' : Names)
    (s' : State) → run most (resolve_type_expr left book n span k) s ≡ finished (t, k') s' →
    StandsAt s'.results (length s.results) t.root t.type
