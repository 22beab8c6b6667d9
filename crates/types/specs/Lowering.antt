-- What a lowering does, one thing after the other, and how far it comes under limits. Words in quotation marks are
-- rules of docs/FORMAT.md in brief.
-- Assumes nothing.
use Rattle.std.specs.Prelude.{ℕ, true, false, List, [], ◌∷◌, ◌++◌, ltb, length}
use Rattle.record.specs.declared.Record.{Record}
use Rattle.record.specs.Write.{room_for}

-- A lowering that gives an A, with no word on limits.
pub data Lowering (A : Type 0) : Type 0 where
  done : A → Lowering A
  -- from here on this declaration or item is "being lowered"
  lowering : ℕ → Lowering A → Lowering A
  -- a step of resolving at a depth: "the start is 1"
  resolving : ℕ → Lowering A → Lowering A
  -- one more diagnostic record
  diagnostic : Record → Lowering A → Lowering A
  -- one more result record, and on with its number
  result : Record → (ℕ → Lowering A) → Lowering A

-- one lowering after the other
unfoldable pub and_then : {A B : Type 0} → Lowering A → (A → Lowering B) → Lowering B
and_then (done a) f = f a
and_then (lowering p t) f = lowering p (and_then t f)
and_then (resolving d t) f = resolving d (and_then t f)
and_then (diagnostic r t) f = diagnostic r (and_then t f)
and_then (result r k) f = result r (λ n. and_then (k n) f)

-- "Used limits", in records
pub record Limits : Type 0 where
  pub results : ℕ
  pub diagnostics : ℕ

-- "Used limits: result 49,152 bytes and 2,048 records, diagnostics 6,144 bytes and 256 records, or as many whole
-- records as a shorter slice holds"
abbrev pub used_limits : List ℕ → List ℕ → Limits
used_limits results diagnostics = record { results = room_for 2048 results; diagnostics = room_for 256 diagnostics }

-- what is written so far, and the declaration or item being lowered
pub record State : Type 0 where
  pub place : ℕ
  pub results : List Record
  pub diagnostics : List Record

-- nothing is written yet, nothing is being lowered
abbrev pub start : State
start = record { place = 0; results = []; diagnostics = [] }

-- another declaration or item is being lowered
abbrev pub moved : ℕ → State → State
moved p s = record { place = p; results = s.results; diagnostics = s.diagnostics }

-- one more result
abbrev pub with_result : Record → State → State
with_result r s =
    record { place = s.place; results = s.results ++ (r ∷ []); diagnostics = s.diagnostics }

-- one more diagnostic
abbrev pub with_diagnostic : Record → State → State
with_diagnostic r s =
    record { place = s.place; results = s.results; diagnostics = s.diagnostics ++ (r ∷ []) }

-- rows 9 and 10 of the table of causes (docs/FORMAT.md, section 4)
pub data Stop : Type 0 where
  too_deep full : Stop

-- the number of the cause
unfoldable pub stop_number : Stop → ℕ
stop_number too_deep = 9
stop_number full = 10

-- how it ends: with an answer, or refused at "declaration or item being lowered"
pub data Out (A : Type 0) : Type 0 where
  finished : A → State → Out A
  stopped : Stop → ℕ → Out A

-- a lowering under limits: refused by "resolving deeper than 64" and by "one record more than a used limit", "first
-- met"
unfoldable pub run : {A : Type 0} → Limits → Lowering A → State → Out A
run most (done a) s = finished a s
run most (lowering p t) s = run most t (moved p s)
run most (resolving d t) s = elim (ltb 64 d) [ true ↦ stopped too_deep s.place | false ↦ run most t s ]
run most (diagnostic r t) s =
    elim (ltb (length s.diagnostics) most.diagnostics) [
      | true ↦ run most t (with_diagnostic r s)
      | false ↦ stopped full s.place
    ]
run most (result r k) s =
    elim (ltb (length s.results) most.results) [
      | true ↦ run most (k (length s.results)) (with_result r s)
      | false ↦ stopped full s.place
    ]
