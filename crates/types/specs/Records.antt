-- The result records of a resolved type as one list. Words in quotation marks are rules of docs/FORMAT.md in brief.
-- Assumes nothing.
use Rattle.std.specs.Prelude.{ℕ, suc, ◌+◌, ◌<◌, cond, ◌||◌, List, [], ◌∷◌, ◌++◌, map, ◌≡◌, length, take, drop}
use Rattle.record.specs.declared.Record.{Record}
use Rattle.record.specs.Named.{named_record}
use Rattle.book.specs.Faults.{is_kind}
use Rattle.types.specs.Resolved.{ResolvedType, primitive, sub_byte, semantic, named, one_child, two_children, inline_bits}
use Rattle.types.specs.Step.{bare}

-- how many records stand before the root
unfoldable pub below : ResolvedType → ℕ
below (primitive p) = 0
below (sub_byte p bits) = 0
below (semantic p) = 0
below (named n) = 0
below (one_child p size t) = suc (below t)
below (two_children p l r) = suc (below l) + suc (below r)
below (inline_bits n) = 0

-- the records of a type, the first of them as result n: "children first, left before right, never shared"
unfoldable pub type_records : ℕ → ResolvedType → List Record
type_records n (primitive p) = bare 1 p 0 0 0 0 ∷ []
type_records n (sub_byte p bits) = bare 2 p bits 0 0 0 ∷ []
type_records n (semantic p) = bare 3 p 0 0 0 0 ∷ []
type_records n (named k) = named_record k ∷ []
type_records n (one_child p size t) = type_records n t ++ (bare 7 p (n + below t) 0 0 size ∷ [])
type_records n (two_children p l r) =
    type_records n l
    ++ type_records (suc (n + below l)) r
    ++ (bare 8 p (n + below l) (suc (n + below l) + below r) 0 0 ∷ [])
type_records n (inline_bits k) = bare 9 0 k 0 0 0 ∷ []

-- a record of a type, copied to a place that is so much further on: its references move along
unfoldable pub shifted : ℕ → Record → Record
shifted by r =
    record {
      kind = r.kind;
      sub = r.sub;
      a = cond (is_kind 7 r || is_kind 8 r) (r.a + by) r.a;
      b = cond (is_kind 8 r) (r.b + by) r.b;
      c = r.c;
      v = r.v;
      span = r.span;
    }

-- the records of a type stand among the results, the first of them as result `first`, its root as result `root`
pub record StandsAt (rs : List Record) (first root : ℕ) (t : ResolvedType) : Type 0 where
  pub root_is : root ≡ first + below t
  pub inside : root < length rs
  pub there : take (suc (below t)) (drop first rs) ≡ type_records first t

-- Claims; the proofs are in proofs/TypeRecords.antt. A type has one record more than stand before its root
abbrev pub TypeHasRecords : Type 0
TypeHasRecords = (n : ℕ) (t : ResolvedType) → length (type_records n t) ≡ suc (below t)

-- and a copy of it is its records, shifted
abbrev pub CopyIsShifted : Type 0
CopyIsShifted = (n by : ℕ) (t : ResolvedType) → type_records (n + by) t ≡ map (shifted by) (type_records n t)
