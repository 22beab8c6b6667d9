-- What result and diagnostic records say: the claims that the known answers are read by. Words in quotation marks are
-- rules of docs/FORMAT.md in brief.
-- Assumes nothing.
use Rattle.std.specs.Prelude.{ℕ, Bool, true, false, ◌&&◌, List, [], ◌∷◌, eqb, ℤ, pos, negsuc, neg_ℤ, take}
use Rattle.record.specs.declared.Record.{Record}
use Rattle.arith.specs.Word.{signed}
use Rattle.book.specs.Lists.{keep}
use Rattle.book.specs.Faults.{record_of, is_kind}

-- a claim on the records that a lowering writes: the results, then the diagnostics
abbrev pub Claim : Type 0
Claim = List Record → List Record → Bool

-- the records of a kind that carry a name as a
abbrev pub naming : ℕ → ℕ → List Record → List Record
naming kind n rs = keep (λ r. is_kind kind r && eqb r.a n) rs

-- there is one record, and it passes
abbrev pub the_one : (Record → Bool) → List Record → Bool
the_one test [] = false
the_one test (r ∷ []) = test r
the_one test (r ∷ s ∷ rs) = false

-- there is none
abbrev pub nobody : List Record → Bool
nobody [] = true
nobody (r ∷ rs) = false

-- the integer -n
abbrev pub minus : ℕ → ℤ
minus n = neg_ℤ (pos n)

-- two integers are the same
abbrev pub same_integer : ℤ → ℤ → Bool
same_integer (pos m) (pos n) = eqb m n
same_integer (pos m) (negsuc n) = false
same_integer (negsuc m) (pos n) = false
same_integer (negsuc m) (negsuc n) = eqb m n

-- the constant n is stored with a value: "41 reached constant (sub 1 stored, a, b type, v value or 0)", v being read as
-- an i64
abbrev pub stored : ℕ → ℤ → Claim
stored n z results diagnostics =
    the_one (λ r. eqb r.sub 1 && same_integer (signed r.v) z) (naming 41 n results)

-- "reached without a value gives message 5"
abbrev pub without_value : ℕ → Claim
without_value n results diagnostics =
    the_one (λ r. eqb r.sub 0 && eqb r.v 0) (naming 41 n results)
    && the_one (λ r. eqb r.sub 5) (naming 50 n diagnostics)

-- "Unreached gives silence": no record and no diagnostic
abbrev pub silent : ℕ → Claim
silent n results diagnostics = nobody (naming 41 n results) && nobody (naming 50 n diagnostics)

-- there is one diagnostic: message m naming n, at a span
abbrev pub one_message : ℕ → ℕ → ℕ → ℕ → Claim
one_message m n offset len results diagnostics =
    the_one
    (λ r. is_kind 50 r && eqb r.sub m && eqb r.a n && eqb r.span.offset offset && eqb r.span.len len)
    diagnostics

-- there is no diagnostic
abbrev pub no_message : Claim
no_message results diagnostics = nobody diagnostics

-- types that the known answers speak of
pub data Shape : Type 0 where
  u8 : Shape
  -- a declared type, an alias or a stub, by its type number
  number : ℕ → Shape
  array_of : Shape → Shape
  map_of : Shape → Shape → Shape

-- "poison 4,294,967,295"
abbrev pub poison : Shape
poison = number 4294967295

-- the result records have this type at record n
unfoldable pub stands_at : Shape → List Record → ℕ → Bool
stands_at u8 rs n = is_kind 1 (record_of rs n) && eqb (record_of rs n).sub 1
stands_at (number k) rs n = is_kind 4 (record_of rs n) && eqb (record_of rs n).v k
stands_at (array_of t) rs n =
    is_kind 7 (record_of rs n) && eqb (record_of rs n).sub 1 && stands_at t rs (record_of rs n).a
stands_at (map_of k v) rs n =
    is_kind 8 (record_of rs n)
    && eqb (record_of rs n).sub 0
    && stands_at k rs (record_of rs n).a
    && stands_at v rs (record_of rs n).b

-- the newtype n is over this type
abbrev pub newtype_over : ℕ → Shape → Claim
newtype_over n t results diagnostics = the_one (λ r. stands_at t results r.b) (naming 48 n results)

-- the record behind the field n: "46 follows its 45"
unfoldable pub behind_field : ℕ → List Record → List Record
behind_field n [] = []
behind_field n (r ∷ rs) = elim (is_kind 45 r && eqb r.a n) [ true ↦ take 1 rs | false ↦ behind_field n rs ]

-- "46 its encoding (sub 0 default, 1 varint, 2 zigzag; a 1 delta; b 1 limit in v)"
abbrev pub default : ℕ
default = 0

abbrev pub varint : ℕ
varint = 1

-- the field n is delta over an encoding
abbrev pub delta_over : ℕ → ℕ → Claim
delta_over n base results diagnostics =
    the_one (λ r. is_kind 46 r && eqb r.sub base && eqb r.a 1) (behind_field n results)

-- delta over anything
abbrev pub is_delta : ℕ → Claim
is_delta n results diagnostics = the_one (λ r. is_kind 46 r && eqb r.a 1) (behind_field n results)

-- the field n is not delta, and has an encoding
abbrev pub no_delta : ℕ → ℕ → Claim
no_delta n base results diagnostics =
    the_one (λ r. is_kind 46 r && eqb r.sub base && eqb r.a 0) (behind_field n results)

-- the field n has a limit
abbrev pub limited : ℕ → ℕ → Claim
limited n limit results diagnostics =
    the_one (λ r. is_kind 46 r && eqb r.b 1 && eqb r.v limit) (behind_field n results)
