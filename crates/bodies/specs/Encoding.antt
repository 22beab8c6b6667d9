-- Encodings of fields: `compute_field_encoding` and a message's delta. Words in quotation marks are rules of
-- docs/FORMAT.md in brief.
-- Assumes nothing.
use Rattle.std.specs.Prelude.{ℕ, Bool, true, false, not, cond, ◌&&◌, List, [], ◌∷◌, ltb, eqb, get_or}
use Rattle.std.proofs.Math.Option.{Option, some, none}
use Rattle.record.specs.declared.Record.{Record}
use Rattle.book.specs.Lists.{any}
use Rattle.book.specs.Faults.{is_kind}
use Rattle.types.specs.Resolved.{ResolvedType, primitive, sub_byte, semantic, named, one_child, two_children, inline_bits}
use Rattle.types.specs.Step.{bare}

-- "46 its encoding (sub 0 default, 1 varint, 2 zigzag [..])": `Encoding` of the original, its `Delta` apart
pub data Encoding : Type 0 where
  default varint zigzag : Encoding

-- `FieldEncoding` of the original: delta around the encoding or not, and the limit
pub record FieldEncoding : Type 0 where
  pub encoding : Encoding
  pub delta : Bool
  pub limit : Option ℕ

-- "34 annotation (sub 0 varint, 1 zigzag, 2 delta, 3 limit, 4 other)"
abbrev pub has_annotation : ℕ → List Record → Bool
has_annotation sub notes = any (λ r. is_kind 34 r && eqb r.sub sub) notes

-- "35 argument (sub 0 Int, 1 Hex, 2 other [..]; a key name or none)"
abbrev pub is_keyless_number : Record → Bool
is_keyless_number r = is_kind 35 r && ltb r.sub 2 && eqb r.a 65535

-- "Limit is the first keyless Int or Hex in the first limit annotation having one"; `in_limit`: the latest annotation
-- is a limit
unfoldable pub limit_in : Bool → List Record → Option ℕ
limit_in in_limit [] = none
limit_in in_limit (r ∷ rs) =
    elim (in_limit && is_keyless_number r) [
      | true ↦ some r.v
      | false ↦ limit_in (cond (is_kind 34 r) (eqb r.sub 3) in_limit) rs
    ]

-- "varint wins over zigzag; delta wraps the base"
unfoldable pub compute_field_encoding : List Record → FieldEncoding
compute_field_encoding notes =
    record {
      encoding = cond (has_annotation 0 notes) varint (cond (has_annotation 1 notes) zigzag default);
      delta = has_annotation 2 notes;
      limit = limit_in false notes;
    }

-- what a message's delta does with a field: nothing, or delta over an encoding, or over the one that the field had
pub data Inner : Type 0 where
  not_eligible had_before : Inner
  over : Encoding → Inner

-- "a fixed table of fourteen rows", by primitive code: `is_delta_eligible` and `optimal_delta_inner`
unfoldable pub delta_rows : List Inner
delta_rows =
    not_eligible  -- Bool
    ∷ over varint  -- U8
    ∷ over varint  -- U16
    ∷ over varint  -- U32
    ∷ over varint  -- U64
    ∷ over zigzag  -- I8
    ∷ over zigzag  -- I16
    ∷ over zigzag  -- I32
    ∷ over zigzag  -- I64
    ∷ had_before  -- F32
    ∷ had_before  -- F64
    ∷ had_before  -- Fixed32
    ∷ had_before  -- Fixed64
    ∷ not_eligible  -- Void
    ∷ []

-- "resolved to primitive 1-12 or sub-byte"
unfoldable pub delta_inner : ResolvedType → Inner
delta_inner (primitive p) = get_or delta_rows p not_eligible
delta_inner (sub_byte p bits) = had_before
delta_inner (semantic p) = not_eligible
delta_inner (named n) = not_eligible
delta_inner (one_child p v t) = not_eligible
delta_inner (two_children p l r) = not_eligible
delta_inner (inline_bits n) = not_eligible

-- an encoding under a message's delta
abbrev with_delta : Inner → FieldEncoding → FieldEncoding
with_delta not_eligible e = e
with_delta had_before e = record { encoding = e.encoding; delta = true; limit = e.limit }
with_delta (over base) e = record { encoding = base; delta = true; limit = e.limit }

-- and under one that may not be there, for a field that may be delta already
unfoldable pub under_inner : Bool → Inner → FieldEncoding → FieldEncoding
under_inner message_delta i e = cond (message_delta && not e.delta) (with_delta i e) e

-- "Under a message's delta, fields not yet delta and [eligible] become delta over: varint for 1-4, zigzag for 5-8, else
-- what they had"
unfoldable pub under_delta : Bool → ResolvedType → FieldEncoding → FieldEncoding
under_delta message_delta t e = under_inner message_delta (delta_inner t) e

-- "sub 0 default, 1 varint, 2 zigzag"
unfoldable pub encoding_number : Encoding → ℕ
encoding_number default = 0
encoding_number varint = 1
encoding_number zigzag = 2

-- 1 for yes
abbrev bit : Bool → ℕ
bit true = 1
bit false = 0

-- "46 its encoding (sub 0 default, 1 varint, 2 zigzag; a 1 delta; b 1 limit in v)"
unfoldable pub encoding_record : FieldEncoding → Record
encoding_record e = with_limit e.limit
  where
    with_limit : Option ℕ → Record
    with_limit none = bare 46 (encoding_number e.encoding) (bit e.delta) 0 0 0
    with_limit (some v) = bare 46 (encoding_number e.encoding) (bit e.delta) 1 0 v
