-- What the code sees of annotations, and its encodings in the terms of the definitions.
-- Assumes nothing.
use Rattle.std.specs.Prelude.{ℕ, Bool, true, false, cond, ◌&&◌, eqb, get_or, is_none, Result, Ok}
use Rattle.std.specs.Prelude as std
use Rattle.std.proofs.Math.Option.{Option, some, none}
use Rattle.record.specs.declared.Record.{Record}
use Rattle.record.specs.declared.kind.Kind.{Kind}
use Rattle.record.specs.declared.kind.Kind.TheVariants.{Primitive, SubByte}
use Rattle.record.specs.declared.kind.UnknownKind.{UnknownKind}
use Rattle.record.specs.Kind.{kind_from}
use Rattle.record.specs.Reference.{reference}
use Rattle.bodies.specs.declared.encoding.Encoding as codes
use Rattle.bodies.specs.declared.encoding.Encoding.TheVariants.{Default, Varint, Zigzag}
use Rattle.bodies.specs.declared.encoding.Inner as inners
use Rattle.bodies.specs.declared.encoding.Inner.TheVariants.{NotEligible, HadBefore, Over}
use Rattle.bodies.specs.declared.encoding.FieldEncoding as fields
use Rattle.bodies.specs.declared.encoding.Annotation.{Annotation}
use Rattle.bodies.specs.declared.encoding.Annotation.TheVariants as annotations
use Rattle.bodies.specs.declared.encoding.Annotations.{Annotations}
use Rattle.bodies.specs.declared.encoding.Argument.{Argument}
use Rattle.bodies.specs.declared.encoding.Argument.TheVariants.{Int, Hex}
use Rattle.bodies.specs.declared.encoding.Argument.TheVariants as arguments
use Rattle.bodies.specs.declared.constraint.Connective.{Connective}
use Rattle.bodies.specs.declared.constraint.Connective.TheVariants.{And, Or, Not}
use Rattle.bodies.specs.declared.constraint.WhereOperand.{WhereOperand}
use Rattle.bodies.specs.declared.constraint.WhereOperand.TheVariants as operands
use Rattle.bodies.specs.declared.item.Key.{Key}
use Rattle.bodies.specs.declared.item.Key.TheVariants.{Reason, Since}
use Rattle.bodies.specs.Encoding.{Encoding, default, varint, zigzag, FieldEncoding}
use Rattle.bodies.specs.Encoding.{Inner, not_eligible, had_before, over, delta_rows, under_inner}

-- an encoding; `encoding_number` gives its number
unfoldable pub encoding_of : codes.Encoding → Encoding
encoding_of Default = default
encoding_of Varint = varint
encoding_of Zigzag = zigzag

-- what a message's delta does with a field
abbrev pub inner_of : inners.Inner → Inner
inner_of NotEligible = not_eligible
inner_of HadBefore = had_before
inner_of (Over e) = over (encoding_of e)

-- a limit, if there is one
unfoldable pub limit_of : std.Option ℕ → Option ℕ
limit_of std.None = none
limit_of (std.Some n) = some n

abbrev pub field_encoding_of : fields.FieldEncoding → FieldEncoding
field_encoding_of e =
    record { encoding = encoding_of e.encoding; delta = e.delta; limit = limit_of e.limit }

-- what a logical constraint says of its sides, by its sub
abbrev pub connective_from : ℕ → Connective
connective_from sub = cond (eqb sub 0) And (cond (eqb sub 1) Or Not)

-- what an operand is, by its sub
abbrev pub operand_from : ℕ → WhereOperand
operand_from sub = cond (eqb sub 4) operands.Value operands.Other

-- the sub of an argument under a key of a tombstone
abbrev pub key_code : Key → ℕ
key_code Reason = 0
key_code Since = 1

-- what the value of an argument is, by its sub
abbrev pub argument_from : ℕ → Argument
argument_from sub = cond (eqb sub 0) Int (cond (eqb sub 1) Hex arguments.Other)

abbrev pub is_number : Argument → Bool
is_number Int = true
is_number Hex = true
is_number arguments.Other = false

-- what an annotation says, by its sub
abbrev pub annotation_from : ℕ → Annotation
annotation_from sub =
    cond (eqb sub 0) annotations.Varint
    (cond (eqb sub 1) annotations.Zigzag
    (cond (eqb sub 2) annotations.Delta
    (cond (eqb sub 3) annotations.Limit annotations.Other)))

-- no annotation is seen
abbrev pub no_annotations : Annotations
no_annotations = record { varint = false; zigzag = false; delta = false; limiting = false; limit = std.None }

-- one annotation more
abbrev pub with_annotation : Annotations → Annotation → Annotations
with_annotation s annotations.Varint = record s { varint = true; limiting = false }
with_annotation s annotations.Zigzag = record s { zigzag = true; limiting = false }
with_annotation s annotations.Delta = record s { delta = true; limiting = false }
with_annotation s annotations.Limit = record s { limiting = true }
with_annotation s annotations.Other = record s { limiting = false }

-- one argument more
abbrev pub with_argument : Annotations → Record → Annotations
with_argument s r =
    cond (s.limiting && is_none s.limit && is_number (argument_from r.sub) && is_none (reference r.a))
    (record s { limit = std.Some r.v })
    s

-- the encoding that annotations say
abbrev pub encoded : Annotations → fields.FieldEncoding
encoded s =
    record {
      encoding = cond s.varint Varint (cond s.zigzag Zigzag Default);
      delta = s.delta;
      limit = s.limit;
    }

-- what a message's delta does with a field, by the root of its type: what it is and its sub
abbrev pub inner_by : Result Kind UnknownKind → ℕ → Inner
inner_by (Ok Primitive) sub = get_or delta_rows sub not_eligible
inner_by (Ok SubByte) sub = had_before
inner_by kind sub = not_eligible

-- the same by the root, if it stands
abbrev pub inner_at : std.Option Record → Inner
inner_at (std.Some root) = inner_by (kind_from root.kind) root.sub
inner_at std.None = not_eligible

-- the encoding of a field whose type has this root, under a message's delta, if the message has it
abbrev pub under_root : Bool → std.Option Record → FieldEncoding → FieldEncoding
under_root delta root e = under_inner delta (inner_at root) e
