-- What the code does with constants, messages, unions and newtypes, over its tables and what it has written.
-- Assumes nothing.
use Rattle.std.specs.Prelude.{ℕ, zero, suc, Bool, false, ◌==◌, nat_lt, if◌then◌else◌, List, []}
use Rattle.std.specs.Prelude.{◌∷◌, Option, Some, None, Result, Ok, Err, ℤ}
use Rattle.record.specs.declared.Record.{Record}
use Rattle.record.specs.declared.kind.Kind.{Kind}
use Rattle.record.specs.declared.kind.Kind.TheVariants.{Logic, Comparison, Range, Operand, Message, Union, Newtype}
use Rattle.record.specs.declared.kind.Kind.TheVariants.{TypeParameter, Field, Tombstone}
use Rattle.record.specs.declared.kind.Kind.TheVariants.{Variant, Annotation, Argument, TombstoneArgument}
use Rattle.record.specs.declared.kind.UnknownKind.{UnknownKind}
use Rattle.record.specs.Kind.{kind_from, is_declaration_kind}
use Rattle.record.specs.Made.{bare_record}
use Rattle.record.specs.Reference.{reference, reference_number}
use Rattle.record.specs.Written.{read_at}
use Rattle.book.specs.Outline.{Book, ◌!◌}
use Rattle.arith.specs.Checked.{answer}
use Rattle.constants.specs.declared.reached.Settled.{Settled}
use Rattle.types.specs.Code.{State, Outcome, done, next, emit, tell, message}
use Rattle.types.specs.Walk.{walked}
use Rattle.bodies.specs.declared.encoding.Annotations.{Annotations}
use Rattle.bodies.specs.declared.constraint.Connective.{Connective}
use Rattle.bodies.specs.declared.constraint.Connective.TheVariants.{And, Or, Not}
use Rattle.bodies.specs.declared.constraint.WhereOperand.{WhereOperand}
use Rattle.bodies.specs.declared.constraint.WhereOperand.TheVariants as operands
use Rattle.bodies.specs.Encoding.{FieldEncoding, encoding_record}
use Rattle.bodies.specs.Bodies.{carried}
use Rattle.bodies.specs.Constant.{constant_record}
use Rattle.bodies.specs.Annotated.{field_encoding_of, annotation_from, with_annotation, with_argument, no_annotations}
use Rattle.bodies.specs.Annotated.{encoded, under_root, connective_from, operand_from}

-- the declaration or item at record n is being lowered
abbrev pub moved : ℕ → State → State
moved n s = record s { place = n }

-- one result, whatever its number
unfoldable pub write : Record → State → Outcome Unit
write r s = next (emit r s) (λ n t. done tt t)

-- what is done with what is there, if it is
abbrev pub optional : (ℕ → State → Outcome ℕ) → Option ℕ → State → Outcome (Option ℕ)
optional f None s = done None s
optional f (Some n) s = next (f n s) (λ root t. done (Some root) t)

-- the result record of an operand
abbrev pub operand_as : WhereOperand → ℕ → ℕ → ℕ → Record
operand_as operands.Value sub a v = bare_record Operand 0 0 0 0
operand_as operands.Other sub a v = bare_record Operand sub a 0 v

abbrev pub operand : Record → Record
operand r = operand_as (operand_from r.sub) r.sub r.a r.v

-- what is done with a child of record n, which is an earlier record
abbrev pub earlier : (ℕ → State → Outcome ℕ) → ℕ → ℕ → State → Outcome ℕ
earlier child n a s = if nat_lt a n then child a s else done 0 s

-- the second side of a logical constraint, which a negation has not
abbrev pub logic : (ℕ → State → Outcome ℕ) → ℕ → ℕ → ℕ → Connective → State → Outcome ℕ
logic child sub b a And s = next (child b s) (λ b t. emit (bare_record Logic sub a b 0) t)
logic child sub b a Or s = next (child b s) (λ b t. emit (bare_record Logic sub a b 0) t)
logic child sub b a Not s = emit (bare_record Logic sub a 0 0) s

-- a constraint or an operand, given what is done with its children
abbrev pub where_by : (ℕ → State → Outcome ℕ) → Record → Result Kind UnknownKind → State → Outcome ℕ
where_by child r (Ok Logic) s = next (child r.a s) (λ a t. logic child r.sub r.b a (connective_from r.sub) t)
where_by child r (Ok Comparison) s =
    next (child r.a s) (λ a t. emit (record (bare_record Comparison r.sub a 0 0) { c = r.c }) t)
where_by child r (Ok Range) s =
    next (child r.a s) (λ a t.
    next (child r.b t) (λ b u. emit (record (bare_record Range r.sub a b 0) { c = r.c }) u))
where_by child r kind s = emit (operand r) s

-- the constraint or operand at record n, so many records at most below each other
unfoldable pub where_within : ℕ → ℕ → State → Outcome ℕ
where_within zero n s = done 0 s
where_within (suc left) n s =
    where_by (earlier (λ a t. where_within left a t) n) (s.book ! n) (kind_from (s.book ! n).kind) s

unfoldable pub lower_where_expr : ℕ → State → Outcome ℕ
lower_where_expr n s = where_within (suc n) n s

-- the same where there may be none
abbrev pub lower_constraint : Option ℕ → State → Outcome (Option ℕ)
lower_constraint constraint s = optional (λ n t. lower_where_expr n t) constraint s

-- a type that may be missing
abbrev pub optional_type : Option ℕ → State → Outcome (Option ℕ)
optional_type type_expr s = optional (λ n t. walked n t) type_expr s

-- what the records behind a field or a message, by their numbers, say of encodings
abbrev pub seen_by : Result Kind UnknownKind → Record → Annotations → (Annotations → Annotations) → Annotations
seen_by (Ok Annotation) r s f = f (with_annotation s (annotation_from r.sub))
seen_by (Ok Argument) r s f = f (with_argument s r)
seen_by (Ok TypeParameter) r s f = f s
seen_by (Ok TombstoneArgument) r s f = f s
seen_by kind r s f = s

unfoldable pub seen_behind : Book → List ℕ → Annotations → Annotations
seen_behind book [] s = s
seen_behind book (m ∷ ms) s = seen_by (kind_from (book ! m).kind) (book ! m) s (λ t. seen_behind book ms t)

-- the encoding of a field whose type has this root among the results, under a message's delta
unfoldable pub field_encoding : Bool → ℕ → Annotations → State → FieldEncoding
field_encoding delta root seen s = under_root delta (read_at s.results root) (field_encoding_of (encoded seen))

unfoldable pub lower_field : Bool → ℕ → List ℕ → State → Outcome Unit
lower_field delta n behind s =
    next (walked (s.book ! n).b (moved n s)) (λ root t.
    next (lower_constraint (reference (s.book ! n).c) t) (λ c u.
    next (emit (carried 45 (s.book ! n).a root (reference_number c) (s.book ! n)) u) (λ m v.
    write (encoding_record (field_encoding delta root (seen_behind t.book behind no_annotations) t)) v)))

-- the first string under a key behind a tombstone
abbrev pub or_later : Option ℕ → Option ℕ → Option ℕ
or_later (Some n) later = Some n
or_later None later = later

abbrev pub string_by : Result Kind UnknownKind → ℕ → Record → Option ℕ → Option ℕ
string_by (Ok TombstoneArgument) key r rest = if r.sub == key then or_later (reference r.a) rest else rest
string_by (Ok Annotation) key r rest = rest
string_by (Ok Argument) key r rest = rest
string_by (Ok TypeParameter) key r rest = rest
string_by kind key r rest = None

unfoldable pub first_string : Book → ℕ → List ℕ → Option ℕ
first_string book key [] = None
first_string book key (m ∷ ms) = string_by (kind_from (book ! m).kind) key (book ! m) (first_string book key ms)

-- the result record of a tombstone
abbrev pub tombstone_record : Option ℕ → Option ℕ → Option ℕ → Record → Record
tombstone_record reason since c r =
    carried 47 (reference_number reason) (reference_number since) (reference_number c) r

unfoldable pub lower_tombstone : ℕ → List ℕ → State → Outcome Unit
lower_tombstone n behind s =
    next (optional_type (reference (s.book ! n).c) (moved n s)) (λ c t.
    write (tombstone_record (first_string s.book 0 behind) (first_string s.book 1 behind) c (s.book ! n)) t)

unfoldable pub lower_variant : ℕ → State → Outcome Unit
lower_variant n s = write (carried 44 (s.book ! n).a 0 0 (s.book ! n)) (moved n s)

-- one record behind a message or a union, and what follows
abbrev pub item_by : Result Kind UnknownKind → Bool → ℕ → List ℕ → State → (State → Outcome Unit) → Outcome Unit
item_by (Ok Field) delta n behind s f = next (lower_field delta n behind s) (λ x t. f t)
item_by (Ok Tombstone) delta n behind s f = next (lower_tombstone n behind s) (λ x t. f t)
item_by (Ok Variant) delta n behind s f = next (lower_variant n s) (λ x t. f t)
item_by (Ok kind) delta n behind s f = if is_declaration_kind kind then done tt s else f s
item_by (Err e) delta n behind s f = f s

-- the items behind a message or a union, up to the next declaration
unfoldable pub lower_items : Bool → List ℕ → State → Outcome Unit
lower_items delta [] s = done tt s
lower_items delta (m ∷ ms) s =
    item_by (kind_from (s.book ! m).kind) delta m ms s (λ t. lower_items delta ms t)

-- the own record of a message or a union, of this kind
abbrev pub begin_body : ℕ → ℕ → State → Outcome ℕ
begin_body kind n s = emit (carried kind (s.book ! n).a 0 0 (s.book ! n)) (moved n s)

-- a message or a union: its own record, and its items
unfoldable pub lower_body : ℕ → ℕ → List ℕ → Bool → State → Outcome Unit
lower_body kind n behind delta s = next (begin_body kind n s) (λ m t. lower_items delta behind t)

abbrev pub lower_message : ℕ → List ℕ → State → Outcome Unit
lower_message n behind s = lower_body 42 n behind (seen_behind s.book behind no_annotations).delta s

-- no delta applies to the fields of a union
abbrev pub lower_union : ℕ → List ℕ → State → Outcome Unit
lower_union n behind s = lower_body 43 n behind false s

unfoldable pub lower_newtype : ℕ → State → Outcome Unit
lower_newtype n s =
    next (walked (s.book ! n).b (moved n s)) (λ root t. write (carried 48 (s.book ! n).a root 0 (s.book ! n)) t)

-- one record, and what follows
abbrev pub decl_by : Result Kind UnknownKind → ℕ → List ℕ → State → (State → Outcome Unit) → Outcome Unit
decl_by (Ok Message) n behind s f = next (lower_message n behind s) (λ x t. f t)
decl_by (Ok Union) n behind s f = next (lower_union n behind s) (λ x t. f t)
decl_by (Ok Newtype) n behind s f = next (lower_newtype n s) (λ x t. f t)
decl_by kind n behind s f = f s

-- the messages, unions and newtypes among some declarations and items, in their order
unfoldable pub lower_bodies : List ℕ → State → Outcome Unit
lower_bodies [] s = done tt s
lower_bodies (n ∷ ns) s = decl_by (kind_from (s.book ! n).kind) n ns s (λ t. lower_bodies ns t)

-- message 5 for the constant r, unless it has a value
unfoldable pub tell_unless : Option ℤ → Record → State → Outcome Unit
tell_unless (Some z) r s = done tt s
tell_unless None r s = next (tell (message 5 r.a 0 2 (s.book ! r.c).span) s) (λ n t. done tt t)

-- a reached constant
unfoldable pub lower_constant : Settled → State → Outcome Unit
lower_constant x s =
    next (walked (s.book ! x.place).b (moved x.place s)) (λ root t.
    next (tell_unless x.value (s.book ! x.place) t) (λ u v.
    write (constant_record (answer x.value) (s.book ! x.place) root) v))

unfoldable pub lower_constants : List Settled → State → Outcome Unit
lower_constants [] s = done tt s
lower_constants (x ∷ xs) s = next (lower_constant x s) (λ u t. lower_constants xs t)
