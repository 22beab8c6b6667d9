-- Messages, unions and newtypes: `lower_message`, `lower_union`, `lower_newtype`, `lower_field` and `lower_tombstone`
-- of the original. Words in quotation marks are rules of docs/FORMAT.md in brief.
-- Assumes nothing.
use Rattle.std.specs.Prelude.{ℕ, Bool, true, false, not, cond, ◌&&◌, List, eqb}
use Rattle.std.proofs.Math.Option.{Option, some, none}
use Rattle.record.specs.declared.Record.{Record}
use Rattle.book.specs.Lists.{find}
use Rattle.book.specs.Faults.{is_kind}
use Rattle.book.specs.Outline.{Book, ◌!◌, notes, items}
use Rattle.types.specs.Step.{Step, ◌>>=◌, ◌>>◌, give, at, emit, for_each}
use Rattle.types.specs.Numbers.{type_declarations}
use Rattle.types.specs.Resolve.{resolve_type}
use Rattle.bodies.specs.Encoding.{has_annotation, compute_field_encoding, under_delta, encoding_record}
use Rattle.bodies.specs.Constraint.{lower_where_expr}

-- a record of the book under another kind and with other references: it "keep[s] the book's span"
abbrev pub carried : ℕ → ℕ → ℕ → ℕ → Record → Record
carried kind a b c r = record { kind = kind; sub = r.sub; a = a; b = b; c = c; v = r.v; span = r.span }

-- what a field refers to, or "none"
unfoldable pub unless_none : ℕ → Step ℕ → Step ℕ
unless_none n m s = elim (eqb n 65535) [ true ↦ give 65535 s | false ↦ m s ]

-- "45 field (a, b, c, v as 31)": "an item's type, then its constraint, precede it; 46 follows its 45"
unfoldable pub lower_field : Book → Bool → ℕ → Step Unit
lower_field book message_delta n =
    let r : Record = book ! n in
    do
      t ← resolve_type book r.b
      c ← unless_none r.c (lower_where_expr 64 book r.c)
      emit (carried 45 r.a t.root c r)
      emit (encoding_record (under_delta message_delta t.type (compute_field_encoding (notes book n))))
      give tt

-- "Reason and since are the first string under each key; none as reason stands for '(no reason)'"
unfoldable pub first_string : ℕ → List Record → ℕ
first_string key ns = or_none (find (λ r. is_kind 36 r && eqb r.sub key && not (eqb r.a 65535)) ns)
  where
    or_none : Option Record → ℕ
    or_none none = 65535
    or_none (some r) = r.a

-- "47 tombstone (a reason, b since, rest as 32)"
unfoldable pub lower_tombstone : Book → ℕ → Step Unit
lower_tombstone book n =
    let r : Record = book ! n in
    do
      c ← unless_none r.c (resolve_type book r.c >>= λ t. give t.root)
      emit (carried 47 (first_string 0 (notes book n)) (first_string 1 (notes book n)) c r)
      give tt

-- "44 variant [..] with the fields of [..] 33"
unfoldable pub lower_variant : Book → ℕ → Step Unit
lower_variant book n =
    let r : Record = book ! n in
    emit (carried 44 r.a 0 0 r) >> give tt

-- a field, a tombstone or a variant
unfoldable pub lower_item : Book → Bool → ℕ → Step Unit
lower_item book message_delta n =
    at n
    >> cond
    (is_kind 31 (book ! n))
    (lower_field book message_delta n)
    (cond (is_kind 32 (book ! n)) (lower_tombstone book n) (lower_variant book n))

-- "42 message": it precedes its items, to which its delta applies
unfoldable pub lower_message : Book → ℕ → Step Unit
lower_message book n =
    let r : Record = book ! n in
    emit (carried 42 r.a 0 0 r) >> for_each (lower_item book (has_annotation 2 (notes book n))) (items book n)

-- "43 union": no delta applies to its fields
unfoldable pub lower_union : Book → ℕ → Step Unit
lower_union book n =
    let r : Record = book ! n in
    emit (carried 43 r.a 0 0 r) >> for_each (lower_item book false) (items book n)

-- "48 newtype", behind its type
unfoldable pub lower_newtype : Book → ℕ → Step Unit
lower_newtype book n =
    let r : Record = book ! n in
    do
      t ← resolve_type book r.b
      emit (carried 48 r.a t.root 0 r)
      give tt

-- `lower_decl`
unfoldable pub lower_decl : Book → ℕ → Step Unit
lower_decl book n =
    at n
    >> cond
    (is_kind 20 (book ! n))
    (lower_message book n)
    (cond (is_kind 21 (book ! n)) (lower_union book n) (lower_newtype book n))

-- "bodies": in book order
unfoldable pub lower_bodies : Book → Step Unit
lower_bodies book = for_each (lower_decl book) (type_declarations book)
