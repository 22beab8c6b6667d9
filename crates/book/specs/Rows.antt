-- How the code's table of shapes is the definition's.
-- Assumes nothing.
use Rattle.std.specs.Prelude.{ℕ, suc, ◌-◌, ◌^◌, Bool, true, false, List, [], ◌∷◌, ◌&&◌, ◌≡◌, eqb, leb, Option, Some, None}
use Rattle.std.specs.Borrow.{Bor}
use Rattle.std.proofs.Math.Option as defined
use Rattle.std.proofs.Math.Option.{some, none}
use Rattle.record.specs.declared.Record.{Record}
use Rattle.record.specs.Kind.{code_of}
use Rattle.book.specs.declared.shape.Group as code_group
use Rattle.book.specs.declared.shape.Group.TheVariants.{«Type», Constant, Constraint, Operand, Declaration, Item}
use Rattle.book.specs.declared.shape.Field as code_field
use Rattle.book.specs.declared.shape.Field.TheVariants.{Unused, Flag, Bits, Name, MaybeName, String, MaybeString, Ordinal, Free, Child, MaybeChild}
use Rattle.book.specs.declared.shape.Row as code_row
use Rattle.book.specs.Shape.{Group, type, constant, constraint, operand, declaration, item}
use Rattle.book.specs.Shape.{Field, unused, flag, bits, name, name?, string, string?, ordinal, free, child, child?}
use Rattle.book.specs.Shape as shapes
use Rattle.book.specs.Shape.{Row, table, row_of, fits, group_number}

-- the groups, the fields and the rows of the code
abbrev pub group_from : code_group.Group → Group
group_from «Type» = type
group_from Constant = constant
group_from Constraint = constraint
group_from Operand = operand
group_from Declaration = declaration
group_from Item = item

abbrev pub field_from : code_field.Field → Field
field_from Unused = unused
field_from Flag = flag
field_from Bits = bits
field_from Name = name
field_from MaybeName = name?
field_from String = string
field_from MaybeString = string?
field_from Ordinal = ordinal
field_from Free = free
field_from (Child g) = child (group_from g)
field_from (MaybeChild g) = child? (group_from g)

abbrev pub row_from : code_row.Row → Row
row_from w =
    record {
      group = group_from w.group;
      kind = code_of w.kind;
      low = w.low;
      high = w.high;
      a = field_from w.a;
      b = field_from w.b;
      c = field_from w.c;
      v = field_from w.v;
    }

-- the row that the code finds
abbrev pub row_in : Option (Bor code_row.Row) → defined.Option Row
row_in None = none
row_in (Some w) = some (row_from w.now)

-- the number of the first row of a kind, and of all rows where there is none
unfoldable pub first_row : ℕ → List Row → ℕ
first_row k [] = 0
first_row k (w ∷ ws) = elim (eqb k w.kind) [ true ↦ 0 | false ↦ suc (first_row k ws) ]

-- the last value that a field may hold, apart from the one that stands for no name; 2^64 - 1 where any will do
abbrev pub last_in : Field → ℕ
last_in unused = 0
last_in flag = 1
last_in bits = 255
last_in name = 4095
last_in name? = 4095
last_in string = 65534
last_in string? = 2 ^ 64 - 1
last_in ordinal = 2 ^ 32 - 1
last_in free = 2 ^ 64 - 1
last_in (child g) = 2 ^ 64 - 1
last_in (child? g) = 2 ^ 64 - 1

-- the value that stands for no name, where a field may hold it besides
abbrev pub none_in : Field → ℕ → Bool
none_in name? x = eqb x 65535
none_in _ x = false

-- the child with a number, if a field names one
abbrev pub children_of : Option code_group.Group → ℕ → List shapes.Child
children_of None x = []
children_of (Some g) x = record { group = group_from g; number = x } ∷ []

-- a primitive type with nothing in its fields
abbrev pub is_plain : Record → Bool
is_plain r = eqb r.kind 1 && leb r.sub 13 && eqb r.a 0 && eqb r.b 0 && eqb r.c 0 && eqb r.v 0

-- declarations and items are no part of a tree
abbrev pub is_outside_group : code_group.Group → Bool
is_outside_group Declaration = true
is_outside_group Item = true
is_outside_group _ = false

-- a record, and the row that is found for it
pub record IsRow (r : Record) (w : code_row.Row) : Type 0 where
  pub row_is : row_of r ≡ some (row_from w)
  pub fitting : fits r (row_of r) ≡ true
