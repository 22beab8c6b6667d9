-- The kinds of records: their groups, their subs and the values of their fields. Words in quotation marks are rules of
-- docs/FORMAT.md in brief.
-- Assumes nothing.
use Rattle.std.specs.Prelude.{ℕ, ◌^◌, Bool, true, false, ◌&&◌, ◌||◌, List, [], ◌∷◌, ◌++◌, leb, ltb, eqb}
use Rattle.std.proofs.Math.Option.{Option, some, none}
use Rattle.book.specs.Lists.{find}
use Rattle.record.specs.declared.Record.{Record}

-- the groups of kinds: types, constants, constraints, operands, declarations, items
pub data Group : Type 0 where
  type constant constraint operand declaration item : Group

-- what a field may hold
pub data Field : Type 0 where
  unused flag bits name name? string string? ordinal free : Field
  child child? : Group → Field

-- a field inside its values
unfoldable pub allows : Field → ℕ → Bool
-- "Unused fields are zero"
allows unused x = eqb x 0
-- "1 for length, else 0", "Bool 0 or 1"
allows flag x = ltb x 2
-- "bits 0-255"
allows bits x = ltb x 256
-- "Names are 0 to 4,095, strings 0 to 65,534, 65,535 means none where 'or none' is said"
allows name x = ltb x 4096
allows name? x = ltb x 4096 || eqb x 65535
allows string x = ltb x 65535
allows string? x = true
-- "Ordinals are below 2^32"
allows ordinal x = ltb x (2 ^ 32)
allows free x = true
-- a number that is no child's is cause 5, not 4
allows (child g) x = true
allows (child? g) x = true

-- a row of the table: records of a kind with a sub from `low` to `high`, and their fields; "spans are free"
pub record Row : Type 0 where
  pub group : Group
  pub kind : ℕ
  pub low : ℕ
  pub high : ℕ
  pub a : Field
  pub b : Field
  pub c : Field
  pub v : Field

-- a row, written short
abbrev pub row : Group → ℕ → ℕ → ℕ → Field → Field → Field → Field → Row
row g kind low high a b c v =
    record { group = g; kind = kind; low = low; high = high; a = a; b = b; c = c; v = v }

-- the table of kinds (docs/FORMAT.md, section 2), line by line. A kind stands in several rows where its subs have
-- different fields.
-- A row: group, kind, first and last sub, then what a, b, c and v may hold.
unfoldable pub table : List Row
table =
    row type 1 0 13 unused unused unused unused  -- primitive
    ∷ row type 2 0 1 bits unused unused unused  -- sub-byte
    ∷ row type 3 0 5 unused unused unused unused  -- semantic
    ∷ row type 4 0 0 name unused unused unused  -- named
    ∷ row type 5 0 0 name name unused unused  -- qualified
    ∷ row type 6 0 0 name (child type) unused unused  -- generic
    ∷ row type 7 0 1 (child type) unused unused unused  -- Optional, Array
    ∷ row type 7 2 2 (child type) unused unused free  -- FixedArray
    ∷ row type 7 3 9 (child type) unused unused unused  -- Set, Vec2 to Mat4
    ∷ row type 8 0 1 (child type) (child type) unused unused  -- Map, Result
    ∷ row type 9 0 0 free unused unused unused  -- inline bits
    ∷ row constant 10 0 3 unused unused unused free  -- Int, UInt, Float, Hex
    ∷ row constant 10 4 4 unused unused unused flag  -- Bool
    ∷ row constant 11 0 0 name unused unused unused  -- reference
    ∷ row constant 12 0 9 (child constant) (child constant) unused unused  -- operation
    ∷ row constraint 13 0 1 (child constraint) (child constraint) unused unused  -- And, Or
    ∷ row constraint 13 2 2 (child constraint) unused unused unused  -- Not
    ∷ row constraint 14 0 5 (child operand) unused flag unused  -- comparison
    ∷ row constraint 15 0 1 (child operand) (child operand) flag unused  -- range
    ∷ row operand 16 0 1 unused unused unused free  -- Int, Float
    ∷ row operand 16 2 2 string unused unused unused  -- String
    ∷ row operand 16 3 3 unused unused unused flag  -- Bool
    ∷ row operand 16 4 4 unused unused unused free  -- Value
    ∷ row operand 16 5 5 name unused unused unused  -- reference
    ∷ row declaration 20 0 0 name unused unused unused  -- message
    ∷ row declaration 21 0 0 name unused unused unused  -- union
    ∷ row declaration 22 0 0 name (child type) unused unused  -- newtype
    ∷ row declaration 23 0 0 name (child type) unused unused  -- alias
    ∷ row declaration 24 0 0 name (child type) (child constant) unused  -- constant
    ∷ row declaration 25 0 0 name unused unused unused  -- ambiguous name
    ∷ row item 30 0 0 name unused unused unused  -- type parameter
    ∷ row item 31 0 0 name (child type) (child? constraint) ordinal  -- field
    ∷ row item 32 0 1 unused unused (child? type) ordinal  -- tombstone
    ∷ row item 33 0 0 name unused unused ordinal  -- variant
    ∷ row item 34 0 4 unused unused unused unused  -- annotation
    ∷ row item 35 0 1 name? unused unused free  -- argument: Int, Hex
    ∷ row item 35 2 2 name? unused unused unused  -- argument: other
    ∷ row item 36 0 2 string? unused unused unused  -- tombstone argument
    ∷ []

-- the record is of the row's kind, and its sub is within the row's
abbrev pub is_row : Record → Row → Bool
is_row r w = eqb r.kind w.kind && leb w.low r.sub && leb r.sub w.high

-- the row of a record
unfoldable pub row_of : Record → Option Row
row_of r = find (is_row r) table

-- every field inside the values of its row
abbrev pub fits : Record → Option Row → Bool
fits r none = false
fits r (some w) = allows w.a r.a && allows w.b r.b && allows w.c r.c && allows w.v r.v

-- the record has a row, and every field is inside its values
unfoldable pub well_shaped : Record → Bool
well_shaped r = fits r (row_of r)

-- a child that a record names: its group, and its record number
pub record Child : Type 0 where
  pub group : Group
  pub number : ℕ

-- the child in a field; "65,535 means none where 'or none' is said"
unfoldable pub child_in : Field → ℕ → List Child
child_in (child g) x = record { group = g; number = x } ∷ []
child_in (child? g) x = elim (eqb x 65535) [ true ↦ [] | false ↦ record { group = g; number = x } ∷ [] ]
child_in unused x = []
child_in flag x = []
child_in bits x = []
child_in name x = []
child_in name? x = []
child_in string x = []
child_in string? x = []
child_in ordinal x = []
child_in free x = []

-- the children that a row says
abbrev pub children_by : Record → Option Row → List Child
children_by r none = []
children_by r (some w) = child_in w.a r.a ++ child_in w.b r.b ++ child_in w.c r.c

-- the children of a record, left before right
unfoldable pub children : Record → List Child
children r = children_by r (row_of r)

-- the name in a field; "65,535 means none where 'or none' is said"
unfoldable pub name_in : Field → ℕ → List ℕ
name_in name x = x ∷ []
name_in name? x = elim (eqb x 65535) [ true ↦ [] | false ↦ x ∷ [] ]
name_in unused x = []
name_in flag x = []
name_in bits x = []
name_in string x = []
name_in string? x = []
name_in ordinal x = []
name_in free x = []
name_in (child g) x = []
name_in (child? g) x = []

-- the names that a row says
abbrev pub names_by : Record → Option Row → List ℕ
names_by r none = []
names_by r (some w) = name_in w.a r.a ++ name_in w.b r.b ++ name_in w.c r.c

-- the names that a record gives or refers to
unfoldable pub names : Record → List ℕ
names r = names_by r (row_of r)

-- groups by number, to compare them
abbrev pub group_number : Group → ℕ
group_number type = 1
group_number constant = 2
group_number constraint = 3
group_number operand = 4
group_number declaration = 5
group_number item = 6

-- the row is of a group
abbrev pub in_group : Group → Option Row → Bool
in_group g none = false
in_group g (some w) = eqb (group_number g) (group_number w.group)

-- the record is of a group
unfoldable pub is_of : Group → Record → Bool
is_of g r = in_group g (row_of r)
