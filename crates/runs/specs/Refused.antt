-- Books that are turned back, by their records or by their bytes, each with cause and place; and lowerings that are
-- stopped. Words in quotation marks are rules of docs/FORMAT.md in brief.
-- Assumes nothing.
use Rattle.std.specs.Prelude.{ℕ, zero, suc, ◌+◌, ◌*◌, true, false, ◌≡◌, eqb, length, take, drop, replicate}
use mathlib.Core.List.{List, [], ◌∷◌, ◌++◌, map, flat_map}
use Rattle.std.proofs.Math.Option.{none}
use Rattle.record.specs.declared.Record.{Record}
use Rattle.record.specs.Write.{write_at}
use Rattle.book.specs.Lists.{All}
use Rattle.book.specs.Refusal.{first_refusal}
use Rattle.types.specs.Step.{bare}
use Rattle.lower.specs.LowerBook.{accepted, refused, lower_book}
use Rattle.runs.specs.Books.{book_of, with_check, rec}
use Rattle.runs.specs.Known.{Known, leaving, N1, N2, k1, k2, k10}
use Rattle.runs.specs.Slips.{delta_and_union}
use Rattle.runs.specs.Edges.{tombstones, plain_aliases, and_not}

-- the bytes of a book, and the cause and the place by which it is turned back
pub record TurnedBack : Type 0 where
  pub book : List ℕ
  pub cause : ℕ
  pub place : ℕ

-- What is claimed of each: in any two slices it is refused so, and both are left as they were.
abbrev pub TurnsBack : TurnedBack → Type 0
TurnsBack t =
    (results diagnostics : List ℕ) →
    lower_book t.book results diagnostics
    ≡ record { reply = refused t.cause t.place; results = results; diagnostics = diagnostics }

-- a book by its records
abbrev pub back : List Record → ℕ → ℕ → TurnedBack
back rs cause place = record { book = book_of false rs; cause = cause; place = place }

-- one record alone, under cause 4: "unknown kind, or a sub or field outside its values". Causes 5 and 6 come behind 4.
abbrev pub misshapen : Record → TurnedBack
misshapen r = back (r ∷ []) 4 0

-- kinds that are not there
abbrev pub kinds : List TurnedBack
kinds =
    misshapen (bare 0 0 0 0 0 0)
    ∷ misshapen (bare 17 0 0 0 0 0)
    ∷ misshapen (bare 19 0 0 0 0 0)
    ∷ misshapen (bare 26 0 0 0 0 0)
    ∷ misshapen (bare 29 0 0 0 0 0)
    ∷ misshapen (bare 37 0 0 0 0 0)
    ∷ misshapen (bare 39 0 0 0 0 0)
    ∷ misshapen (bare 40 0 0 0 0 0)
    ∷ misshapen (bare 255 0 0 0 0 0)
    ∷ []

-- for every kind its last sub and 1
abbrev pub subs : List TurnedBack
subs =
    misshapen (bare 1 14 0 0 0 0)
    ∷ misshapen (bare 2 2 0 0 0 0)
    ∷ misshapen (bare 3 6 0 0 0 0)
    ∷ misshapen (bare 4 1 0 0 0 0)
    ∷ misshapen (bare 5 1 0 0 0 0)
    ∷ misshapen (bare 6 1 0 0 0 0)
    ∷ misshapen (bare 7 10 0 0 0 0)
    ∷ misshapen (bare 8 2 0 0 0 0)
    ∷ misshapen (bare 9 1 0 0 0 0)
    ∷ misshapen (bare 10 5 0 0 0 0)
    ∷ misshapen (bare 11 1 0 0 0 0)
    ∷ misshapen (bare 12 10 0 0 0 0)
    ∷ misshapen (bare 13 3 0 0 0 0)
    ∷ misshapen (bare 14 6 0 0 0 0)
    ∷ misshapen (bare 15 2 0 0 0 0)
    ∷ misshapen (bare 16 6 0 0 0 0)
    ∷ misshapen (bare 20 1 0 0 0 0)
    ∷ misshapen (bare 21 1 0 0 0 0)
    ∷ misshapen (bare 22 1 0 0 0 0)
    ∷ misshapen (bare 23 1 0 0 0 0)
    ∷ misshapen (bare 24 1 0 0 0 0)
    ∷ misshapen (bare 25 1 0 0 0 0)
    ∷ misshapen (bare 30 1 0 0 0 0)
    ∷ misshapen (bare 31 1 0 0 0 0)
    ∷ misshapen (bare 32 2 0 0 0 0)
    ∷ misshapen (bare 33 1 0 0 0 0)
    ∷ misshapen (bare 34 5 0 0 0 0)
    ∷ misshapen (bare 35 3 0 0 0 0)
    ∷ misshapen (bare 36 3 0 0 0 0)
    ∷ []

-- "Names are 0 to 4,095, strings 0 to 65,534", "bits 0-255", "Ordinals are below 2^32"
abbrev pub bounds : List TurnedBack
bounds =
    misshapen (bare 4 0 4096 0 0 0)  -- a name
    ∷ misshapen (bare 5 0 4096 0 0 0)
    ∷ misshapen (bare 6 0 4096 0 0 0)
    ∷ misshapen (bare 11 0 4096 0 0 0)
    ∷ misshapen (bare 20 0 4096 0 0 0)
    ∷ misshapen (bare 21 0 4096 0 0 0)
    ∷ misshapen (bare 22 0 4096 0 0 0)
    ∷ misshapen (bare 23 0 4096 0 0 0)
    ∷ misshapen (bare 24 0 4096 0 0 0)
    ∷ misshapen (bare 25 0 4096 0 0 0)
    ∷ misshapen (bare 30 0 4096 0 0 0)
    ∷ misshapen (bare 31 0 4096 0 0 0)
    ∷ misshapen (bare 33 0 4096 0 0 0)
    ∷ misshapen (bare 5 0 0 4096 0 0)  -- the name behind its namespace
    ∷ misshapen (bare 16 5 4096 0 0 0)  -- a name that an operand refers to
    ∷ misshapen (bare 35 0 4096 0 0 0)  -- a key, 65,535 being none
    ∷ misshapen (bare 35 2 65534 0 0 0)
    ∷ misshapen (bare 16 2 65535 0 0 0)  -- a string where none is not offered
    ∷ misshapen (bare 2 0 256 0 0 0)  -- bits
    ∷ misshapen (bare 10 4 0 0 0 2)  -- Bool
    ∷ misshapen (bare 16 3 0 0 0 2)  -- Bool
    ∷ misshapen (bare 14 0 0 0 2 0)  -- 1 for length, else 0
    ∷ misshapen (bare 15 0 0 0 2 0)  -- 1 for length, else 0
    ∷ misshapen (bare 31 0 0 0 0 4294967296)  -- ordinals
    ∷ misshapen (bare 32 0 0 0 0 4294967296)
    ∷ misshapen (bare 33 0 0 0 0 4294967296)
    ∷ []

-- the records that have 1 in one of the fields a, b, c and v that are 0 in this one
abbrev pub spoiled : Record → List Record
spoiled r =
    zeroed r.a (bare r.kind r.sub 1 r.b r.c r.v)
    ++ zeroed r.b (bare r.kind r.sub r.a 1 r.c r.v)
    ++ zeroed r.c (bare r.kind r.sub r.a r.b 1 r.v)
    ++ zeroed r.v (bare r.kind r.sub r.a r.b r.c 1)
  where
    zeroed : ℕ → Record → List Record
    zeroed x s = elim (eqb x 0) [ true ↦ s ∷ [] | false ↦ [] ]

-- a record of every kind and of every sub that has fields of its own: the fields that it uses are not 0
abbrev pub formed : List Record
formed =
    bare 1 13 0 0 0 0
    ∷ bare 2 1 9 0 0 0
    ∷ bare 3 5 0 0 0 0
    ∷ bare 4 0 9 0 0 0
    ∷ bare 5 0 9 9 0 0
    ∷ bare 6 0 9 9 0 0
    ∷ bare 7 0 9 0 0 0
    ∷ bare 7 1 9 0 0 0
    ∷ bare 7 2 9 0 0 9
    ∷ bare 7 3 9 0 0 0
    ∷ bare 7 9 9 0 0 0
    ∷ bare 8 0 9 9 0 0
    ∷ bare 9 0 9 0 0 0
    ∷ bare 10 0 0 0 0 9
    ∷ bare 10 1 0 0 0 9
    ∷ bare 10 2 0 0 0 9
    ∷ bare 10 3 0 0 0 9
    ∷ bare 10 4 0 0 0 1
    ∷ bare 11 0 9 0 0 0
    ∷ bare 12 0 9 9 0 0
    ∷ bare 13 0 9 9 0 0
    ∷ bare 13 1 9 9 0 0
    ∷ bare 13 2 9 0 0 0
    ∷ bare 14 0 9 0 1 0
    ∷ bare 15 0 9 9 1 0
    ∷ bare 16 0 0 0 0 9
    ∷ bare 16 1 0 0 0 9
    ∷ bare 16 2 9 0 0 0
    ∷ bare 16 3 0 0 0 1
    ∷ bare 16 4 0 0 0 9
    ∷ bare 16 5 9 0 0 0
    ∷ bare 20 0 9 0 0 0
    ∷ bare 21 0 9 0 0 0
    ∷ bare 22 0 9 9 0 0
    ∷ bare 23 0 9 9 0 0
    ∷ bare 24 0 9 9 9 0
    ∷ bare 25 0 9 0 0 0
    ∷ bare 30 0 9 0 0 0
    ∷ bare 31 0 9 9 9 9
    ∷ bare 32 0 0 0 9 9
    ∷ bare 33 0 9 0 0 9
    ∷ bare 34 0 0 0 0 0
    ∷ bare 35 0 9 0 0 9
    ∷ bare 35 1 9 0 0 9
    ∷ bare 35 2 9 0 0 0
    ∷ bare 36 0 9 0 0 0
    ∷ []

-- "Unused fields are zero"
abbrev pub unused : List TurnedBack
unused = map misshapen (flat_map spoiled formed)

abbrev pub u8 : Record
u8 = bare 1 1 0 0 0 0

abbrev pub int : Record
int = bare 10 0 0 0 0 0

abbrev pub operand : Record
operand = bare 16 0 0 0 0 0

-- "child not earlier, of the wrong group, or used before, also by the same record"
abbrev pub children : List TurnedBack
children =
    back (bare 7 0 0 0 0 0 ∷ []) 5 0  -- itself
    ∷ back (bare 7 0 1 0 0 0 ∷ u8 ∷ []) 5 0  -- later
    ∷ back (u8 ∷ bare 7 0 2 0 0 0 ∷ []) 5 1  -- no record at all
    ∷ back (u8 ∷ bare 7 0 65535 0 0 0 ∷ []) 5 1  -- 65,535 where none is not offered
    ∷ back (u8 ∷ bare 24 0 N1 0 65535 0 ∷ []) 5 1
    ∷ back (bare 20 0 N1 0 0 0 ∷ bare 31 0 N1 65535 65535 0 ∷ []) 5 1
    ∷ back (bare 20 0 N1 0 0 0 ∷ bare 32 0 0 0 2 0 ∷ []) 5 1  -- where it is offered, another number is a child
    ∷ back (bare 20 0 N1 0 0 0 ∷ u8 ∷ bare 31 0 N1 1 3 0 ∷ []) 5 2
    ∷ back (int ∷ bare 6 0 N1 0 0 0 ∷ []) 5 1  -- a constant where a type is meant
    ∷ back (int ∷ bare 7 0 0 0 0 0 ∷ []) 5 1
    ∷ back (int ∷ u8 ∷ bare 8 0 0 1 0 0 ∷ []) 5 2
    ∷ back (u8 ∷ int ∷ bare 8 0 0 1 0 0 ∷ []) 5 2
    ∷ back (int ∷ bare 22 0 N1 0 0 0 ∷ []) 5 1
    ∷ back (int ∷ bare 23 0 N1 0 0 0 ∷ []) 5 1
    ∷ back (int ∷ int ∷ bare 24 0 N1 0 1 0 ∷ []) 5 2
    ∷ back (bare 20 0 N1 0 0 0 ∷ int ∷ bare 31 0 N1 1 65535 0 ∷ []) 5 2
    ∷ back (bare 20 0 N1 0 0 0 ∷ int ∷ bare 32 0 0 0 1 0 ∷ []) 5 2
    ∷ back (bare 20 0 N1 0 0 0 ∷ bare 7 0 0 0 0 0 ∷ []) 5 1  -- a declaration is nobody's child
    ∷ back (u8 ∷ u8 ∷ bare 24 0 N1 0 1 0 ∷ []) 5 2  -- a type where a constant is meant
    ∷ back (u8 ∷ int ∷ bare 12 0 0 1 0 0 ∷ []) 5 2
    ∷ back (int ∷ operand ∷ bare 12 0 0 1 0 0 ∷ []) 5 2  -- an operand where a constant is meant
    ∷ back (operand ∷ bare 13 2 0 0 0 0 ∷ []) 5 1  -- an operand where a constraint is meant
    ∷ back (operand ∷ bare 14 0 0 0 0 0 ∷ operand ∷ bare 13 0 1 2 0 0 ∷ []) 5 3
    ∷ back (operand ∷ bare 14 0 0 0 0 0 ∷ operand ∷ bare 13 1 2 1 0 0 ∷ []) 5 3
    ∷ back (bare 20 0 N1 0 0 0 ∷ u8 ∷ operand ∷ bare 31 0 N1 1 2 0 ∷ []) 5 3
    ∷ back (int ∷ bare 14 0 0 0 0 0 ∷ []) 5 1  -- a constant where an operand is meant
    ∷ back (operand ∷ int ∷ bare 15 0 0 1 0 0 ∷ []) 5 2
    ∷ back (operand ∷ bare 14 0 0 0 0 0 ∷ operand ∷ bare 15 0 1 2 0 0 ∷ []) 5 3  -- a constraint for an operand
    ∷ back (u8 ∷ bare 7 0 0 0 0 0 ∷ bare 7 0 0 0 0 0 ∷ []) 5 2  -- used before, by a type that nothing uses
    ∷ back (u8 ∷ bare 22 0 N1 0 0 0 ∷ bare 22 0 N1 0 0 0 ∷ []) 5 2  -- used before, by a declaration; 7 comes behind 5
    ∷ back (operand ∷ bare 14 0 0 0 0 0 ∷ bare 14 1 0 0 0 0 ∷ []) 5 2
    ∷ back (u8 ∷ int ∷ bare 24 0 N1 0 1 0 ∷ u8 ∷ bare 24 0 N2 3 1 0 ∷ []) 5 4
    ∷ back (u8 ∷ bare 8 0 0 0 0 0 ∷ []) 5 1  -- twice by the same record
    ∷ back (int ∷ bare 12 0 0 0 0 0 ∷ []) 5 1
    ∷ back (operand ∷ bare 15 0 0 0 0 0 ∷ []) 5 1
    ∷ back (operand ∷ bare 14 0 0 0 0 0 ∷ bare 13 0 1 1 0 0 ∷ []) 5 2
    ∷ back (bare 31 0 N1 0 65535 0 ∷ []) 5 0  -- 6 comes behind 5
    ∷ []

-- books that end with a record of each kind, and with: a variant closed by the union's tombstone; a body ended by a 25
abbrev pub message : List Record
message = bare 20 0 N1 0 0 0 ∷ []

abbrev pub union : List Record
union = bare 21 0 N1 0 0 0 ∷ []

abbrev pub newtype : List Record
newtype = u8 ∷ bare 22 0 N1 0 0 0 ∷ []

abbrev pub alias : List Record
alias = u8 ∷ bare 23 0 N1 0 0 0 ∷ []

abbrev pub constant : List Record
constant = u8 ∷ int ∷ bare 24 0 N1 0 1 0 ∷ []

abbrev pub ambiguous : List Record
ambiguous = bare 25 0 N1 0 0 0 ∷ []

abbrev pub parameter : List Record
parameter = alias ++ (bare 30 0 N1 0 0 0 ∷ [])

abbrev pub field : List Record
field = message ++ (u8 ∷ bare 31 0 N1 1 65535 0 ∷ [])

abbrev pub tombstone : List Record
tombstone = message ++ (bare 32 0 0 0 65535 0 ∷ [])

abbrev pub variant : List Record
variant = union ++ (bare 33 0 N1 0 0 0 ∷ [])

abbrev pub annotation : List Record
annotation = message ++ (bare 34 0 0 0 0 0 ∷ [])

abbrev pub argument : List Record
argument = annotation ++ (bare 35 0 65535 0 0 0 ∷ [])

abbrev pub reason : List Record
reason = tombstone ++ (bare 36 0 0 0 0 0 ∷ [])

abbrev pub closed : List Record
closed = variant ++ (bare 32 1 0 0 65535 0 ∷ [])

abbrev pub ended : List Record
ended = message ++ (bare 25 0 N1 0 0 0 ∷ [])

abbrev pub ended_union : List Record
ended_union = variant ++ (bare 25 0 N1 0 0 0 ∷ [])

-- a record behind some others, under cause 6: "follow rule". The type of a field stands before it.
abbrev pub behind : Record → List Record → TurnedBack
behind r rs = back (rs ++ (r ∷ [])) 6 (length rs)

abbrev pub field_behind : List Record → TurnedBack
field_behind rs = back (rs ++ (u8 ∷ bare 31 0 N1 (length rs) 65535 0 ∷ [])) 6 (length rs + 1)

-- "30 follows 23 or 30"
abbrev pub parameters : List TurnedBack
parameters =
    map
    (behind (bare 30 0 N2 0 0 0))
    ([]
    ∷ message
    ∷ union
    ∷ newtype
    ∷ constant
    ∷ ambiguous
    ∷ field
    ∷ tombstone
    ∷ variant
    ∷ annotation
    ∷ argument
    ∷ reason
    ∷ [])

-- "34 follows 20, 31, 34 or 35"
abbrev pub annotations : List TurnedBack
annotations =
    map
    (behind (bare 34 0 0 0 0 0))
    ([]
    ∷ union
    ∷ newtype
    ∷ alias
    ∷ constant
    ∷ ambiguous
    ∷ parameter
    ∷ tombstone
    ∷ variant
    ∷ reason
    ∷ [])

-- "35 follows 34 or 35"
abbrev pub arguments : List TurnedBack
arguments =
    map
    (behind (bare 35 0 65535 0 0 0))
    ([]
    ∷ message
    ∷ union
    ∷ newtype
    ∷ alias
    ∷ constant
    ∷ ambiguous
    ∷ parameter
    ∷ field
    ∷ tombstone
    ∷ variant
    ∷ reason
    ∷ [])

-- "36 follows 32 or 36"
abbrev pub reasons : List TurnedBack
reasons =
    map
    (behind (bare 36 0 0 0 0 0))
    ([]
    ∷ message
    ∷ union
    ∷ newtype
    ∷ alias
    ∷ constant
    ∷ ambiguous
    ∷ parameter
    ∷ field
    ∷ variant
    ∷ annotation
    ∷ argument
    ∷ [])

-- "31 and 32 sub 0 need a message, or a union with a variant before them and no 32 sub 1 since the last one"
abbrev pub fields : List TurnedBack
fields =
    map
    field_behind
    ([]
    ∷ union
    ∷ newtype
    ∷ alias
    ∷ constant
    ∷ ambiguous
    ∷ parameter
    ∷ closed
    ∷ ended
    ∷ ended_union
    ∷ [])

-- the same for 32 sub 0
abbrev pub item_tombstones : List TurnedBack
item_tombstones =
    map
    (behind (bare 32 0 0 0 65535 0))
    ([]
    ∷ union
    ∷ newtype
    ∷ alias
    ∷ constant
    ∷ ambiguous
    ∷ parameter
    ∷ closed
    ∷ ended
    ∷ ended_union
    ∷ [])

-- "32 sub 1 and 33 need a union"
abbrev pub variants : List TurnedBack
variants =
    map
    (behind (bare 33 0 N2 0 0 0))
    ([]
    ∷ message
    ∷ newtype
    ∷ alias
    ∷ constant
    ∷ ambiguous
    ∷ parameter
    ∷ field
    ∷ tombstone
    ∷ annotation
    ∷ argument
    ∷ reason
    ∷ ended
    ∷ ended_union
    ∷ [])

-- the same for 32 sub 1
abbrev pub union_tombstones : List TurnedBack
union_tombstones =
    map
    (behind (bare 32 1 0 0 65535 0))
    ([]
    ∷ message
    ∷ newtype
    ∷ alias
    ∷ constant
    ∷ ambiguous
    ∷ parameter
    ∷ field
    ∷ tombstone
    ∷ annotation
    ∷ argument
    ∷ reason
    ∷ ended
    ∷ ended_union
    ∷ [])

-- "name declared again: 20-23 share one set, 24 and 25 have one each"; what has none of them stands in `edges`
-- (Edges.antt)
abbrev pub names : List TurnedBack
names =
    back (message ++ message) 7 1
    ∷ back (message ++ union) 7 1
    ∷ back (union ++ union) 7 1
    ∷ back (newtype ++ message) 7 2
    ∷ back (alias ++ message) 7 2
    ∷ back (alias ++ union) 7 2
    ∷ back (message ++ (u8 ∷ bare 22 0 N1 1 0 0 ∷ [])) 7 2
    ∷ back (message ++ (u8 ∷ bare 23 0 N1 1 0 0 ∷ [])) 7 2
    ∷ back (newtype ++ (u8 ∷ bare 23 0 N1 2 0 0 ∷ [])) 7 3
    ∷ back (parameter ++ (u8 ∷ bare 23 0 N1 3 0 0 ∷ [])) 7 4  -- a generic alias and a plain one
    ∷ back (constant ++ (u8 ∷ int ∷ bare 24 0 N1 3 4 0 ∷ [])) 7 5
    ∷ back (ambiguous ++ message ++ ambiguous) 7 2
    ∷ []

-- one child over another, m of them, the first over record n
unfoldable pub over : (ℕ → Record) → ℕ → ℕ → List Record
over parent zero n = []
over parent (suc m) n = parent n ∷ over parent m (suc n)

-- depth m + 1: "a leaf has depth 1"
abbrev pub optionals : ℕ → List Record
optionals m = u8 ∷ over (λ n. bare 7 0 n 0 0 0) m 0

-- "kinds 20 up add none"
abbrev pub optional_newtype : ℕ → List Record
optional_newtype m = optionals m ++ (bare 22 0 N1 m 0 0 ∷ [])

-- a generic's argument counts: depth m + 1
abbrev pub arguments64 : ℕ → List Record
arguments64 m = u8 ∷ over (λ n. bare 6 0 N1 n 0 0) m 0

-- operands count: depth m + 2
abbrev pub nots : ℕ → List Record
nots m = operand ∷ bare 14 0 0 0 0 0 ∷ over (λ n. bare 13 2 n 0 0 0) m 1

-- "tree deeper than 64"
abbrev pub depths : List TurnedBack
depths =
    back (optionals 64) 8 64
    ∷ back (arguments64 64) 8 64
    ∷ back (nots 63) 8 64
    ∷ []

-- depth 64 passes: none of causes 1 to 8
abbrev pub Passes : List Record → Type 0
Passes rs = first_refusal (book_of false rs) ≡ none

-- trees of depth 64
abbrev pub deepest : List (List Record)
deepest =
    optional_newtype 63
    ∷ arguments64 63
    ∷ nots 62
    ∷ []

-- a book of one record and of two blocks; byte i changed to x; the check of a block made right again
abbrev pub one : List ℕ
one = book_of false (u8 ∷ [])

abbrev pub two : List ℕ
two = book_of false (replicate 22 u8)

abbrev pub changed : ℕ → ℕ → List ℕ → List ℕ
changed i x bytes = write_at bytes i (x ∷ [])

abbrev pub rechecked : List ℕ → List ℕ
rechecked block = with_check (take 510 block)

-- block 0 or block 1 of `two` changed by a function
abbrev pub first_block : (List ℕ → List ℕ) → List ℕ
first_block f = f (take 512 two) ++ drop 512 two

abbrev pub second_block : (List ℕ → List ℕ) → List ℕ
second_block f = take 512 two ++ f (drop 512 two)

abbrev pub bytes : List ℕ → ℕ → ℕ → TurnedBack
bytes book cause place = record { book = book; cause = cause; place = place }

-- "length 0, above 32,768 or no multiple of 512"; 64 blocks of zeros have the length of a book, and a wrong check
abbrev pub lengths : List TurnedBack
lengths =
    bytes [] 1 0
    ∷ bytes (take 511 one) 1 0
    ∷ bytes (one ++ (0 ∷ [])) 1 0
    ∷ bytes (replicate 33280 0) 1 0
    ∷ bytes (replicate 32768 0) 2 0
    ∷ []

-- "check of a block": its last word or another byte changed; 0000 is not FFFF; before "another block rule" in its
-- block, behind one in an earlier block, before every record
abbrev pub checks : List TurnedBack
checks =
    bytes (changed 510 0 one) 2 0
    ∷ bytes (changed 511 0 one) 2 0
    ∷ bytes (changed 4 2 one) 2 0
    ∷ bytes (write_at (book_of false (rec 1 1 0 0 0 0 65276 1 ∷ [])) 510 (255 ∷ 255 ∷ [])) 2 0  -- the check is 0000
    ∷ bytes (changed 0 1 one) 2 0
    ∷ bytes (second_block (changed 511 0)) 2 1
    ∷ bytes (changed 1023 0 (first_block (λ b. rechecked (changed 0 1 b)))) 3 0
    ∷ bytes (changed 1023 0 (first_block (λ b. rechecked (changed 4 0 b)))) 2 1
    ∷ []

-- "another block rule"
abbrev pub block_rules : List TurnedBack
block_rules =
    bytes (rechecked (changed 0 1 one)) 3 0  -- its number
    ∷ bytes (rechecked (changed 1 1 one)) 3 0
    ∷ bytes (rechecked (changed 2 0 one)) 3 0  -- its record count
    ∷ bytes (rechecked (changed 2 22 one)) 3 0
    ∷ bytes (rechecked (changed 3 2 one)) 3 0  -- the wildcard byte
    ∷ bytes (rechecked (changed 508 1 one)) 3 0  -- bytes 508-509
    ∷ bytes (rechecked (changed 509 1 one)) 3 0
    ∷ bytes (rechecked (changed 28 1 one)) 3 0  -- unused record places
    ∷ bytes (rechecked (changed 507 1 one)) 3 0
    ∷ bytes (first_block (λ b. rechecked (changed 2 20 b))) 3 0  -- 21 in every block but the last
    ∷ bytes (second_block (λ b. rechecked (changed 0 0 b))) 3 1  -- the second block
    ∷ bytes (second_block (λ b. rechecked (changed 2 0 b))) 3 1
    ∷ bytes (second_block (λ b. rechecked (changed 3 1 b))) 3 1  -- no wildcard byte there
    ∷ bytes (second_block (λ b. rechecked (changed 28 1 b))) 3 1
    ∷ bytes (rechecked (changed 2 2 one)) 4 1  -- a second record of kind 0
    ∷ back (replicate 21 u8 ++ (bare 1 14 0 0 0 0 ∷ [])) 4 21  -- the first record of block 1
    ∷ []

-- A book, the bytes lent for results and for diagnostics, the cause and the place by which its lowering is stopped, and
-- how many bytes of each slice are zero then.
pub record Stopped : Type 0 where
  pub book : List Record
  pub results : ℕ
  pub diagnostics : ℕ
  pub cause : ℕ
  pub place : ℕ
  pub zero_results : ℕ
  pub zero_diagnostics : ℕ

abbrev pub stop : List Record → ℕ → ℕ → ℕ → ℕ → ℕ → ℕ → Stopped
stop book r d cause place zr zd =
    record {
      book = book;
      results = r;
      diagnostics = d;
      cause = cause;
      place = place;
      zero_results = zr;
      zero_diagnostics = zd;
    }

-- "On 9 and 10 each slice is zero up to its limit in bytes", past it as it was
abbrev pub zero_up_to : ℕ → List ℕ → List ℕ
zero_up_to n slice = replicate n 0 ++ drop n slice

-- What is claimed of each: in any two slices of these lengths it is refused so, and they are left so.
abbrev pub Stops : Stopped → Type 0
Stops s =
    (results diagnostics : List ℕ) →
    length results ≡ s.results →
    length diagnostics ≡ s.diagnostics →
    lower_book (book_of false s.book) results diagnostics
    ≡ record {
      reply = refused s.cause s.place;
      results = zero_up_to s.zero_results results;
      diagnostics = zero_up_to s.zero_diagnostics diagnostics;
    }

-- N1<T> = N1 of T, and N1 of u8: each target is a step deeper
abbrev pub endless : List Record
endless =
    bare 4 0 10 0 0 0
    ∷ bare 6 0 N1 0 0 0
    ∷ bare 23 0 N1 1 0 0
    ∷ bare 30 0 10 0 0 0
    ∷ u8
    ∷ bare 6 0 N1 4 0 0
    ∷ []

-- N1<T> = k optionals of T, and a newtype over N1 of N1 [..] of u8, m times N1: u8 is resolved at depth 1 + m × (k +
-- 2), since "a step to a child, a generic's target or a substituted argument adds 1"
abbrev pub towers : ℕ → ℕ → List Record
towers k m =
    bare 4 0 10 0 0 0
    ∷ over (λ n. bare 7 0 n 0 0 0) k 0
    ++ (bare 23 0 N1 k 0 0 ∷ bare 30 0 10 0 0 0 ∷ u8 ∷ [])
    ++ over (λ n. bare 6 0 N1 n 0 0) m (k + 3)
    ++ (bare 22 0 N2 (k + 3 + m) 0 0 ∷ [])

-- K1 and others with too little room, each result of a message, a union, tombstones, aliases having none; and resolving
-- that does not end
abbrev pub stops : List Stopped
stops =
    stop k1.book 95 23 10 7 72 0  -- K1 has 4 results: "one record more than a used limit"
    ∷ stop k1.book 95 47 10 7 72 24  -- of 47 bytes 24 are used
    ∷ stop k2.book 49 23 10 4 48 0  -- message 5, behind the type
    ∷ stop k2.book 23 24 10 4 0 24  -- the type, before message 5
    ∷ stop k2.book 47 24 10 4 24 24  -- the 41
    ∷ stop k10.book 72 0 10 10 72 0  -- message 1 of the newtype
    ∷ stop delta_and_union.book 0 24 10 0 0 24  -- 42
    ∷ stop delta_and_union.book 24 24 10 3 24 24  -- type
    ∷ stop delta_and_union.book 48 24 10 3 48 24  -- 45
    ∷ stop delta_and_union.book 72 24 10 3 72 24  -- 46
    ∷ stop delta_and_union.book 96 24 10 4 96 24  -- 43
    ∷ stop delta_and_union.book 120 24 10 5 120 24  -- 44
    ∷ stop delta_and_union.book 144 24 10 7 144 24  -- type
    ∷ stop delta_and_union.book 168 24 10 7 168 24  -- 45
    ∷ stop delta_and_union.book 192 24 10 7 192 24  -- 46
    ∷ stop tombstones.book 24 24 10 1 24 24  -- 47
    ∷ stop tombstones.book 48 24 10 8 48 24  -- type
    ∷ stop tombstones.book 72 24 10 8 72 24  -- 47
    ∷ stop tombstones.book 96 24 10 12 96 24  -- 47
    ∷ stop and_not.book 48 24 10 9 48 24  -- operand
    ∷ stop and_not.book 120 24 10 9 120 24  -- operand
    ∷ stop and_not.book 192 24 10 9 192 24  -- constraint
    ∷ stop and_not.book 216 24 10 9 216 24  -- 45
    ∷ stop plain_aliases.book 24 24 10 1 24 24  -- 40
    ∷ stop plain_aliases.book 600 23 10 1 600 0  -- message 1 of an alias
    ∷ stop plain_aliases.book 240 24 10 8 240 24  -- a copy
    ∷ stop plain_aliases.book 504 24 10 12 504 24  -- 48
    ∷ stop (endless ++ (bare 22 0 N2 5 0 0 ∷ [])) 0 0 9 6 0 0  -- "resolving deeper than 64", nothing is written
    ∷ stop (endless ++ (bare 22 0 N2 5 0 0 ∷ [])) 50 30 9 6 48 24
    ∷ stop (endless ++ (u8 ∷ bare 8 0 6 5 0 0 ∷ bare 22 0 N2 7 0 0 ∷ [])) 23 24 10 8 0 24  -- "first met" is 10
    ∷ stop (endless ++ (u8 ∷ bare 8 0 5 6 0 0 ∷ bare 22 0 N2 7 0 0 ∷ [])) 23 24 9 8 0 24  -- map of too deep, u8
    ∷ stop (endless ++ (bare 23 0 N2 5 0 0 ∷ [])) 24 24 9 6 24 24  -- the place of an alias
    ∷ []

-- u8 at depth 65 is one too deep, and nothing is written before
abbrev pub deep_stops : List Stopped
deep_stops =
    stop (towers 6 8) 0 0 9 18 0 0
    ∷ []

-- a book in slices that hold just its records
abbrev pub Enough : Known → Type 0
Enough k =
    (results diagnostics : List ℕ) →
    length results ≡ 24 * length k.results →
    length diagnostics ≡ 24 * length k.diagnostics →
    lower_book (book_of k.wildcards k.book) results diagnostics
    ≡ leaving k.reply k.results k.diagnostics results diagnostics

-- u8 at depth 64 is not too deep
abbrev pub deep_tower : Known
deep_tower =
    record {
      wildcards = false;
      book = towers 7 7;
      reply = accepted 51 0 0;
      results = optionals 49 ++ (bare 48 0 N2 49 0 0 ∷ []);
      diagnostics = [];
      says = [];
    }

-- these, in slices of just their size
abbrev pub enough : List Known
enough = k1 ∷ k2 ∷ deep_tower ∷ []

-- all of them. The proofs are in proofs/Refused.antt.
pub record RefusedBooks : Type 0 where
  pub lengths : All TurnsBack lengths
  pub checks : All TurnsBack checks
  pub block_rules : All TurnsBack block_rules
  pub kinds : All TurnsBack kinds
  pub subs : All TurnsBack subs
  pub bounds : All TurnsBack bounds
  pub unused : All TurnsBack unused
  pub children : All TurnsBack children
  pub parameters : All TurnsBack parameters
  pub annotations : All TurnsBack annotations
  pub arguments : All TurnsBack arguments
  pub reasons : All TurnsBack reasons
  pub fields : All TurnsBack fields
  pub item_tombstones : All TurnsBack item_tombstones
  pub variants : All TurnsBack variants
  pub union_tombstones : All TurnsBack union_tombstones
  pub names : All TurnsBack names
  pub depths : All TurnsBack depths
  pub deepest : All Passes deepest
  pub stops : All Stops stops
  pub deep_stops : All Stops deep_stops
  pub enough : All Enough enough
