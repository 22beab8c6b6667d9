-- What registering the declarations of a book does to the code's tables.
-- Assumes nothing.
use Rattle.std.specs.Prelude.{ℕ, ◌+◌, not, nat_lt, if◌then◌else◌, List, [], ◌∷◌, ◌++◌, length, Bool, true, false, Option, Some, None, Result, Ok, drop, replicate, slice_set}
use Rattle.record.specs.declared.kind.Kind.{Kind}
use Rattle.record.specs.declared.kind.Kind.TheVariants.{Message, Union, Newtype, Alias, Ambiguous, TypeParameter, Annotation, Argument, TombstoneArgument}
use Rattle.record.specs.declared.kind.UnknownKind.{UnknownKind}
use Rattle.record.specs.declared.Record.{Record}
use Rattle.record.specs.Kind.{kind_from}
use Rattle.book.specs.Outline.{Book, ◌!◌}
use Rattle.types.specs.declared.names.Generic.{Generic}
use Rattle.types.specs.Tables.{Tables, stubbed}

-- nothing is known of any name below a number, and there is room for so many generic aliases and pairs
abbrev pub nothing_known : ℕ → ℕ → Tables
nothing_known bound room =
    record {
      bound = bound;
      room = room;
      types = 0;
      next = 0;
      numbers = replicate bound None;
      aliases = replicate bound None;
      ambiguous = replicate bound false;
      generics = [];
      pairs = [];
    }

-- a name is ambiguous between wildcard imports
abbrev pub marked : Tables → ℕ → Tables
marked s name =
    record s { ambiguous = if nat_lt name s.bound then slice_set s.ambiguous name true else s.ambiguous }

-- the next number is that of a generic alias
abbrev pub with_generic : Tables → ℕ → Generic → Tables
with_generic s name g =
    record (stubbed s name) {
      generics = if nat_lt (length s.generics) s.room then s.generics ++ g ∷ [] else s.generics;
    }

-- a declaration, by its kind: messages, unions and newtypes have the next number, and ambiguous names are marked
abbrev pub with_type : Record → Result Kind UnknownKind → Tables → Tables
with_type r (Ok Message) s = stubbed s r.a
with_type r (Ok Union) s = stubbed s r.a
with_type r (Ok Newtype) s = stubbed s r.a
with_type r (Ok Ambiguous) s = marked s r.a
with_type r kind s = s

-- some declarations, one after the other
unfoldable pub with_types : Book → List ℕ → Tables → Tables
with_types book [] s = s
with_types book (n ∷ ns) s = with_types book ns (with_type (book ! n) (kind_from (book ! n).kind) s)

-- what may stand between an alias and its type parameters: types, annotations and arguments
abbrev pub is_passed_over : Record → Result Kind UnknownKind → Bool
is_passed_over r (Ok Annotation) = true
is_passed_over r (Ok Argument) = true
is_passed_over r (Ok TombstoneArgument) = true
is_passed_over r kind = not (nat_lt 16 r.kind)

-- the name of a type parameter
abbrev pub parameter_of : Record → Result Kind UnknownKind → Option ℕ
parameter_of r (Ok TypeParameter) = Some r.a
parameter_of r kind = None

-- what the first of some records that is not passed over is the parameter of
unfoldable pub parameter_in : List Record → Option ℕ
parameter_in [] = None
parameter_in (r ∷ rs) =
    if is_passed_over r (kind_from r.kind) then parameter_in rs else parameter_of r (kind_from r.kind)

-- that of the alias at record n
abbrev pub parameter_behind : Book → ℕ → Option ℕ
parameter_behind book n = parameter_in (drop (n + 1) book.records)

abbrev pub with_parameter : Record → Option ℕ → Tables → Tables
with_parameter r (Some p) s = with_generic s r.a (record { parameter = p; target = r.b })
with_parameter r None s = s

-- a declaration, by its kind: a generic alias has the next number
abbrev pub with_alias : Record → Result Kind UnknownKind → Option ℕ → Tables → Tables
with_alias r (Ok Alias) p s = with_parameter r p s
with_alias r kind p s = s

-- some declarations, one after the other
unfoldable pub with_aliases : Book → List ℕ → Tables → Tables
with_aliases book [] s = s
with_aliases book (n ∷ ns) s =
    with_aliases book ns (with_alias (book ! n) (kind_from (book ! n).kind) (parameter_behind book n) s)

-- the numbers given so far are those of messages, unions and newtypes
abbrev pub types_numbered : Tables → Tables
types_numbered s = record s { types = s.next }

-- the declarations of a book: messages, unions and newtypes first, then generic aliases
abbrev pub registered : Book → List ℕ → Tables → Tables
registered book ns s = with_aliases book ns (types_numbered (with_types book ns s))

-- record n is an alias without a type parameter
abbrev pub is_plain : Result Kind UnknownKind → Option ℕ → Bool
is_plain (Ok Alias) None = true
is_plain (Ok Alias) (Some p) = false
is_plain kind p = false
