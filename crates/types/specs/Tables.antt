-- The code's tables by name, as plain lists.
-- Assumes nothing.
use Rattle.std.specs.Prelude.{ℕ, ◌+◌, ◌-◌, ◌&&◌, ◌==◌, nat_lt, min, if◌then◌else◌, List, Bool, false, find, ◌∷◌, [], ◌++◌, length, slice_index_or, slice_get, slice_set, Option, Some, None, option_map}
use Rattle.record.specs.declared.type_id.TypeId.{TypeId}
use Rattle.types.specs.declared.names.Names.{Names}
use Rattle.types.specs.declared.names.Place.{Place}
use Rattle.types.specs.declared.names.Pair.{Pair}
use Rattle.types.specs.declared.names.Generic.{Generic}

pub record Tables : Type 0 where
  -- there is an entry for the names below
  pub bound : ℕ
  -- there is room for so many generic aliases, and for so many pairs
  pub room : ℕ
  -- messages, unions and newtypes have the numbers below
  pub types : ℕ
  -- the number that is given next
  pub next : ℕ
  pub numbers : List (Option TypeId)
  pub aliases : List (Option Place)
  pub ambiguous : List Bool
  pub generics : List Generic
  pub pairs : List Pair

abbrev pub tables : (N P : ℕ) → Names N P → Tables
tables N P s =
    record {
      bound = N;
      room = P;
      types = s.types;
      next = s.next;
      numbers = s.numbers;
      aliases = s.aliases;
      ambiguous = s.ambiguous;
      generics = s.generics.items;
      pairs = s.pairs.items;
    }

-- a type number
abbrev pub type_id : ℕ → TypeId
type_id n = record { 0 = n }

-- the name's own number
abbrev pub number_in : Tables → ℕ → Option TypeId
number_in s name = if nat_lt name s.bound then slice_index_or s.numbers name None else None

-- where the type of a plain alias stands
abbrev pub alias_in : Tables → ℕ → Option Place
alias_in s name = if nat_lt name s.bound then slice_index_or s.aliases name None else None

-- the name is ambiguous between wildcard imports
abbrev pub is_marked : Tables → ℕ → Bool
is_marked s name = nat_lt name s.bound && slice_index_or s.ambiguous name false

-- the number of a qualified name
abbrev pub pair_in : Tables → ℕ → ℕ → Option TypeId
pair_in s space name =
    option_map (λ p. p.number) (find (λ p. p.name == name && p.space == space) s.pairs)

abbrev pub no_pair : Pair
no_pair = record { space = 0; name = 0; number = type_id 0 }

-- the generic alias with a number
abbrev pub generic_in : Tables → ℕ → Option Generic
generic_in s number =
    if nat_lt number s.types then None else slice_get s.generics (number - s.types)

-- the number behind the next
abbrev pub after_next : Tables → ℕ
after_next s = min (s.next + 1) 4294967295

-- the next number is that of a name
abbrev pub stubbed : Tables → ℕ → Tables
stubbed s name =
    record s {
      next = after_next s;
      numbers = if nat_lt name s.bound then slice_set s.numbers name (Some (type_id s.next)) else s.numbers;
    }

-- the next number is that of a qualified name
abbrev pub paired : Tables → ℕ → ℕ → Tables
paired s space name =
    record s {
      next = after_next s;
      pairs =
          if nat_lt (length s.pairs) s.room
          then s.pairs ++ record { space = space; name = name; number = type_id s.next } ∷ []
          else s.pairs;
    }

-- a plain alias is lowered
abbrev pub aliased : Tables → ℕ → Place → Tables
aliased s name place =
    record s { aliases = if nat_lt name s.bound then slice_set s.aliases name (Some place) else s.aliases }
