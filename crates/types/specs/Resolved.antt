-- Resolved types: `ResolvedType` of the original, and the tables that names are looked up in. Words in quotation marks
-- are rules of docs/FORMAT.md in brief.
-- Assumes nothing.
use Rattle.std.specs.Prelude.{ℕ, suc, ◌&&◌, List, [], ◌∷◌, ◌++◌, eqb}
use Rattle.std.proofs.Math.Option.{Option, some, none, map, or_else}
use Rattle.book.specs.Lists.{find}

-- "types 1-3, 7-9; 4 with type number in v"
pub data ResolvedType : Type 0 where
  -- its sub
  primitive : ℕ → ResolvedType
  -- its sub and its bits
  sub_byte : ℕ → ℕ → ResolvedType
  -- its sub
  semantic : ℕ → ResolvedType
  -- its type number: `Named(TypeId)`
  named : ℕ → ResolvedType
  -- `Optional` to `Mat4`: sub, size, child
  one_child : ℕ → ℕ → ResolvedType → ResolvedType
  -- `Map` and `Result`: sub, children
  two_children : ℕ → ResolvedType → ResolvedType → ResolvedType
  -- its list number
  inline_bits : ℕ → ResolvedType

-- "poison 4,294,967,295": `POISON_TYPE_ID`
abbrev pub POISON : ℕ
POISON = 4294967295

-- what is known of names while a book is lowered: the type registry of the original, as tables in book order
pub record Names : Type 0 where
  -- the number that is given next
  pub next : ℕ
  -- a name's own number: declarations 20 to 22, generic aliases, stubs
  pub numbers : List (ℕ × ℕ)
  -- stubs of qualified names: namespace, name, number
  pub pairs : List ((ℕ × ℕ) × ℕ)
  -- plain aliases, as far as they are lowered
  pub aliases : List (ℕ × ResolvedType)

-- the first entry under a key
unfoldable pub entry : {A : Type 0} → ℕ → List (ℕ × A) → Option A
entry n l = map (λ x. x.1) (find (λ x. eqb x.0 n) l)

-- "the name's own number"
unfoldable pub own_number : Names → ℕ → Option ℕ
own_number s n = entry n s.numbers

-- `lookup_alias`
unfoldable pub alias_of : Names → ℕ → Option ResolvedType
alias_of s n = entry n s.aliases

-- "known pair"
unfoldable pub pair_number : Names → ℕ → ℕ → Option ℕ
pair_number s space n = map (λ x. x.1) (find (λ x. eqb x.0.0 space && eqb x.0.1 n) s.pairs)

-- the number that a type is
unfoldable pub as_number : Option ResolvedType → Option ℕ
as_number (some (named n)) = some n
as_number (some (primitive p)) = none
as_number (some (sub_byte p b)) = none
as_number (some (semantic p)) = none
as_number (some (one_child p v t)) = none
as_number (some (two_children p l r)) = none
as_number (some (inline_bits n)) = none
as_number none = none

-- `TypeRegistry::lookup`: "Lookup tries the name's own number, then a plain alias to one; poison counts."
unfoldable pub lookup : Names → ℕ → Option ℕ
lookup s n = or_else (own_number s n) (as_number (alias_of s n))

-- `register_stub`: the next number for a name
unfoldable pub with_stub : ℕ → Names → Names
with_stub n s =
    record {
      next = suc s.next;
      numbers = s.numbers ++ ((n, s.next) ∷ []);
      pairs = s.pairs;
      aliases = s.aliases;
    }

-- the same for a qualified name
unfoldable pub with_pair : ℕ → ℕ → Names → Names
with_pair space n s =
    record {
      next = suc s.next;
      numbers = s.numbers;
      pairs = s.pairs ++ (((space, n), s.next) ∷ []);
      aliases = s.aliases;
    }

-- a plain alias that is lowered
unfoldable pub with_alias : ℕ → ResolvedType → Names → Names
with_alias n t s =
    record {
      next = s.next;
      numbers = s.numbers;
      pairs = s.pairs;
      aliases = s.aliases ++ ((n, t) ∷ []);
    }
