-- Type numbers that a book's declarations have, and its aliases: `register_declarations` of the original. Words in
-- quotation marks are rules of docs/FORMAT.md in brief.
-- Assumes nothing.
use Rattle.std.specs.Prelude.{ℕ, Bool, not, List, [], ◌∷◌, ◌++◌, map, length}
use Rattle.book.specs.Lists.{any, keep, numbered_from}
use Rattle.book.specs.Faults.{is_kind}
use Rattle.book.specs.Outline.{Book, ◌!◌, is_one_of, numbers_of, notes}
use Rattle.types.specs.Resolved.{Names}

-- the type parameters (30) of an alias
unfoldable pub parameters : Book → ℕ → List ℕ
parameters book n = map (λ r. r.a) (keep (is_kind 30) (notes book n))

-- an alias with a type parameter is generic, another one plain
abbrev is_generic : Book → ℕ → Bool
is_generic book n = any (is_kind 30) (notes book n)

-- the record numbers of the generic aliases, in book order
unfoldable pub generic_aliases : Book → List ℕ
generic_aliases book = keep (is_generic book) (numbers_of (is_kind 23) book)

-- and of the plain ones
unfoldable pub plain_aliases : Book → List ℕ
plain_aliases book = keep (λ n. not (is_generic book n)) (numbers_of (is_kind 23) book)

-- messages, unions and newtypes
unfoldable pub type_declarations : Book → List ℕ
type_declarations book = numbers_of (is_one_of (20 ∷ 21 ∷ 22 ∷ [])) book

-- a generic alias: the name of its first parameter, and its target
pub record Generic : Type 0 where
  pub parameter : ℕ
  pub target : ℕ

-- "Only the first parameter is replaced"
unfoldable pub generic_at : Book → ℕ → Generic
generic_at book n = record { parameter = first (parameters book n); target = (book ! n).b }
  where
    first : List ℕ → ℕ
    first [] = 0
    first (p ∷ ps) = p

-- generic aliases by their type numbers
unfoldable pub generics : Book → List (ℕ × Generic)
generics book = numbered_from (length (type_declarations book)) (map (generic_at book) (generic_aliases book))

-- "20-22 numbered from 0, then generic aliases, then stubs as met"
unfoldable pub register_declarations : Book → Names
register_declarations book =
    let ns : List ℕ = map (λ n. (book ! n).a) (type_declarations book ++ generic_aliases book) in
    record {
      next = length ns;
      numbers = map (λ x. (x.1, x.0)) (numbered_from 0 ns);
      pairs = [];
      aliases = [];
    }
