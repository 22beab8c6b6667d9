-- An evaluation over arrays of marks and bits: what it answers and leaves, for a book and a table of values
-- beforehand. Words in quotation marks are rules of docs/FORMAT.md in brief.
-- Assumes nothing.
use Rattle.std.specs.Prelude.{ℕ, ◌≤◌, ◌<◌, cond, get_or, Bool, true, false, List, [], ◌∷◌, ◌++◌, map, ◌≡◌, ℤ, length, drop, set}
use Rattle.std.proofs.Math.Option.{Option, some, none}
use Rattle.arith.specs.Word.{signed, word}
use Rattle.book.specs.Blocks.{record_count, records}
use Rattle.book.specs.Faults.{record_of}
use Rattle.book.specs.Trees.{Readable}
use Rattle.book.specs.Outline.{read}
use Rattle.constants.specs.Eval.{Table}
use Rattle.constants.specs.Order.{Settled, each, outcome}
use Rattle.constants.specs.OfBook.{constants}

-- the values of names, from the arrays that hold them: which names have one, and its 64 bits
unfoldable pub table_of : List Bool → List ℕ → Table
table_of known worth n = cond (get_or known n false) (some (signed (get_or worth n 0))) none

-- record n of a readable book is a constant
pub record IsConstant (book : List ℕ) (n : ℕ) : Type 0 where
  pub readable : Readable book
  pub here : n < record_count book
  pub kind : (record_of (records book) n).kind ≡ 24

-- the names of a book's constants are below a number
abbrev pub NamesBelow : List ℕ → ℕ → Type 0
NamesBelow book most = (n : ℕ) → IsConstant book n → (record_of (records book) n).a < most

-- xs at the front of a list, the rest as it is
unfoldable pub filled : {A : Type 0} → List A → List A → List A
filled xs l = xs ++ drop (length xs) l

-- of a constant: its record number; whether it is stored; its "value or 0"
abbrev pub place_of : Settled → ℕ
place_of x = x.constant.place

unfoldable pub has_value : Option ℤ → Bool
has_value (some z) = true
has_value none = false

unfoldable pub value_or_0 : Option ℤ → ℕ
value_or_0 (some z) = word z
value_or_0 none = 0

-- the arrays of values when a constant was settled: a value is stored under its name, none changes nothing
unfoldable pub known_then : ℕ → Option ℤ → List Bool → List Bool
known_then name (some z) known = set known name true
known_then name none known = known

unfoldable pub worth_then : ℕ → Option ℤ → List ℕ → List ℕ
worth_then name (some z) worth = set worth name (word z)
worth_then name none worth = worth

-- and when some were, one after the other
unfoldable pub known_behind : List Settled → List Bool → List Bool
known_behind [] known = known
known_behind (x ∷ xs) known = known_behind xs (known_then x.constant.name x.value known)

unfoldable pub worth_behind : List Settled → List ℕ → List ℕ
worth_behind [] worth = worth
worth_behind (x ∷ xs) worth = worth_behind xs (worth_then x.constant.name x.value worth)

-- the constants of a book with their values, over a table beforehand that arrays hold: the first says which names have
-- a value, the second its bits
unfoldable pub outcome_over : List ℕ → List Bool → List ℕ → List Settled
outcome_over book known worth = outcome each (table_of known worth) (constants (read book))

-- the arrays have room: by name for the names of a book's constants, and by number for m of them
pub record Long (book : List ℕ) (m : ℕ) (known : List Bool) (worth order : List ℕ) (stored : List Bool) (values : List ℕ) : Type 0 where
  pub names : NamesBelow book (length known)
  pub worth_is : length worth ≡ length known
  pub order_is : m ≤ length order
  pub stored_is : m ≤ length stored
  pub values_are : m ≤ length values

-- what is left: the reached constants in their order, each by its record number, whether it is stored, and its value or
-- 0; behind them the arrays are as lent. The values stored stand under their names.
pub record Evaluated
    (xs : List Settled) (n : ℕ) (known known' : List Bool) (worth worth' order order' : List ℕ) (stored stored' : List Bool)
    (values values' : List ℕ) : Type 0 where
  pub count : n ≡ length xs
  pub order_is : order' ≡ filled (map place_of xs) order
  pub stored_is : stored' ≡ filled (map (λ x. has_value x.value) xs) stored
  pub values_are : values' ≡ filled (map (λ x. value_or_0 x.value) xs) values
  pub known_is : known' ≡ known_behind xs known
  pub worth_is : worth' ≡ worth_behind xs worth
