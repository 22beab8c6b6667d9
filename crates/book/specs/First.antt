-- What is claimed of the first refusal; the proofs are in proofs/First.antt. Words in quotation marks are rules of
-- docs/FORMAT.md in brief.
-- Assumes nothing.
use Rattle.std.specs.Prelude.{ℕ, Bool, true, ◌&&◌, ◌||◌, List, ◌↔◌, ◌≡◌, ltb, eqb}
use Rattle.std.proofs.Math.Option.{some, none}
use Rattle.book.specs.Blocks.{blocks, record_count, records}
use Rattle.book.specs.Refusal.{Cause, book_length, check, block, shape, child, follow, name, depth}
use Rattle.book.specs.Refusal.{Refusal, number, faulty, first_refusal}

-- the place of a cause: 0, a block of the book, or a record of the book
unfoldable pub has_place : List ℕ → Cause → ℕ → Bool
has_place book book_length p = eqb p 0
has_place book check k = ltb k (blocks book)
has_place book block k = ltb k (blocks book)
has_place book shape n = ltb n (record_count book)
has_place book child n = ltb n (record_count book)
has_place book follow n = ltb n (record_count book)
has_place book name n = ltb n (record_count book)
has_place book depth n = ltb n (record_count book)

-- the row holds there
abbrev pub Holds : List ℕ → Refusal → Type 0
Holds book x = faulty book (records book) x.cause x.place ≡ true

-- the length, the blocks, the records
unfoldable pub part : Cause → ℕ
part book_length = 0
part check = 1
part block = 1
part shape = 2
part child = 2
part follow = 2
part name = 2
part depth = 2

-- "Order: 1; blocks upward, 2 before 3; records upward, 4 to 8 within each"
unfoldable pub earlier : Refusal → Refusal → Bool
earlier x y =
    ltb (part x.cause) (part y.cause)
    || eqb (part x.cause) (part y.cause)
    && (ltb x.place y.place || eqb x.place y.place && ltb (number x.cause) (number y.cause))

-- the row of x holds at its place, and no earlier one does at its own
pub record IsFirst (book : List ℕ) (x : Refusal) : Type 0 where
  pub there : has_place book x.cause x.place ≡ true
  pub holds : Holds book x
  pub none_earlier :
      (y : Refusal) → has_place book y.cause y.place ≡ true → earlier y x ≡ true → Holds book y → ⊥

-- refused by a cause at a place exactly if its row is the first that holds
abbrev pub RefusedByTheFirst : Type 0
RefusedByTheFirst = (book : List ℕ) (x : Refusal) → (first_refusal book ≡ some x) ↔ IsFirst book x

-- none refuses exactly if no row holds anywhere
abbrev pub PassedByAll : Type 0
PassedByAll =
    (book : List ℕ) →
    (first_refusal book ≡ none) ↔ ((y : Refusal) → has_place book y.cause y.place ≡ true → Holds book y → ⊥)
