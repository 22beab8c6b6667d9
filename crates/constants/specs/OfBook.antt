-- The constants of a book. Words in quotation marks are rules of docs/FORMAT.md in brief.
-- Assumes nothing.
use Rattle.std.specs.Prelude.{ℕ, List, map}
use Rattle.book.specs.Faults.{is_kind}
use Rattle.book.specs.Outline.{Book, ◌!◌, numbers_of}
use Rattle.constants.specs.Expr.{expr_at}
use Rattle.constants.specs.Eval.{empty}
use Rattle.constants.specs.Order.{Constant, Settled, each, outcome}

-- "24 constant (b type, c expression)"; trees have at most 64 levels
unfoldable pub constant_at : Book → ℕ → Constant
constant_at book n =
    record { place = n; name = (book ! n).a; expr = expr_at 64 book.records (book ! n).c }

-- the declared constants, in book order
unfoldable pub constants : Book → List Constant
constants book = map (constant_at book) (numbers_of (is_kind 24) book)

-- the reached constants of a book in their order, no constant having a value beforehand
unfoldable pub settled : Book → List Settled
settled book = outcome each empty (constants book)
