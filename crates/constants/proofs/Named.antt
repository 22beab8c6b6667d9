-- A reached constant of a book has the name of its record.
-- Assumes nothing.
use mathlib.Core.List.{List, [], ◌∷◌}
use mathlib.Core.Path.{◌≡◌, refl}
use Rattle.book.specs.Lists.{All}
use Rattle.book.specs.Outline.{Book, ◌!◌}
use Rattle.constants.specs.Eval.{Table, empty, store, eval_const_expr}
use Rattle.constants.specs.Order.{Constant, settle, outcome}
use Rattle.constants.specs.OfBook.{constant_at, settled}
use Rattle.constants.proofs.Values.{all_ordered}

-- what is settled are these constants
all-settle : (P : Constant → Type 0) (t : Table) (cs : List Constant) → All P cs → All (λ x. P x.constant) (settle t cs)
unfolding settle
all-settle P t [] h = tt
all-settle P t (c ∷ cs) h = (h.0, all-settle P (store t c.name (eval_const_expr t c.expr)) cs h.1)

pub settled_named : (book : Book) → All (λ x. (book ! x.constant.place).a ≡ x.constant.name) (settled book)
unfolding settled outcome constant_at
settled_named book = all-settle (λ c. (book ! c.place).a ≡ c.name) empty _ (all_ordered _ book (λ n. refl))
