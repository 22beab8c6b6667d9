-- Which constants are reached, in which order, and what each is worth: `evaluate_constants` of the original, with its
-- order fixed. Words in quotation marks are rules of docs/FORMAT.md in brief.
-- Assumes nothing.
use Rattle.std.specs.Prelude.{ℕ, zero, suc, Bool, true, false, not, ◌&&◌, ◌≡◌, eqb, ℤ, length}
use mathlib.Core.List.{List, [], ◌∷◌, Memᴰ}
use Rattle.std.proofs.Math.Option.{Option, some, none}
use Rattle.book.specs.Lists.{any, find, keep}
use Rattle.constants.specs.Expr.{Expr, refs}
use Rattle.constants.specs.Eval.{Table, store, eval_const_expr}

-- a declared constant: its record number, its name and its expression
pub record Constant : Type 0 where
  pub place : ℕ
  pub name : ℕ
  pub expr : Expr

-- how a name counts that an expression names more than once. By the format `each` time; `once` is for a second way to
-- lower.
pub data Way : Type 0 where
  each once : Way

-- a name is among some
abbrev pub has : ℕ → List ℕ → Bool
has n ns = any (λ m. eqb m n) ns

-- "declared": anywhere among the constants
abbrev pub declares : List Constant → ℕ → Bool
declares cs n = any (λ c. eqb c.name n) cs

-- the declared constants that c names, one entry for each place
unfoldable pub declared_refs : List Constant → Constant → List ℕ
declared_refs cs c = keep (declares cs) (refs c.expr)

-- some name comes twice
unfoldable pub repeats : List ℕ → Bool
repeats [] = false
repeats (n ∷ ns) = elim (has n ns) [ true ↦ true | false ↦ repeats ns ]

-- "its expression names no declared constant twice"
unfoldable pub admits : Way → List Constant → Constant → Bool
admits each cs c = not (repeats (declared_refs cs c))
admits once cs c = true

-- "A constant is reached if its expression names no declared constant twice and all those it names are reached (least
-- such set)"
pub data Reached (w : Way) (cs : List Constant) : Constant → Type 0 where
  reached :
      {c : Constant} →
      Memᴰ c cs →
      admits w cs c ≡ true →
      ((d : Constant) → Memᴰ d cs → has d.name (refs c.expr) ≡ true → Reached w cs d) →
      Reached w cs c

-- c is not done, it is admitted, and the declared constants that it names are done; `done` are names
unfoldable pub ready : Way → List Constant → List ℕ → Constant → Bool
ready w cs done c =
    not (has c.name done)
    && admits w cs c
    && not (any (λ n. not (has n done)) (declared_refs cs c))

-- "always the earliest reached one whose declared references are done": at most `most` of them
unfoldable pub order_from : ℕ → Way → List Constant → List ℕ → List Constant
order_from zero w cs done = []
order_from (suc most) w cs done =
    elim (find (ready w cs done) cs) [ none ↦ [] | some c ↦ c ∷ order_from most w cs (c.name ∷ done) ]

-- the order in which the reached constants are done: each comes at most once
unfoldable pub order : Way → List Constant → List Constant
order w cs = order_from (length cs) w cs []

-- a constant and its value, or none
pub record Settled : Type 0 where
  pub constant : Constant
  pub value : Option ℤ

-- "evaluated over stored values", one after the other
unfoldable pub settle : Table → List Constant → List Settled
settle t [] = []
settle t (c ∷ cs) =
    let value : Option ℤ = eval_const_expr t c.expr in
    record { constant = c; value = value } ∷ settle (store t c.name value) cs

-- the reached constants in their order, each with its value over a table of values beforehand
unfoldable pub outcome : Way → Table → List Constant → List Settled
outcome w t cs = settle t (order w cs)
