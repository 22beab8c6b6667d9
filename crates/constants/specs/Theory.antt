-- What is claimed of lists of constants with distinct names, for either way of counting repeated names and any table of
-- values beforehand; no bytes. The proofs are in proofs/Order.antt and proofs/Final.antt. Words in quotation marks are
-- rules of docs/FORMAT.md in brief.
-- Assumes nothing.
use Rattle.std.specs.Prelude.{ℕ, true, false, ◌↔◌, ◌≡◌, ℤ}
use mathlib.Core.List.{List, [], ◌∷◌, ◌++◌, Memᴰ}
use Rattle.std.proofs.Math.Option.{Option, some, or_else}
use Rattle.constants.specs.Eval.{Table, empty, store, eval_const_expr}
use Rattle.constants.specs.Expr.{refs}
use Rattle.constants.specs.Order.{Constant, Way, Settled, Reached, has, admits, ready, order, settle, outcome}
use Rattle.constants.specs.Stored.{Stored}

-- a name is declared by one constant, which may stand in the list more than once
abbrev pub Distinct : List Constant → Type 0
Distinct cs = (c d : Constant) → Memᴰ c cs → Memᴰ d cs → c.name ≡ d.name → c ≡ d

-- The order. `taken` is an order in which what is left may be done when `done` is done: each constant is ready in its
-- turn, and behind the last none is. The original takes one of these, as its hash map has it; `order` always takes the
-- earliest.
abbrev pub InTurn : Way → List Constant → List ℕ → List Constant → Type 0
InTurn w cs done [] = (c : Constant) → Memᴰ c cs → ready w cs done c ≡ false
InTurn w cs done (c ∷ taken) = Memᴰ c cs × (ready w cs done c ≡ true) × InTurn w cs (c.name ∷ done) taken

-- what `order` takes is ready, and it goes on until nothing is
abbrev pub OrderIsInTurn : Type 0
OrderIsInTurn = (w : Way) (cs : List Constant) → InTurn w cs [] (order w cs)

-- any order takes exactly the reached ones, and so does `order`
abbrev pub InTurnTakesReached : Type 0
InTurnTakesReached =
    (w : Way) (cs : List Constant) → Distinct cs → (taken : List Constant) → InTurn w cs [] taken →
    (c : Constant) → Memᴰ c taken ↔ Reached w cs c

abbrev pub OrderTakesReached : Type 0
OrderTakesReached =
    (w : Way) (cs : List Constant) → Distinct cs → (c : Constant) → Memᴰ c (order w cs) ↔ Reached w cs c

-- "least such set": whatever holds of a constant that is admitted, if it holds of those that it names, holds of the
-- reached ones
abbrev pub ReachedIsLeast : Type 1
ReachedIsLeast =
    (w : Way) (cs : List Constant) (P : Constant → Type 0) →
    ((c : Constant) → Memᴰ c cs → admits w cs c ≡ true →
    ((d : Constant) → Memᴰ d cs → has d.name (refs c.expr) ≡ true → P d) → P c) →
    (c : Constant) → Reached w cs c → P c

-- the names that are done when some constants were taken
abbrev pub done_by : List Constant → List ℕ → List ℕ
done_by [] done = done
done_by (c ∷ taken) done = done_by taken (c.name ∷ done)

-- "always the earliest reached one whose declared references are done": what is ready behind those taken so far is what
-- is reached, not taken, and names of the declared only what is taken
abbrev pub ReadyIsReached : Type 0
ReadyIsReached =
    (w : Way) (cs : List Constant) → Distinct cs → (taken rest : List Constant) → InTurn w cs [] (taken ++ rest) →
    (c : Constant) → Memᴰ c cs →
    (ready w cs (done_by taken []) c ≡ true) ↔
    (Reached w cs c
    × (Memᴰ c taken → ⊥)
    × ((d : Constant) → Memᴰ d cs → has d.name (refs c.expr) ≡ true → Memᴰ d taken))

-- and the earliest of these is taken: when c is taken behind `taken`, it is ready (`OrderIsInTurn`), and nothing that
-- stands before it is
abbrev pub OrderTakesEarliest : Type 0
OrderTakesEarliest =
    (w : Way) (cs taken rest : List Constant) (c : Constant) → order w cs ≡ taken ++ (c ∷ rest) →
    (before : List Constant)
    × (behind : List Constant)
    × (cs ≡ before ++ (c ∷ behind))
    × ((d : Constant) → Memᴰ d before → ready w cs (done_by taken []) d ≡ false)

-- no name is taken twice
abbrev pub NoNameTwice : List Constant → Type 0
NoNameTwice [] = Unit
NoNameTwice (c ∷ cs) = ((d : Constant) → Memᴰ d cs → d.name ≡ c.name → ⊥) × NoNameTwice cs

abbrev pub InTurnTakesOnce : Type 0
InTurnTakesOnce = (w : Way) (cs taken : List Constant) → InTurn w cs [] taken → NoNameTwice taken

-- The values. The table behind all that were settled, one after the other
unfoldable pub after : Table → List Constant → Table
after t [] = t
after t (c ∷ cs) = after (store t c.name (eval_const_expr t c.expr)) cs

-- what the final table is, without an order: a reached constant has the value of its expression over this very table,
-- or else what it had beforehand; every other name has what it had
pub record IsFinal (w : Way) (t : Table) (cs : List Constant) (final : Table) : Type 0 where
  pub own : (c : Constant) → Reached w cs c → final c.name ≡ or_else (eval_const_expr final c.expr) (t c.name)
  pub other : (n : ℕ) → ((c : Constant) → Reached w cs c → c.name ≡ n → ⊥) → final n ≡ t n

-- whatever the order: the table behind it is that one, there is no other, and each constant has the value of its
-- expression over it
abbrev pub AnyOrderIsFinal : Type 0
AnyOrderIsFinal =
    (w : Way) (t : Table) (cs : List Constant) → Distinct cs → (taken : List Constant) → InTurn w cs [] taken →
    IsFinal w t cs (after t taken)

abbrev pub FinalIsOne : Type 0
FinalIsOne =
    (w : Way) (t : Table) (cs : List Constant) → Distinct cs →
    (one other : Table) → IsFinal w t cs one → IsFinal w t cs other → (n : ℕ) → one n ≡ other n

abbrev pub SettledOverFinal : Type 0
SettledOverFinal =
    (w : Way) (t : Table) (cs : List Constant) → Distinct cs → (taken : List Constant) → InTurn w cs [] taken →
    (final : Table) → IsFinal w t cs final →
    (x : Settled) →
    Memᴰ x (settle t taken) ↔ (Reached w cs x.constant × (eval_const_expr final x.constant.expr ≡ x.value))

-- What a list of constants settles: the constant c, with a value or none
abbrev pub SettlesAs : Way → Table → List Constant → Constant → Option ℤ → Type 0
SettlesAs w t cs c o = Memᴰ (record { constant = c; value = o }) (outcome w t cs)

-- a name
abbrev pub Settles : Way → Table → List Constant → ℕ → Option ℤ → Type 0
Settles w t cs n o = (c : Constant) × (c.name ≡ n) × SettlesAs w t cs c o

-- what it stores: a name with a value. What the name had beforehand is not stored by it.
abbrev pub Stores : Way → Table → List Constant → ℕ → ℤ → Type 0
Stores w t cs n z = Settles w t cs n (some z)

-- the final table has what is stored, and for a name that nothing is stored for what it had beforehand
abbrev pub FinalHasTheStored : Type 0
FinalHasTheStored =
    (w : Way) (t : Table) (cs : List Constant) → Distinct cs → (final : Table) → IsFinal w t cs final → (n : ℕ) →
    ((z : ℤ) → Stores w t cs n z → final n ≡ some z) × (((z : ℤ) → Stores w t cs n z → ⊥) → final n ≡ t n)

-- what is stored where no constant has a value beforehand is what `Stored` says
abbrev pub StoresTheStored : Type 0
StoresTheStored =
    (w : Way) (cs : List Constant) → Distinct cs → (n : ℕ) (z : ℤ) → Stores w empty cs n z ↔ Stored w cs n z
