-- What the value of an expression depends on: the values of the names in it, all of them; and a table with one more
-- value.
-- Assumes nothing.
use Prim.Native.Nat.{ℕ}
use mathlib.Core.Bool.{Bool, true, false, cond}
use mathlib.Core.List.Memᴰ
use mathlib.Core.List.{Memᴰ}
use mathlib.Core.Logic.{⊎_elim}
use mathlib.Core.Option.{Option, some, none, none-ne-some, or_else}
use mathlib.Core.Path.{◌≡◌, refl, sym, ◌∙◌, ap}
use lib.Dec.{eqb}
use lib.IntN.{ℤ}
use borrow.Author.Tests.{eqb-true, eq-eqb}
use Rattle.constants.specs.Expr.{Expr, Op, literal, reference, operation, refs}
use Rattle.constants.specs.Eval.{Table, store, apply_to, eval_const_expr}

-- two tables that agree on the names in it
pub eval_agree :
    (s t : Table) (e : Expr) → ((n : ℕ) → Memᴰ n (refs e) → s n ≡ t n) → eval_const_expr s e ≡ eval_const_expr t e
unfolding eval_const_expr refs
eval_agree s t (literal l v) h = refl
eval_agree s t (reference n) h = h n (Memᴰ.head refl)
eval_agree s t (operation o l r) h =
    let x = eval_agree s t l (λ n m. h n (Memᴰ.append_left (refs r) m)) in
    let y = eval_agree s t r (λ n m. h n (Memᴰ.append_right (refs l) m)) in
    λ i. apply_to o (x i) (y i)

-- both sides of an operation that has a value
abbrev Valued : Option ℤ → Type 0
Valued o = (y : ℤ) × (o ≡ some y)

sides : (o : Op) (x y : Option ℤ) (z : ℤ) → apply_to o x y ≡ some z → Valued x × Valued y
unfolding apply_to
sides o none y z e = absurd (none-ne-some z e)
sides o (some a) none z e = absurd (none-ne-some z e)
sides o (some a) (some b) z e = ((a, refl), (b, refl))

-- every name in an expression that has a value has one
pub eval_strict :
    (t : Table) (e : Expr) (z : ℤ) → eval_const_expr t e ≡ some z → (n : ℕ) → Memᴰ n (refs e) → (y : ℤ) × (t n ≡ some y)
unfolding eval_const_expr refs
eval_strict t (literal l v) z h n m = absurd (Memᴰ.not-nil m)
eval_strict t (reference k) z h n m = (z, ap t (Memᴰ.eq_of_singleton m) ∙ h)
eval_strict t (operation o l r) z h n m =
    let x = sides o (eval_const_expr t l) (eval_const_expr t r) z h in
    ⊎_elim
    (eval_strict t l x.0.0 x.0.1 n)
    (eval_strict t r x.1.0 x.1.1 n)
    (Memᴰ.append_cases (refs l) m)

-- a table that has the values of another
pub eval_more :
    (s t : Table) (e : Expr) (z : ℤ) → ((n : ℕ) (y : ℤ) → s n ≡ some y → t n ≡ some y) →
    eval_const_expr s e ≡ some z → eval_const_expr t e ≡ some z
eval_more s t e z h q =
    eval_agree t s e (λ n m. let x = eval_strict s e z q n m in h n x.0 x.1 ∙ sym x.1) ∙ q

pub or_else_none : (o : Option ℤ) → or_else o none ≡ o
unfolding or_else
or_else_none none = refl
or_else_none (some z) = refl

-- a value is stored: under its name and under others
pub store_own : (t : Table) (n : ℕ) (o : Option ℤ) → store t n o n ≡ or_else o (t n)
unfolding store or_else
store_own t n none = refl
store_own t n (some z) = rw (eq-eqb n n refl) refl

pub store_other : (t : Table) (n : ℕ) (o : Option ℤ) (m : ℕ) → (n ≡ m → ⊥) → store t n o m ≡ t m
unfolding store
store_other t n none m h = refl
store_other t n (some z) m h = go (eqb m n) refl
  where
    go : (b : Bool) → eqb m n ≡ b → cond b (some z) (t m) ≡ t m
    go true e = absurd (h (sym (eqb-true m n e)))
    go false e = refl
