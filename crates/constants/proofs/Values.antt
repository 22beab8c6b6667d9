-- Values of constants are i64s.
-- Assumes nothing.
use Prim.Native.Nat.{ℕ, zero, suc, ◌^◌, ◌<◌}
use mathlib.Core.Bool.{Bool, true, false, cond, ◌&&◌}
use mathlib.Core.List.{List, [], ◌∷◌}
use mathlib.Core.Option.{Option, some, none}
use mathlib.Core.Path.{◌≡◌, refl, subst}
use lib.Dec.{eqb, lit<}
use lib.IntN.{ℤ, nat_abs}
use lib.Signed.{le_z, le_z_yes}
use Rattle.record.specs.declared.Record.{Record}
use Rattle.record.specs.Layout.{Within}
use Rattle.arith.specs.Word.{MIN, MAX}
use Rattle.arith.specs.Checked.{fitting, checked_add, checked_sub, checked_mul, checked_div}
use Rattle.arith.proofs.Words.{signed_is_i64, cast_signed}
use Rattle.book.specs.Lists.{All}
use Rattle.book.specs.Faults.{record_of, is_kind}
use Rattle.book.specs.Outline.{Book, read, ◌!◌, numbers_of}
use Rattle.book.proofs.Lists.{either, all_map}
use Rattle.book.proofs.Members.{of_all, all_of}
use Rattle.book.proofs.Records.{record-within, records-within}
use Rattle.constants.specs.Expr.{Literal, int, uint, float, hex, bool, literal_of}
use Rattle.constants.specs.Expr.{Op, add, sub, mul, div, eq, ne, lt, le, gt, ge, op_of}
use Rattle.constants.specs.Expr.{Expr, literal, reference, operation, expr_of, expr_at}
use Rattle.constants.specs.Eval.{Table, empty, store, literal_value, apply, apply_to, eval_const_expr}
use Rattle.constants.specs.Order.{Constant, each, order, settle, outcome}
use Rattle.constants.specs.OfBook.{constant_at, constants, settled}
use Rattle.constants.specs.Values.{IsI64, SettledAreI64}
use Rattle.constants.proofs.Order.{taken_declared, order_is_in_turn}

-- literals have 64 bits
abbrev Worded : Expr → Type 0
Worded (literal l v) = v < 2 ^ 64
Worded (reference n) = Unit
Worded (operation o l r) = Worded l × Worded r

expr_of_lem : (tree : ℕ → Expr) → ((n : ℕ) → Worded (tree n)) → (r : Record) → Within r → Worded (expr_of tree r)
unfolding expr_of
expr_of_lem tree h r w = go (is_kind 10 r) (is_kind 11 r)
  where
    go :
        (b c : Bool) →
        Worded (elim b [
          | true ↦ literal (literal_of r.sub) r.v
          | false ↦ elim c [ true ↦ reference r.a | false ↦ operation (op_of r.sub) (tree r.a) (tree r.b) ]
        ])
    go true c = w.v
    go false true = tt
    go false false = (h r.a, h r.b)

expr_at_lem : (levels : ℕ) (rs : List Record) → All Within rs → (n : ℕ) → Worded (expr_at levels rs n)
unfolding expr_at
expr_at_lem zero rs h n = lit< tt
expr_at_lem (suc levels) rs h n = expr_of_lem (expr_at levels rs) (expr_at_lem levels rs h) (record_of rs n) (record-within rs n h)

-- what an operation and a literal give
fitting_i64 : (z : ℤ) → IsI64 (fitting z)
unfolding fitting
fitting_i64 z = go (le_z MIN z) (le_z z MAX) refl refl
  where
    go : (a b : Bool) → le_z MIN z ≡ a → le_z z MAX ≡ b → IsI64 (cond (a && b) (some z) none)
    go true true p q = (le_z_yes (rw p tt), le_z_yes (rw q tt))
    go true false p q = tt
    go false b p q = tt

literal_i64 : (l : Literal) (v : ℕ) → v < 2 ^ 64 → IsI64 (literal_value l v)
unfolding literal_value
literal_i64 int v h = signed_is_i64 v h
literal_i64 uint v h = subst (λ (z : ℤ). IsI64 (some z)) (cast_signed v h) (signed_is_i64 v h)
literal_i64 hex v h = subst (λ (z : ℤ). IsI64 (some z)) (cast_signed v h) (signed_is_i64 v h)
literal_i64 float v h = tt
literal_i64 bool v h = tt

apply_i64 : (o : Op) (x y : ℤ) → IsI64 (apply o x y)
unfolding apply checked_add checked_sub checked_mul checked_div
apply_i64 add x y = fitting_i64 _
apply_i64 sub x y = fitting_i64 _
apply_i64 mul x y = fitting_i64 _
apply_i64 div x y = either IsI64 (eqb (nat_abs y) 0) tt (fitting_i64 _)
apply_i64 eq x y = tt
apply_i64 ne x y = tt
apply_i64 lt x y = tt
apply_i64 le x y = tt
apply_i64 gt x y = tt
apply_i64 ge x y = tt

apply_to_i64 : (o : Op) (x y : Option ℤ) → IsI64 (apply_to o x y)
unfolding apply_to
apply_to_i64 o none y = tt
apply_to_i64 o (some x) none = tt
apply_to_i64 o (some x) (some y) = apply_i64 o x y

-- an expression over stored values, and the table with one more
module _ (t : Table) (h : (n : ℕ) → IsI64 (t n)) where
  eval_i64 : (e : Expr) → Worded e → IsI64 (eval_const_expr t e)
  unfolding eval_const_expr
  eval_i64 (literal l v) w = literal_i64 l v w
  eval_i64 (reference n) w = h n
  eval_i64 (operation o l r) w = apply_to_i64 o (eval_const_expr t l) (eval_const_expr t r)

  store_i64 : (name : ℕ) (o : Option ℤ) → IsI64 o → (m : ℕ) → IsI64 (store t name o m)
  unfolding store
  store_i64 name none w m = h m
  store_i64 name (some z) w m = either IsI64 (eqb m name) w (h m)

settle_i64 :
    (t : Table) → ((n : ℕ) → IsI64 (t n)) → (cs : List Constant) → All (λ c. Worded c.expr) cs →
    All (λ x. IsI64 x.value) (settle t cs)
unfolding settle
settle_i64 t h [] w = tt
settle_i64 t h (c ∷ cs) w =
    let v = eval_i64 t h c.expr w.0 in
    (v, settle_i64 (store t c.name (eval_const_expr t c.expr)) (store_i64 t h c.name (eval_const_expr t c.expr) v) cs w.1)

-- the order of a book's constants holds those at its records
pub all_ordered : (P : Constant → Type 0) (book : Book) → ((n : ℕ) → P (constant_at book n)) → All P (order each (constants book))
unfolding constants
all_ordered P book h =
    let cs = constants book in
    all_of P (order each cs)
    (λ c m. of_all P cs (all_map P (constant_at book) h (numbers_of (is_kind 24) book)) c
    (taken_declared each cs (order each cs) [] (order_is_in_turn each cs) c m))

pub settled_are_i64 : SettledAreI64
unfolding settled outcome constant_at read
settled_are_i64 book bytes =
    settle_i64 empty (λ n. tt) _
    (all_ordered (λ c. Worded c.expr) (read book)
    (λ n. expr_at_lem 64 (read book).records (records-within book bytes) (read book ! n).c))
