-- Two expressions are the same, told from the records, exactly if they are equal: what stands at a place of a tree is
-- what stands there in its expression, and expressions that agree at every place are equal.
-- Assumes nothing.
use Prim.Native.Nat.{ℕ, ◌<◌}
use mathlib.Core.Bool.{true, false, ◌&&◌, false≢true}
use mathlib.Core.List.{List, [], ◌∷◌, Memᴰ}
use mathlib.Core.Option.{Option, some, none}
use mathlib.Core.Path.{◌≡◌, refl, sym, ap, ◌∙◌}
use native.Mathlib.Omega.{arith}
use lib.ListN.{length, get_or-map}
use borrow.Author.Tests.{eqb-true}
use Rattle.record.specs.declared.Record.{Record}
use Rattle.book.specs.Lists.{All, keep, from}
use Rattle.book.specs.Shape.{constant, Row, allows, table, child_in, children, is_of, row_of, fits, well_shaped}
use Rattle.book.specs.Faults.{record_of, is_kind}
use Rattle.book.specs.Blocks.{records}
use Rattle.book.specs.Refusal.{first_refusal}
use Rattle.book.specs.Outline.{read, ◌!◌}
use Rattle.book.specs.Trees.{IsChild, WellFormed}
use Rattle.book.proofs.Members.{at_from}
use Rattle.book.proofs.Trees.{both_so, with_kind, by_row, by_rows}
use Rattle.book.proofs.Accepted.{accepted_is_readable}
use Rattle.constants.specs.Expr.{Literal, int, uint, float, hex, bool, literal_of}
use Rattle.constants.specs.Expr.{Op, add, sub, mul, div, eq, ne, lt, le, gt, ge, op_of}
use Rattle.constants.specs.Expr.{Expr, literal, reference, operation, expr_of, expr_at}
use Rattle.constants.specs.Order.{Constant}
use Rattle.constants.specs.OfBook.{constant_at, constants}
use Rattle.constants.specs.SameTrees.{Side, left, right, child_at, Seen, seen, stands_at, SameTreesAreEqual, SameExpressionsAreEqual}
use Rattle.constants.proofs.Declared.{declared_at, expression_is_child}
use Rattle.constants.proofs.Whole.{one_more_lem}

-- the subs of literals and operations
literal_sub : Literal → ℕ
literal_sub int = 0
literal_sub uint = 1
literal_sub float = 2
literal_sub hex = 3
literal_sub bool = 4

op_sub : Op → ℕ
op_sub add = 0
op_sub sub = 1
op_sub mul = 2
op_sub div = 3
op_sub eq = 4
op_sub ne = 5
op_sub lt = 6
op_sub le = 7
op_sub gt = 8
op_sub ge = 9

sub_of_literal : (s : ℕ) → s < 5 → literal_sub (literal_of s) ≡ s
unfolding literal_sub from
sub_of_literal s less = sym (get_or-map literal_sub (int ∷ uint ∷ float ∷ hex ∷ bool ∷ []) s bool) ∙ at_from 0 5 s 4 less ∙ omega arith

sub_of_op : (s : ℕ) → s < 10 → op_sub (op_of s) ≡ s
unfolding op_sub from
sub_of_op s less = sym (get_or-map op_sub (add ∷ sub ∷ mul ∷ div ∷ eq ∷ ne ∷ lt ∷ le ∷ gt ∷ ge ∷ []) s ge) ∙ at_from 0 10 s 9 less ∙ omega arith

literal_of_sub : (l : Literal) → literal_of (literal_sub l) ≡ l
unfolding literal_sub
literal_of_sub int = refl
literal_of_sub uint = refl
literal_of_sub float = refl
literal_of_sub hex = refl
literal_of_sub bool = refl

op_of_sub : (o : Op) → op_of (op_sub o) ≡ o
unfolding op_sub
op_of_sub add = refl
op_of_sub sub = refl
op_of_sub mul = refl
op_of_sub div = refl
op_of_sub eq = refl
op_of_sub ne = refl
op_of_sub lt = refl
op_of_sub le = refl
op_of_sub gt = refl
op_of_sub ge = refl

-- what counts of the record of an expression
abbrev seen_of : Expr → Seen
seen_of (literal l v) = record { kind = 10; sub = literal_sub l; v = v; referenced = none }
seen_of (reference n) = record { kind = 11; sub = 0; v = 0; referenced = some n }
seen_of (operation o l r) = record { kind = 12; sub = op_sub o; v = 0; referenced = none }

abbrev side_of : Side → Expr → Expr → Expr
side_of left l r = l
side_of right l r = r

-- what stands at a place of an expression
abbrev stands_in : List Side → Expr → Option Seen
stands_in [] e = some (seen_of e)
stands_in (side ∷ way) (literal l v) = none
stands_in (side ∷ way) (reference n) = none
stands_in (side ∷ way) (operation o l r) = stands_in way (side_of side l r)

-- v is inside the values of its row
abbrev FitsV : Record → Option Row → Type 0
FitsV r none = ⊥
FitsV r (some w) = allows w.v r.v ≡ true

fits_v : (r : Record) (o : Option Row) → fits r o ≡ true → FitsV r o
fits_v r none e = false≢true e
fits_v r (some w) e = (both_so (allows w.a r.a && allows w.b r.b && allows w.c r.c) (allows w.v r.v) e).1

-- the record of an expression. The rows: two of literals, references, operations
top : (tree : ℕ → Expr) (r : Record) → is_of constant r ≡ true → well_shaped r ≡ true → seen_of (expr_of tree r) ≡ seen r
unfolding keep table allows well_shaped expr_of seen
top tree r is s =
    by_row (λ r o. FitsV r o → seen_of (expr_of tree r) ≡ seen r) constant r is (
      λ l h f. rw (sub_of_literal r.sub (omega arith)),
      (
        λ l h f. rw (sub_of_literal r.sub (omega arith)),
        (
          λ l h f. let sub : r.sub ≡ 0 = omega arith in cc (eqb-true r.v 0 f),
          (λ l h f. cc (sub_of_op r.sub (omega arith), eqb-true r.v 0 f), tt),
        ),
      ),
    )
    (fits_v r (row_of r) s)

-- below it: what `stands_at` gives for record r, from what it gives for the children
module _ (rs : List Record) (side : Side) (way : List Side) where
  abbrev next : Record → Option Seen
  next r = elim (is_kind 12 r) [ true ↦ stands_at rs (child_at side r) way | false ↦ none ]

  below :
      (tree : ℕ → Expr) (n : ℕ) →
      ((m : ℕ) → m < n → is_of constant (record_of rs m) ≡ true → stands_at rs m way ≡ stands_in way (tree m)) →
      (r : Record) → is_of constant r ≡ true → All (IsChild rs n) (children r) → next r ≡ stands_in (side ∷ way) (expr_of tree r)
  unfolding keep table child_in expr_of child_at
  below tree n here r is =
      by_rows (λ r cs. All (IsChild rs n) cs → next r ≡ stands_in (side ∷ way) (expr_of tree r)) constant r is
      (λ l h p. refl, (λ l h p. refl, (λ l h p. refl, (λ l h p. child side p.0 p.1.0, tt))))
    where
      child :
          (side : Side) → IsChild rs n (record { group = constant; number = r.a }) →
          IsChild rs n (record { group = constant; number = r.b }) →
          stands_at rs (child_at side (with_kind 12 r)) way ≡ stands_in way (side_of side (tree r.a) (tree r.b))
      child left p q = here r.a p.earlier p.of_group
      child right p q = here r.b q.earlier q.of_group

-- what stands at a place of a tree stands there in its expression
module _ (rs : List Record) (sound : WellFormed rs) where
  stands :
      (place : List Side) (n : ℕ) → n < length rs → is_of constant (record_of rs n) ≡ true →
      stands_at rs n place ≡ stands_in place (expr_at 64 rs n)
  unfolding stands_at
  stands [] n less is =
      ap some (sym (top (expr_at 64 rs) (record_of rs n) is (sound n less).shaped) ∙ ap seen_of (sym (one_more_lem rs sound n less is)))
  stands (side ∷ way) n less is =
      below rs side way (expr_at 64 rs) n (λ m h. stands way m (omega arith)) (record_of rs n) is (sound n less).children_are
      ∙ ap (stands_in (side ∷ way)) (sym (one_more_lem rs sound n less is))

-- expressions that agree at every place are equal: what stands on top says which they are
abbrev Agree : Expr → Expr → Type 0
Agree e f = (place : List Side) → stands_in place e ≡ stands_in place f

on_top : {e f : Expr} → Agree e f → seen_of e ≡ seen_of f
on_top h = cc (h [])

kinds : {e f : Expr} → Agree e f → (seen_of e).kind ≡ (seen_of f).kind
kinds h = ap (λ x. x.kind) (on_top h)

equal : (e f : Expr) → Agree e f → e ≡ f
equal (literal l v) (literal k w) h =
    cc (ap (λ x. x.sub) (on_top h), ap (λ x. x.v) (on_top h), literal_of_sub l, literal_of_sub k)
equal (reference n) (reference m) h = cc (ap (λ x. x.referenced) (on_top h))
equal (operation o l r) (operation p k s) h =
    cc
    (ap (λ x. x.sub) (on_top h), op_of_sub o, op_of_sub p, equal l k (λ way. h (left ∷ way)), equal r s (λ way. h (right ∷ way)))
equal (literal l v) (reference m) h = absurd (omega (arith, kinds h))
equal (literal l v) (operation p k s) h = absurd (omega (arith, kinds h))
equal (reference n) (literal k w) h = absurd (omega (arith, kinds h))
equal (reference n) (operation p k s) h = absurd (omega (arith, kinds h))
equal (operation o l r) (literal k w) h = absurd (omega (arith, kinds h))
equal (operation o l r) (reference m) h = absurd (omega (arith, kinds h))

pub same_trees_are_equal : SameTreesAreEqual
same_trees_are_equal rs sound n less is qs sound' m less' is' = (
  λ h. equal (expr_at 64 rs n) (expr_at 64 qs m) (λ place. sym (here place) ∙ h place ∙ there place),
  λ e place. here place ∙ ap (stands_in place) e ∙ sym (there place),
)
  where
    here : (place : List Side) → stands_at rs n place ≡ stands_in place (expr_at 64 rs n)
    here place = stands rs sound place n less is

    there : (place : List Side) → stands_at qs m place ≡ stands_in place (expr_at 64 qs m)
    there place = stands qs sound' place m less' is'

-- the expression of a constant of an accepted book is the tree at a child of its record
rooted :
    {c : Constant} (book : List ℕ) → first_refusal book ≡ none → Memᴰ c (constants (read book)) →
    let n : ℕ = (read book ! c.place).c in
    (c.expr ≡ expr_at 64 (records book) n) × (n < length (records book)) × (is_of constant (record_of (records book) n) ≡ true)
unfolding read constant_at
rooted {c} book e m =
    let (at, less, is) = declared_at (read book) m in
    let is_child = expression_is_child (records book) (accepted_is_readable book e).well_formed c.place less is in
    (ap (λ c. c.expr) at, omega (arith, is_child.earlier), is_child.of_group)

pub same_expressions_are_equal : SameExpressionsAreEqual
unfolding read
same_expressions_are_equal book other e e' c d m m' =
    let (at, less, is) = rooted book e m in
    let (at', less', is') = rooted other e' m' in
    let same =
    same_trees_are_equal (records book) (accepted_is_readable book e).well_formed _ less is (records other) (accepted_is_readable other e').well_formed _ less' is' in
    (λ h. at ∙ same.0 h ∙ sym at', λ h. same.1 (sym at ∙ h ∙ at'))
