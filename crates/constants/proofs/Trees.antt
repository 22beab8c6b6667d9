-- A record of an expression and its tree, step by step.
-- Assumes nothing.
use Rattle.std.specs.Prelude.{ℕ, zero, suc, ◌<◌, [], ◌∷◌, Bool, true, false, cond, ◌&&◌, ltb, ◌≡◌, ℤ, None, Some}
use Rattle.std.specs.Prelude.{Option as Answer}
use Rattle.std.proofs.Common.{refl, sym, ap, ◌∙◌, subst, arith}
use mathlib.Core.Path.{ap₂}
use borrow.Author.Tests.{lt-ltb, ltb-true}
use lib.ListN.{get_or-map}
use mir.Syntax.{w64}
use mir.Val.{SFits, to_z, of_z}
use Rattle.std.proofs.lemmas.Int.{to_z-of_z}
use Rattle.record.specs.declared.Record.{Record}
use Rattle.std.specs.Prelude.{Result, Ok}
use Rattle.record.specs.declared.kind.Kind.{Kind}
use Rattle.record.specs.declared.kind.Kind.TheVariants.{Literal, Reference, Operation}
use Rattle.record.specs.declared.kind.UnknownKind.{UnknownKind}
use Rattle.record.specs.Kind.{kind_from}
use Rattle.arith.specs.Checked.{answer}
use Rattle.book.specs.Outline.{Book, ◌!◌}
use Rattle.book.specs.Accepted.{Earlier}
use Rattle.book.proofs.Trees.{both_so}
use Rattle.constants.specs.Expr.{Expr, literal, reference, operation, bool, literal_of, op_of}
use Rattle.constants.specs.Eval.{Table, literal_value, apply, apply_to, eval_const_expr}
use Rattle.constants.specs.declared.tree.Literal as code
use Rattle.constants.specs.declared.tree.Literal.TheVariants.{Int, UInt, Float, Hex, Bool as Truth}
use Rattle.constants.specs.declared.tree.BinOp.{BinOp}
use Rattle.constants.specs.declared.tree.BinOp.TheVariants.{Add, Sub, Mul, Div, Eq, Ne, Lt, Le, Gt, Ge}
use Rattle.constants.specs.declared.tree.Node.{Node}
use Rattle.constants.specs.declared.tree.Node.TheVariants.{Value, Name, Sides, Other}
use Rattle.constants.specs.Tree.{node_by, node_of, SidesEarlier, literal_named, op_named, literal_by, op_by, expr_by, levels_of, tree}

-- the sides of an operation are earlier if the record says so
pub sides_earlier : (n : ℕ) (r : Record) (x : Node) → x ≡ node_of r → Earlier n r → SidesEarlier n x
sides_earlier n r x e h = subst (SidesEarlier n) (sym e) (by (kind_from r.kind) refl)
  where
    by : (k : Result Kind UnknownKind) → kind_from r.kind ≡ k → SidesEarlier n (node_by r k)
    by (Ok Reference) is = tt
    by (Ok Literal) is = tt
    by (Ok Operation) is = h.operation is
    by k is = tt

-- subs that no arm names
pub last_literal : (s : ℕ) → ¬ (s ≡ 0) → ¬ (s ≡ 1) → ¬ (s ≡ 2) → ¬ (s ≡ 3) → Truth ≡ literal_by s
last_literal zero a b c d = absurd (a refl)
last_literal (suc zero) a b c d = absurd (b refl)
last_literal (suc (suc zero)) a b c d = absurd (c refl)
last_literal (suc (suc (suc zero))) a b c d = absurd (d refl)
last_literal (suc (suc (suc (suc zero)))) a b c d = refl
last_literal (suc (suc (suc (suc (suc s))))) a b c d = refl

pub ruleset leaves = (last_literal)

-- what a sub gives is what the definitions say
pub literal_is : (s : ℕ) → literal_named (literal_by s) ≡ literal_of s
literal_is s = sym (get_or-map literal_named (Int ∷ UInt ∷ Float ∷ Hex ∷ Truth ∷ []) s Truth)

pub op_is : (s : ℕ) → op_named (op_by s) ≡ op_of s
op_is s = sym (get_or-map op_named (Add ∷ Sub ∷ Mul ∷ Div ∷ Eq ∷ Ne ∷ Lt ∷ Le ∷ Gt ∷ Ge ∷ []) s Ge)

-- the sides of an operation, by the levels that they have
expr_agree :
    (f g : ℕ → Expr) (n : ℕ) → ((m : ℕ) → m < n → f m ≡ g m) → (x : Node) → expr_by f n x ≡ expr_by g n x
unfolding expr_by
expr_agree f g n h (Value l v) = refl
expr_agree f g n h (Name a) = refl
expr_agree f g n h (Sides o a b) = go (ltb a n && ltb b n) refl
  where
    go :
        (t : Bool) → ltb a n && ltb b n ≡ t →
        cond t (operation (op_named o) (f a) (f b)) (literal bool 0) ≡ cond t (operation (op_named o) (g a) (g b)) (literal bool 0)
    go true e =
        let (l, r) = both_so (ltb a n) (ltb b n) e in
        λ i. operation (op_named o) (h a (ltb-true a n l) i) (h b (ltb-true b n r) i)
    go false e = refl
expr_agree f g n h Other = refl

levels_same : (book : Book) (m l n : ℕ) → n < m → n < l → levels_of m book n ≡ levels_of l book n
unfolding levels_of
levels_same book zero l n h k = absurd (omega arith)
levels_same book (suc m) zero n h k = absurd (omega arith)
levels_same book (suc m) (suc l) n h k =
    expr_agree (levels_of m book) (levels_of l book) n (λ c less. levels_same book m l c (omega arith) (omega arith)) (node_of (book ! n))

-- more levels than n are the whole tree
pub tree_levels : (book : Book) (m n : ℕ) → n < m → levels_of m book n ≡ tree book n
unfolding tree
tree_levels book m n h = levels_same book m (suc n) n h (omega arith)

pub tree-step : (book : Book) (n : ℕ) → tree book n ≡ expr_by (tree book) n (node_of (book ! n))
unfolding tree levels_of
tree-step book n = expr_agree (levels_of n book) (tree book) n (λ c less. tree_levels book n c less) (node_of (book ! n))

module _ (book : Book) (n : ℕ) where
  pub tree-value : (l : code.Literal) (v : ℕ) → Value l v ≡ node_of (book ! n) → tree book n ≡ literal (literal_named l) v
  unfolding expr_by
  tree-value l v e = tree-step book n ∙ ap (expr_by (tree book) n) (sym e)

  pub tree-name : (a : ℕ) → Name a ≡ node_of (book ! n) → tree book n ≡ reference a
  unfolding expr_by
  tree-name a e = tree-step book n ∙ ap (expr_by (tree book) n) (sym e)

  pub tree-sides :
      (o : BinOp) (a b : ℕ) → Sides o a b ≡ node_of (book ! n) → a < n → b < n →
      tree book n ≡ operation (op_named o) (tree book a) (tree book b)
  unfolding expr_by
  tree-sides o a b e l r = tree-step book n ∙ ap (expr_by (tree book) n) (sym e) ∙ rw (lt-ltb a n l, lt-ltb b n r) refl

  pub tree-other : Other ≡ node_of (book ! n) → tree book n ≡ literal bool 0
  unfolding expr_by
  tree-other e = tree-step book n ∙ ap (expr_by (tree book) n) (sym e)

-- the value of a tree, by the record at its top
module _ (t : Table) (book : Book) (n : ℕ) (r : Answer ℤ) where
  pub eval-value :
      (l : code.Literal) (v : ℕ) → Value l v ≡ node_of (book ! n) → answer r ≡ literal_value (literal_named l) v →
      answer r ≡ eval_const_expr t (tree book n)
  unfolding eval_const_expr
  eval-value l v e h = rw (tree-value book n l v e) h

  pub eval-name : (a : ℕ) → Name a ≡ node_of (book ! n) → answer r ≡ t a → answer r ≡ eval_const_expr t (tree book n)
  unfolding eval_const_expr
  eval-name a e h = rw (tree-name book n a e) h

  pub eval-other : Other ≡ node_of (book ! n) → r ≡ None → answer r ≡ eval_const_expr t (tree book n)
  unfolding eval_const_expr literal_value
  eval-other e h = rw (tree-other book n e) (ap answer h)

  module _ (o : BinOp) (a b : ℕ) (e : Sides o a b ≡ node_of (book ! n)) (sides : SidesEarlier n (Sides o a b)) where
    pub eval-left : answer None ≡ eval_const_expr t (tree book a) → r ≡ None → answer r ≡ eval_const_expr t (tree book n)
    unfolding eval_const_expr apply_to
    eval-left x h = rw (tree-sides book n o a b e sides.0 sides.1, ← x) (ap answer h)

    pub eval-right :
        (x : ℤ) → answer (Some x) ≡ eval_const_expr t (tree book a) → answer None ≡ eval_const_expr t (tree book b) → r ≡ None →
        answer r ≡ eval_const_expr t (tree book n)
    unfolding eval_const_expr apply_to
    eval-right x l y h = rw (tree-sides book n o a b e sides.0 sides.1, ← l, ← y) (ap answer h)

    pub eval-sides :
        (x y : ℤ) → answer (Some x) ≡ eval_const_expr t (tree book a) → answer (Some y) ≡ eval_const_expr t (tree book b) →
        SFits w64 x → SFits w64 y → answer r ≡ apply (op_named o) (to_z w64 (of_z w64 x)) (to_z w64 (of_z w64 y)) →
        answer r ≡ eval_const_expr t (tree book n)
    unfolding eval_const_expr apply_to
    eval-sides x y l k f g h =
        rw (tree-sides book n o a b e sides.0 sides.1, ← l, ← k) (h ∙ ap₂ (apply (op_named o)) (to_z-of_z w64 x f) (to_z-of_z w64 y g))
