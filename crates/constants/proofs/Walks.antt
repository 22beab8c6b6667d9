-- What the code finds in an expression, by the record at its top.
-- Assumes nothing.
use Rattle.std.specs.Prelude.{ℕ, Bool, true, false, ◌||◌, List, get_or, ◌≡◌}
use Rattle.std.proofs.Common.{refl, sym, ap, ◌∙◌, ◌⊎◌, inl, inr}
use Rattle.book.specs.Lists.{any}
use Rattle.book.proofs.Lists.{any_append}
use Rattle.book.specs.Outline.{Book, ◌!◌}
use Rattle.constants.specs.Expr.{refs}
use Rattle.constants.specs.declared.tree.Literal.{Literal}
use Rattle.constants.specs.declared.tree.BinOp.{BinOp}
use Rattle.constants.specs.declared.tree.Node.{Node}
use Rattle.constants.specs.declared.tree.Node.TheVariants.{Value, Name, Sides, Other}
use Rattle.constants.specs.Tree.{node_of, SidesEarlier, tree}
use Rattle.constants.specs.Steps.{State, seen_so, see, looked, named_then, listed, names_undone}
use Rattle.constants.proofs.Trees.{tree-value, tree-name, tree-sides, tree-other}

test_is : (b : Bool) → b ≡ elim b [ true ↦ true | false ↦ false ]
test_is true = refl
test_is false = refl

-- a record that names nothing: a literal, or one of no expression
abbrev IsLeaf : Node → Type 0
IsLeaf x = ((l : Literal) × (v : ℕ) × (x ≡ Value l v)) ⊎ (x ≡ Other)

module _ (book : Book) (n : ℕ) where
  -- names are listed
  module _ (by : ℕ) where
    listed-value : (l : Literal) (v : ℕ) (w : State) → Value l v ≡ node_of (book ! n) → w ≡ listed by (tree book n) w
    unfolding listed
    listed-value l v w e = rw (tree-value book n l v e) refl

    listed-other : (w : State) → Other ≡ node_of (book ! n) → w ≡ listed by (tree book n) w
    unfolding listed
    listed-other w e = rw (tree-other book n e) refl

    pub listed-leaf : (x : Node) → x ≡ node_of (book ! n) → IsLeaf x → (w : State) → w ≡ listed by (tree book n) w
    listed-leaf x e (inl (l, v, is)) w = listed-value l v w (sym is ∙ e)
    listed-leaf x e (inr is) w = listed-other w (sym is ∙ e)

    pub listed-name : (a : ℕ) (w w' : State) → Name a ≡ node_of (book ! n) → w' ≡ named_then by a w → w' ≡ listed by (tree book n) w
    unfolding listed
    listed-name a w w' e h = rw (tree-name book n a e) h

    pub listed-sides :
        (o : BinOp) (a b : ℕ) (w u v : State) → Sides o a b ≡ node_of (book ! n) → SidesEarlier n (Sides o a b) →
        u ≡ listed by (tree book a) w → v ≡ listed by (tree book b) u → v ≡ listed by (tree book n) w
    unfolding listed
    listed-sides o a b w u v e sides l r = rw (tree-sides book n o a b e sides.0 sides.1) (r ∙ ap (listed by (tree book b)) l)

  -- names are looked at
  module _ (stamp : ℕ) where
    looked-value : (l : Literal) (v : ℕ) (w : State) → Value l v ≡ node_of (book ! n) → seen_so false w ≡ looked stamp (tree book n) w
    unfolding looked
    looked-value l v w e = rw (tree-value book n l v e) refl

    looked-other : (w : State) → Other ≡ node_of (book ! n) → seen_so false w ≡ looked stamp (tree book n) w
    unfolding looked
    looked-other w e = rw (tree-other book n e) refl

    pub looked-leaf : (x : Node) → x ≡ node_of (book ! n) → IsLeaf x → (w : State) → seen_so false w ≡ looked stamp (tree book n) w
    looked-leaf x e (inl (l, v, is)) w = looked-value l v w (sym is ∙ e)
    looked-leaf x e (inr is) w = looked-other w (sym is ∙ e)

    pub looked-name : (a : ℕ) (w : State) → Name a ≡ node_of (book ! n) → see stamp a w ≡ looked stamp (tree book n) w
    unfolding looked
    looked-name a w e = rw (tree-name book n a e) refl

    pub looked-sides :
        (o : BinOp) (a b : ℕ) (w u v : State) (here there : Bool) → Sides o a b ≡ node_of (book ! n) → SidesEarlier n (Sides o a b) →
        there ≡ (looked stamp (tree book b) w).again → u ≡ (looked stamp (tree book b) w).state →
        here ≡ (looked stamp (tree book a) u).again → v ≡ (looked stamp (tree book a) u).state →
        seen_so (here || there) v ≡ looked stamp (tree book n) w
    unfolding looked
    looked-sides o a b w u v here there e sides t is h is' = rw (tree-sides book n o a b e sides.0 sides.1, h, is', is, t) refl

  -- a name is undone
  module _ (undone : List Bool) where
    abbrev is : ℕ → Bool
    is n = get_or undone n false

    undone-value : (l : Literal) (v : ℕ) → Value l v ≡ node_of (book ! n) → false ≡ names_undone undone (tree book n)
    unfolding names_undone refs any
    undone-value l v e = rw (tree-value book n l v e) refl

    undone-other : Other ≡ node_of (book ! n) → false ≡ names_undone undone (tree book n)
    unfolding names_undone refs any
    undone-other e = rw (tree-other book n e) refl

    pub undone-leaf : (x : Node) → x ≡ node_of (book ! n) → IsLeaf x → false ≡ names_undone undone (tree book n)
    undone-leaf x e (inl (l, v, is)) = undone-value l v (sym is ∙ e)
    undone-leaf x e (inr is) = undone-other (sym is ∙ e)

    pub undone-name : (a : ℕ) → Name a ≡ node_of (book ! n) → get_or undone a false ≡ names_undone undone (tree book n)
    unfolding names_undone refs any
    undone-name a e = rw (tree-name book n a e) (test_is (get_or undone a false))

    module _ (o : BinOp) (a b : ℕ) (l : Bool) (e : Sides o a b ≡ node_of (book ! n)) (sides : SidesEarlier n (Sides o a b)) (h : l ≡ names_undone undone (tree book a)) where
      pub undone-left : l ≡ true → l ≡ names_undone undone (tree book n)
      unfolding names_undone refs
      undone-left so =
          rw (tree-sides book n o a b e sides.0 sides.1, so) (sym (any_append is (refs (tree book a)) (refs (tree book b)) ∙ ap (λ t. t || any is (refs (tree book b))) (sym h ∙ so)))

      pub undone-right : l ≡ false → (r : Bool) → r ≡ names_undone undone (tree book b) → r ≡ names_undone undone (tree book n)
      unfolding names_undone refs
      undone-right so r k =
          rw (tree-sides book n o a b e sides.0 sides.1)
          (k ∙ sym (any_append is (refs (tree book a)) (refs (tree book b)) ∙ ap (λ t. t || any is (refs (tree book b))) (sym h ∙ so)))
