-- Expressions of constants: `ConstExpr` of the original. Words in quotation marks are rules of docs/FORMAT.md in brief.
-- Assumes nothing.
use Rattle.std.specs.Prelude.{ℕ, zero, suc, true, false, List, [], ◌∷◌, ◌++◌, get_or}
use Rattle.record.specs.declared.Record.{Record}
use Rattle.book.specs.Faults.{record_of, is_kind}

-- "10 literal (sub 0 Int, 1 UInt, 2 Float, 3 Hex, 4 Bool; [..])"
pub data Literal : Type 0 where
  int uint float hex bool : Literal

-- "12 operation (sub 0-9 in `BinOpKind` order; [..])"
pub data Op : Type 0 where
  add sub mul div eq ne lt le gt ge : Op

-- an expression as a tree: "their trees agree at every place in kind, sub, v and referenced name" is equality here
pub data Expr : Type 0 where
  -- its 64 bits
  literal : Literal → ℕ → Expr
  -- "11 reference (a name)"
  reference : ℕ → Expr
  operation : Op → Expr → Expr → Expr

-- a literal by its sub
abbrev pub literal_of : ℕ → Literal
literal_of s = get_or (int ∷ uint ∷ float ∷ hex ∷ bool ∷ []) s bool

-- an operation by its sub
abbrev pub op_of : ℕ → Op
op_of s = get_or (add ∷ sub ∷ mul ∷ div ∷ eq ∷ ne ∷ lt ∷ le ∷ gt ∷ ge ∷ []) s ge

-- one record of a tree, with a way to its children's trees; in an accepted book what is neither 10 nor 11 is 12
unfoldable pub expr_of : (ℕ → Expr) → Record → Expr
expr_of tree r =
    elim (is_kind 10 r) [
      | true ↦ literal (literal_of r.sub) r.v
      | false ↦
          elim (is_kind 11 r) [
            | true ↦ reference r.a
            | false ↦ operation (op_of r.sub) (tree r.a) (tree r.b)
          ]
    ]

-- the first `levels` levels of the tree at record n. In an accepted book no tree has more than 64.
unfoldable pub expr_at : ℕ → List Record → ℕ → Expr
expr_at zero rs n = literal bool 0
expr_at (suc levels) rs n = expr_of (expr_at levels rs) (record_of rs n)

-- `collect_const_refs`: the names that kind 11 names, one entry for each place
unfoldable pub refs : Expr → List ℕ
refs (literal l v) = []
refs (reference n) = n ∷ []
refs (operation o l r) = refs l ++ refs r
