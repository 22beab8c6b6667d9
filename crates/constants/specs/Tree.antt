-- Expressions as the code takes them apart: a record by its kind, and the tree of the records below it.
-- Assumes nothing.
use Rattle.std.specs.Prelude.{ℕ, zero, suc, cond, ◌&&◌, ◌<◌, ltb, [], ◌∷◌, get_or, Result, Ok}
use Rattle.record.specs.declared.Record.{Record}
use Rattle.record.specs.declared.kind.Kind.{Kind}
use Rattle.record.specs.declared.kind.Kind.TheVariants.{Literal, Reference, Operation}
use Rattle.record.specs.declared.kind.UnknownKind.{UnknownKind}
use Rattle.record.specs.Kind.{kind_from}
use Rattle.book.specs.Outline.{Book, ◌!◌}
use Rattle.constants.specs.declared.tree.Node.{Node}
use Rattle.constants.specs.declared.tree.Node.TheVariants.{Value, Name, Sides, Other}
use Rattle.constants.specs.declared.tree.Literal as code
use Rattle.constants.specs.declared.tree.Literal.TheVariants.{Int, UInt, Float, Hex, Bool as Truth}
use Rattle.constants.specs.declared.tree.BinOp.{BinOp}
use Rattle.constants.specs.declared.tree.BinOp.TheVariants.{Add, Sub, Mul, Div, Eq, Ne, Lt, Le, Gt, Ge}
use Rattle.constants.specs.Expr as expr
use Rattle.constants.specs.Expr.{int, uint, float, hex, bool, Op, add, sub, mul, div, eq, ne, lt, le, gt, ge}
use Rattle.constants.specs.Expr.{Expr, literal, reference, operation}

-- literals and operations, as the definitions name them
abbrev pub literal_named : code.Literal → expr.Literal
literal_named Int = int
literal_named UInt = uint
literal_named Float = float
literal_named Hex = hex
literal_named Truth = bool

abbrev pub op_named : BinOp → Op
op_named Add = add
op_named Sub = sub
op_named Mul = mul
op_named Div = div
op_named Eq = eq
op_named Ne = ne
op_named Lt = lt
op_named Le = le
op_named Gt = gt
op_named Ge = ge

-- what a sub gives
abbrev pub literal_by : ℕ → code.Literal
literal_by s = get_or (Int ∷ UInt ∷ Float ∷ Hex ∷ Truth ∷ []) s Truth

abbrev pub op_by : ℕ → BinOp
op_by s = get_or (Add ∷ Sub ∷ Mul ∷ Div ∷ Eq ∷ Ne ∷ Lt ∷ Le ∷ Gt ∷ Ge ∷ []) s Ge

-- a record by its kind
abbrev pub node_by : Record → Result Kind UnknownKind → Node
node_by r (Ok Reference) = Name r.a
node_by r (Ok Literal) = Value (literal_by r.sub) r.v
node_by r (Ok Operation) = Sides (op_by r.sub) r.a r.b
node_by r kind = Other

abbrev pub node_of : Record → Node
node_of r = node_by r (kind_from r.kind)

abbrev pub SidesEarlier : ℕ → Node → Type 0
SidesEarlier n (Value l v) = Unit {0}
SidesEarlier n (Name a) = Unit {0}
SidesEarlier n (Sides o a b) = (a < n) × (b < n)
SidesEarlier n Other = Unit {0}

-- the expression that the record at n gives, from the trees of its sides, which are earlier records
unfoldable pub expr_by : (ℕ → Expr) → ℕ → Node → Expr
expr_by tree n (Value l v) = literal (literal_named l) v
expr_by tree n (Name a) = reference a
expr_by tree n (Sides o a b) = cond (ltb a n && ltb b n) (operation (op_named o) (tree a) (tree b)) (literal bool 0)
expr_by tree n Other = literal bool 0

-- so many levels of the tree at record n, and as many as it has
unfoldable pub levels_of : ℕ → Book → ℕ → Expr
levels_of zero book n = literal bool 0
levels_of (suc levels) book n = expr_by (levels_of levels book) n (node_of (book ! n))

unfoldable pub tree : Book → ℕ → Expr
tree book n = levels_of (suc n) book n
