-- When two expressions are the same, told from the records. Words in quotation marks are rules of docs/FORMAT.md in
-- brief.
-- Assumes nothing.
use Rattle.std.specs.Prelude.{ℕ, ◌<◌, true, false, cond, ◌↔◌, ◌≡◌, length}
use mathlib.Core.List.{List, [], ◌∷◌, Memᴰ}
use Rattle.std.proofs.Math.Option.{Option, some, none}
use Rattle.record.specs.declared.Record.{Record}
use Rattle.book.specs.Shape.{constant, is_of}
use Rattle.book.specs.Faults.{record_of, is_kind}
use Rattle.book.specs.Refusal.{first_refusal}
use Rattle.book.specs.Outline.{Book, read, ◌!◌}
use Rattle.book.specs.Trees.{WellFormed}
use Rattle.constants.specs.Expr.{expr_at}
use Rattle.constants.specs.Order.{Constant}
use Rattle.constants.specs.OfBook.{constants}
use Rattle.constants.specs.Theory.{Distinct}

-- an operation has two children: "12 operation ([..]; a, b)"
pub data Side : Type 0 where
  left right : Side

unfoldable pub child_at : Side → Record → ℕ
child_at left r = r.a
child_at right r = r.b

-- what counts of a record: "kind, sub, v and referenced name"
pub record Seen : Type 0 where
  pub kind : ℕ
  pub sub : ℕ
  pub v : ℕ
  pub referenced : Option ℕ

unfoldable pub seen : Record → Seen
seen r = record { kind = r.kind; sub = r.sub; v = r.v; referenced = cond (is_kind 11 r) (some r.a) none }

-- what stands at a place of the tree at record n; a place is the way down to it, and there is nothing below what is no
-- operation
unfoldable pub stands_at : List Record → ℕ → List Side → Option Seen
stands_at rs n [] = some (seen (record_of rs n))
stands_at rs n (side ∷ way) =
    elim (is_kind 12 (record_of rs n)) [
      | true ↦ stands_at rs (child_at side (record_of rs n)) way
      | false ↦ none
    ]

-- "Expressions are the same if their trees agree at every place in kind, sub, v and referenced name."
abbrev pub SameTrees : List Record → ℕ → List Record → ℕ → Type 0
SameTrees rs n qs m = (place : List Side) → stands_at rs n place ≡ stands_at qs m place

-- of a constant of one book and one of another
abbrev pub SameExpression : Book → Constant → Book → Constant → Type 0
SameExpression book c other d =
    SameTrees book.records (book ! c.place).c other.records (other ! d.place).c

-- two trees of accepted books are the same exactly if the expressions are equal
abbrev pub SameTreesAreEqual : Type 0
SameTreesAreEqual =
    (rs : List Record) → WellFormed rs → (n : ℕ) → n < length rs → is_of constant (record_of rs n) ≡ true →
    (qs : List Record) → WellFormed qs → (m : ℕ) → m < length qs → is_of constant (record_of qs m) ≡ true →
    SameTrees rs n qs m ↔ (expr_at 64 rs n ≡ expr_at 64 qs m)

-- so of the constants of accepted books
abbrev pub SameExpressionsAreEqual : Type 0
SameExpressionsAreEqual =
    (book other : List ℕ) → first_refusal book ≡ none → first_refusal other ≡ none →
    (c d : Constant) → Memᴰ c (constants (read book)) → Memᴰ d (constants (read other)) →
    SameExpression (read book) c (read other) d ↔ (c.expr ≡ d.expr)

-- a name is declared by one constant in an accepted book: cause 7
abbrev pub AcceptedIsDistinct : Type 0
AcceptedIsDistinct = (book : List ℕ) → first_refusal book ≡ none → Distinct (constants (read book))
