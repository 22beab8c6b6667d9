-- The row of a record whose kind stands in one row of the table only, and its children by that row.
-- Assumes nothing.
use Prim.Native.Nat.{ℕ, ◌<◌}
use mathlib.Core.Bool.{Bool, true, false, cond, false≢true}
use mathlib.Core.List.{List, [], ◌∷◌}
use mathlib.Core.Option.{some, none}
use mathlib.Core.Path.{◌≡◌, refl, sym, ap, ◌∙◌}
use lib.Dec.{eqb}
use lib.ListN.{length}
use borrow.Author.Tests.{ne_eqb}
use Rattle.record.specs.declared.Record.{Record}
use Rattle.book.specs.Lists.{All, find, keep}
use Rattle.book.specs.Shape.{Group, child?, Row, table, is_row, row_of, fits, well_shaped, Child, child_in, children_by, children, names_by, names}
use Rattle.book.specs.Faults.{record_of}
use Rattle.book.specs.Trees.{IsChild, WellFormed}
use Rattle.book.proofs.Trees.{both_so}

-- what passes one test passes another: the first to pass it is among those that pass the other
find_kept : (p q : Row → Bool) → ((w : Row) → p w ≡ true → q w ≡ true) → (l : List Row) → find p l ≡ find p (keep q l)
unfolding find keep
find_kept p q so [] = refl
find_kept p q so (x ∷ l) = go (p x) (q x) refl refl (find_kept p q so l)
  where
    go :
        (b c : Bool) → p x ≡ b → q x ≡ c → find p l ≡ find p (keep q l) →
        find p (x ∷ l) ≡ find p (cond c (x ∷ keep q l) (keep q l))
    go true true e f rest = rw (e, find)
    go true false e f rest = absurd (false≢true (sym f ∙ so x e))
    go false true e f rest = rw (e, find) rest
    go false false e f rest = rw (e, find) rest

-- the row w is the only one of its kind
abbrev pub Sole : Row → Type 0
Sole w = keep (λ x. eqb w.kind x.kind) table ≡ w ∷ []

module _ (r : Record) (w : Row) (shaped : well_shaped r ≡ true) (is : r.kind ≡ w.kind) (sole : Sole w) where
  pub sole_row : row_of r ≡ some w
  unfolding row_of find well_shaped
  sole_row = go (is_row r w) refl
    where
      here : row_of r ≡ find (is_row r) (w ∷ [])
      here =
          find_kept (is_row r) (λ x. eqb w.kind x.kind) (λ x e. let same : eqb r.kind x.kind ≡ true = (both_so _ _ (both_so _ _ e).0).0 in rw is at same) table
          ∙ ap (find (is_row r)) sole

      go : (b : Bool) → is_row r w ≡ b → row_of r ≡ some w
      go true e = rw (here, e, find)
      go false e =
          let none_there : row_of r ≡ none = rw (here, e, find) in
          absurd (false≢true (sym (ap (fits r) none_there) ∙ shaped))

  pub sole_children : children r ≡ children_by r (some w)
  unfolding children
  sole_children = ap (children_by r) sole_row

  pub sole_names : names r ≡ names_by r (some w)
  unfolding names
  sole_names = ap (names_by r) sole_row

-- of a record of a book
module _
    (rs : List Record) (sound : WellFormed rs) (n : ℕ) (less : n < length rs)
    (w : Row) (is : (record_of rs n).kind ≡ w.kind) (sole : Sole w)
  where
    pub children_by_row : All (IsChild rs n) (children_by (record_of rs n) (some w))
    children_by_row = rw (sole_children (record_of rs n) w (sound n less).shaped is sole) at (sound n less).children_are

    pub names_by_row : All (λ x. x < 4096) (names_by (record_of rs n) (some w))
    names_by_row = rw (sole_names (record_of rs n) w (sound n less).shaped is sole) at (sound n less).named

-- a child that may be missing, and is not
pub child_there :
    (P : Child → Type 0) (g : Group) (x : ℕ) → All P (child_in (child? g) x) → ¬ (x ≡ 65535) → P (record { group = g; number = x })
unfolding child_in
child_there P g x p is = (rw (ne_eqb x 65535 is, All) at p).0
