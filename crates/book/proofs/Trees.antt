-- Proofs by the rows of the table, and readers that take so many levels of a tree: more levels than there are give the
-- same.
-- Assumes nothing.
use Prim.Native.Nat.{ℕ, zero, suc, ◌+◌, ◌≤◌, ◌<◌}
use mathlib.Core.Bool.{Bool, true, false, cond, ◌&&◌, ◌||◌, false≢true, true≢false}
use mathlib.Core.List.{List, [], ◌∷◌, Memᴰ}
use mathlib.Core.Option.{Option, some, none}
use mathlib.Core.Path.{◌≡◌, refl, sym, ◌∙◌, subst}
use native.Mathlib.Omega.{arith}
use lib.Dec.{leb, eqb}
use lib.ListN.{length}
use borrow.Author.Tests.{leb-true, eqb-true}
use Rattle.record.specs.declared.Record.{Record}
use Rattle.book.specs.Lists.{All, any, find, keep}
use Rattle.book.specs.Shape.{Group, in_group}
use Rattle.book.specs.Shape.{Row, table, is_row, row_of, fits, well_shaped, Child, children_by, children, is_of}
use Rattle.book.specs.Faults.{record_of, deeper_than}
use Rattle.book.specs.Trees.{WellFormed}
use Rattle.book.proofs.Members.{Found, first_mem, found}

-- what a Boolean is by what it is not, and by its parts
pub not_so : (b : Bool) → (b ≡ true → ⊥) → b ≡ false
not_so false f = refl
not_so true f = absurd (f refl)

pub both_not : (a b : Bool) → a || b ≡ false → (a ≡ false) × (b ≡ false)
both_not false b e = (refl, e)
both_not true b e = absurd (true≢false e)

pub both_so : (a b : Bool) → a && b ≡ true → (a ≡ true) × (b ≡ true)
both_so true b e = (refl, e)
both_so false b e = absurd (false≢true e)

all_three : (a b c : Bool) → a && b && c ≡ true → (a ≡ true) × (b ≡ true) × (c ≡ true)
all_three a b c e =
    let (first, third) = both_so (a && b) c e in
    let (one, other) = both_so a b first in
    (one, other, third)

module _ {A : Type 0} where
  all_with : {P Q R : A → Type 0} → ((x : A) → P x → Q x → R x) → (l : List A) → All P l → All Q l → All R l
  all_with f [] p q = tt
  all_with f (x ∷ l) p q = (f x p.0 q.0, all_with f l p.1 q.1)

  pub none_passes :
      {P : A → Type 0} (test : A → Bool) → ((x : A) → test x ≡ false → P x) → (l : List A) → any test l ≡ false → All P l
  unfolding any
  none_passes test f [] e = tt
  none_passes {P} test f (x ∷ l) e = go (test x) refl e (none_passes test f l)
    where
      go :
          (b : Bool) → test x ≡ b → elim b [ true ↦ true | false ↦ any test l ] ≡ false → (any test l ≡ false → All P l) →
          All P (x ∷ l)
      go true t e rest = absurd (true≢false e)
      go false t e rest = (f x t, rest e)

-- the row of a record that has the shape of one
pub record RowIs (r : Record) (w : Row) : Type 0 where
  pub in_table : Memᴰ w table
  pub same_kind : r.kind ≡ w.kind
  pub at_least : w.low ≤ r.sub
  pub at_most : r.sub ≤ w.high
  pub inside : fits r (some w) ≡ true

pub shaped_row : (r : Record) → well_shaped r ≡ true → (w : Row) × RowIs r w
unfolding well_shaped row_of
shaped_row r shaped = go (row_of r) (found (is_row r) table) shaped
  where
    go : (o : Option Row) → Found (is_row r) table o → fits r o ≡ true → (w : Row) × RowIs r w
    go none f e = absurd (false≢true e)
    go (some w) f e =
        let (k, low, high) = all_three (eqb r.kind w.kind) (leb w.low r.sub) (leb r.sub w.high) f.passes in (
          w,
          record {
            in_table = first_mem f;
            same_kind = eqb-true _ _ k;
            at_least = leb-true _ _ low;
            at_most = leb-true _ _ high;
            inside = e;
          },
        )

-- the rows of a group
abbrev rows_of : Group → List Row
rows_of g = keep (λ w. in_group g (some w)) table

-- the record with another kind
abbrev pub with_kind : ℕ → Record → Record
with_kind k r = record { kind = k; sub = r.sub; a = r.a; b = r.b; c = r.c; v = r.v; span = r.span }

-- what holds of a record and its row, if the row is its row
abbrev ByRow : (Record → Option Row → Type 0) → Record → Row → Type 0
ByRow P r w = w.low ≤ r.sub → r.sub ≤ w.high → P (with_kind w.kind r) (some w)

-- a proof by the rows of a group
pub by_row :
    (P : Record → Option Row → Type 0) (g : Group) (r : Record) → is_of g r ≡ true → All (ByRow P r) (rows_of g) → P r (row_of r)
unfolding is_of row_of find keep
by_row P g r = go table
  where
    step :
        (w : Row) (l : List Row) (o : Option Row) → (in_group g o ≡ true → All (ByRow P r) l → P r o) →
        (b b' : Bool) → is_row r w ≡ b → in_group g (some w) ≡ b' →
        in_group g (elim b [ true ↦ some w | false ↦ o ]) ≡ true → All (ByRow P r) (cond b' (w ∷ l) l) →
        P r (elim b [ true ↦ some w | false ↦ o ])
    step w l o next true true e f is p =
        let (k, low, high) = all_three (eqb r.kind w.kind) (leb w.low r.sub) (leb r.sub w.high) e in
        subst (λ k. P (with_kind k r) (some w)) (sym (eqb-true _ _ k)) (p.0 (leb-true _ _ low) (leb-true _ _ high))
    step w l o next true false e f is p = absurd (false≢true (sym f ∙ is))
    step w l o next false true e f is p = next is p.1
    step w l o next false false e f is p = next is p

    go :
        (l : List Row) → in_group g (find (is_row r) l) ≡ true → All (ByRow P r) (keep (λ w. in_group g (some w)) l) →
        P r (find (is_row r) l)
    go [] is p = absurd (false≢true is)
    go (w ∷ l) is p = step w _ (find (is_row r) l) (go l) (is_row r w) (in_group g (some w)) refl refl is p

-- of a record and its children
pub by_rows :
    (P : Record → List Child → Type 0) (g : Group) (r : Record) → is_of g r ≡ true →
    All (ByRow (λ r o. P r (children_by r o)) r) (rows_of g) → P r (children r)
unfolding children
by_rows P = by_row (λ r o. P r (children_by r o))

-- a reader of the trees of a sort: so many levels of the tree at a record
module _ {A : Type 0} (rs : List Record) (Of : Record → Type 0) (read : ℕ → ℕ → A) where
  -- d and e levels are the same of a child, if it is of the sort
  abbrev SameAt : ℕ → ℕ → Child → Type 0
  SameAt d e c =
      (is_of c.group (record_of rs c.number) ≡ true)
      × (Of (record_of rs c.number) → read d c.number ≡ read e c.number)

  -- kinds from 20 up are not of the sort, and one level more depends on the children alone
  module _
      (sound : WellFormed rs) (low : (r : Record) → Of r → r.kind < 20)
      (one_more_lem : (d e n : ℕ) → Of (record_of rs n) → All (SameAt d e) (children (record_of rs n)) → read (suc d) n ≡ read (suc e) n) where
    not_deeper :
        (d e n : ℕ) → e ≤ d → n < length rs → Of (record_of rs n) → deeper_than e rs n ≡ false → read d n ≡ read e n
    unfolding deeper_than
    not_deeper d zero n more less is shallow = absurd (true≢false shallow)
    not_deeper zero (suc e) n more less is shallow = absurd (omega arith)
    not_deeper (suc d) (suc e) n more less is shallow =
        let cs = children (record_of rs n) in
        one_more_lem d e n is
        (all_with
        (λ c h shallow'. (h.of_group, λ is'. not_deeper d e c.number (omega arith) (omega arith) is' shallow'))
        cs (sound n less).children_are (none_passes _ (λ c h. h) cs shallow))

    pub whole : (n : ℕ) → n < length rs → Of (record_of rs n) → (more : ℕ) → read (64 + more) n ≡ read 64 n
    whole n less is more =
        not_deeper (64 + more) 64 n (omega arith) less is ((sound n less).shallow (low (record_of rs n) is))
