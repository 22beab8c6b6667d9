-- The table of shapes.
use Rattle.std.specs.Prelude.{ℕ, zero, suc, map, length, drop, get_or, Option, Some, None, option_copied, ◌-◌, ◌^◌, ◌≤◌, ◌<◌, Bool, true, false, cond, not, ◌||◌, List, [], ◌∷◌, ◌≡◌, leb, ltb, eqb}
use Rattle.std.proofs.Common.{refl, sym, ap, ◌∙◌, subst, arith}
use mathlib.Core.Bool.{or-false, true≢false}
use mathlib.Core.List.{Memᴰ}
use mathlib.Core.Option.{none-ne-some}
use lib.Dec.{leb-zero}
use Rattle.record.specs.Kind.{code_of}
use Rattle.std.proofs.Math.Option as defined
use Rattle.std.proofs.Math.Option.{some, none}
use Rattle.std.specs.List as std
use Rattle.std.specs.Borrow.{Bor}
use Rattle.record.specs.declared.Record.{Record}
use Rattle.book.specs.declared.shape.Group as code_group
use Rattle.book.specs.declared.shape.Group.TheVariants.{«Type», Constant, Constraint, Operand, Declaration, Item}
use Rattle.book.specs.declared.shape.Row as code_row
use Rattle.book.specs.declared.shape.TheConstants.{TABLE, FIRST}
use Rattle.book.specs.Lists.{any, find}
use borrow.Author.Tests.{leb-false, ne_eqb, ltb-true, ltb-false, eqb-true, eqb-false, le-leb, lt-leb}
use Rattle.book.specs.Shape.{Group, type, constant, constraint, operand, declaration, item, Row, row, table, is_row, row_of, fits, well_shaped, group_number}
use Rattle.book.specs.Shape.{Field, unused, flag, bits, name, name?, string, string?, ordinal, free, child, child?, allows}
use Rattle.book.proofs.Filled.{cell_at}
use Rattle.book.proofs.Members.{of_all, Found, found, first_mem}
use Rattle.book.proofs.Trees.{both_so, none_passes}
use Rattle.book.specs.Rows.{last_in, none_in, group_from, row_from, row_in, first_row, is_outside_group, IsRow, is_plain}

-- up to a number is below the next one
up_to : (x k : ℕ) → leb x k ≡ ltb x (suc k)
up_to x k = go (ltb x (suc k)) refl
  where
    go : (b : Bool) → ltb x (suc k) ≡ b → leb x k ≡ b
    go true t = le-leb x k (omega (arith, ltb-true x (suc k) t))
    go false t = lt-leb x k (omega (arith, ltb-false x (suc k) t))

up_to_zero : (x : ℕ) → leb x 0 ≡ eqb x 0
up_to_zero x = go (eqb x 0) refl
  where
    go : (b : Bool) → eqb x 0 ≡ b → leb x 0 ≡ b
    go true t = le-leb x 0 (omega (arith, eqb-true x 0 t))
    go false t = lt-leb x 0 (let other = eqb-false x 0 t in omega arith)

allowed_is : (f : Field) (x : ℕ) → x < 2 ^ 64 → leb x (last_in f) || none_in f x ≡ allows f x
unfolding allows
allowed_is unused x low = or-false (leb x 0) ∙ up_to_zero x
allowed_is flag x low = or-false (leb x 1) ∙ up_to x 1
allowed_is bits x low = or-false (leb x 255) ∙ up_to x 255
allowed_is name x low = or-false (leb x 4095) ∙ up_to x 4095
allowed_is name? x low = ap (λ b. b || eqb x 65535) (up_to x 4095)
allowed_is string x low = or-false (leb x 65534) ∙ up_to x 65534
allowed_is string? x low = ap (λ b. b || false) (le-leb x (2 ^ 64 - 1) (omega arith))
allowed_is ordinal x low = or-false (leb x (2 ^ 32 - 1)) ∙ up_to x (2 ^ 32 - 1)
allowed_is free x low = ap (λ b. b || false) (le-leb x (2 ^ 64 - 1) (omega arith))
allowed_is (child g) x low = ap (λ b. b || false) (le-leb x (2 ^ 64 - 1) (omega arith))
allowed_is (child? g) x low = ap (λ b. b || false) (le-leb x (2 ^ 64 - 1) (omega arith))

-- a field may hold x up to its last value, and above it what stands for no name
pub allowed : (f : Field) (x : ℕ) → x < 2 ^ 64 → x ≤ last_in f → allows f x ≡ true
allowed f x low few = sym (allowed_is f x low) ∙ ap (λ b. b || none_in f x) (le-leb x (last_in f) few)

pub allowed_none : (f : Field) (x : ℕ) → x < 2 ^ 64 → last_in f < x → allows f x ≡ none_in f x
allowed_none f x low more = sym (allowed_is f x low) ∙ ap (λ b. b || none_in f x) (lt-leb x (last_in f) more)

-- the code's table is the definition's
pub table_is : map row_from TABLE ≡ table
unfolding table
table_is = refl

-- 38 rows
pub rows : length table ≡ 38
unfolding table
rows = refl

-- no row before the first of its kind is the row of a record
first_skips : (r : Record) (ws : List Row) → find (is_row r) ws ≡ find (is_row r) (drop (first_row r.kind ws) ws)
unfolding find first_row
first_skips r [] = refl
first_skips r (w ∷ ws) = by (eqb r.kind w.kind) refl (first_skips r ws)
  where
    by :
        (b : Bool) → eqb r.kind w.kind ≡ b →
        find (is_row r) ws ≡ find (is_row r) (drop (first_row r.kind ws) ws) →
        find (is_row r) (w ∷ ws) ≡ find (is_row r) (drop (first_row r.kind (w ∷ ws)) (w ∷ ws))
    by true e rest = rw (e, first_row)
    by false e rest = rw (e, find, first_row) rest

first_most : (k : ℕ) (ws : List Row) → first_row k ws ≤ length ws
unfolding first_row
first_most k [] = omega arith
first_most k (w ∷ ws) = by (eqb k w.kind) (first_most k ws)
  where
    by : (b : Bool) → first_row k ws ≤ length ws → elim b [ true ↦ 0 | false ↦ suc (first_row k ws) ] ≤ suc (length ws)
    by true rest = omega arith
    by false rest = omega arith

first_from : (r : Record) {i : ℕ} → i ≡ first_row r.kind table → (i ≤ 38) × (row_of r ≡ find (is_row r) (drop i table))
unfolding row_of
first_from r e = (omega (arith, first_most r.kind table, rows), first_skips r table ∙ ap (λ i. find (is_row r) (drop i table)) (sym e))

-- a kind that is above those of all rows has none
first_none : (k m : ℕ) → m ≤ k → (ws : List Row) → any (λ w. leb m w.kind) ws ≡ false → first_row k ws ≡ length ws
unfolding any first_row
first_none k m less [] e = refl
first_none k m less (w ∷ ws) e = by (leb m w.kind) refl e (first_none k m less ws)
  where
    by :
        (b : Bool) → leb m w.kind ≡ b → elim b [ true ↦ true | false ↦ any (λ w. leb m w.kind) ws ] ≡ false →
        (any (λ w. leb m w.kind) ws ≡ false → first_row k ws ≡ length ws) →
        elim (eqb k w.kind) [ true ↦ 0 | false ↦ suc (first_row k ws) ] ≡ suc (length ws)
    by true t e rest = absurd (true≢false e)
    by false t e rest = rw (ne_eqb k w.kind (λ s. omega (arith, leb-false m w.kind t))) (ap suc (rest e))

pub first_past : (k : ℕ) → 37 ≤ k → first_row k table ≡ 38
unfolding any table
first_past k less = first_none k 37 less table refl

-- the code's list of first rows is the rule, kind by kind
pub first_found : (k x : ℕ) → k < 37 → x ≡ get_or FIRST k x → x ≡ first_row k table
unfolding table first_row
first_found k x less is = is ∙ cell_at (λ k. first_row k table) x 37 k less

-- the row that the code finds, by what it stands for
abbrev row_of_option : Option code_row.Row → defined.Option Row
row_of_option None = none
row_of_option (Some w) = some (row_from w)

copied : (o : Option (Bor code_row.Row)) → row_in o ≡ row_of_option (option_copied o)
copied None = refl
copied (Some w) = refl

found_in : (p : Row → Bool) (ws : List code_row.Row) → row_of_option (std.find (λ w. p (row_from w)) ws) ≡ find p (map row_from ws)
unfolding find
found_in p [] = refl
found_in p (w ∷ ws) = go (p (row_from w)) (found_in p ws)
  where
    go :
        (b : Bool) → row_of_option (std.find (λ w. p (row_from w)) ws) ≡ find p (map row_from ws) →
        row_of_option (cond b (Some w) (std.find (λ w. p (row_from w)) ws)) ≡ elim b [ true ↦ some (row_from w) | false ↦ find p (map row_from ws) ]
    go true e = refl
    go false e = e

map_drop : (n : ℕ) (ws : List code_row.Row) → map row_from (drop n ws) ≡ drop n (map row_from ws)
map_drop zero ws = refl
map_drop (suc n) [] = refl
map_drop (suc n) (w ∷ ws) = map_drop n ws

-- the row that the code finds from the first of a record's kind on is the record's
pub row_found :
    (r : Record) (i : ℕ) (o : Option (Bor code_row.Row)) → i ≡ first_row r.kind table →
    option_copied o ≡ std.find (λ w. is_row r (row_from w)) (drop i TABLE) → row_in o ≡ row_of r
row_found r i o first is =
    copied o
    ∙ ap row_of_option is
    ∙ found_in (is_row r) (drop i TABLE)
    ∙ ap (find (is_row r)) (map_drop i TABLE ∙ ap (drop i) table_is)
    ∙ sym (first_from r first).1

pub first_few : (k i : ℕ) → i ≡ first_row k table → i ≤ 38
first_few k i e = omega (arith, first_most k table, rows)

-- two groups with one number are one group
abbrev code_by : ℕ → code_group.Group
code_by n = get_or («Type» ∷ «Type» ∷ Constant ∷ Constraint ∷ Operand ∷ Declaration ∷ Item ∷ []) n «Type»

code_back : (g : code_group.Group) → code_by (group_number (group_from g)) ≡ g
code_back «Type» = refl
code_back Constant = refl
code_back Constraint = refl
code_back Operand = refl
code_back Declaration = refl
code_back Item = refl

pub code_same : (g h : code_group.Group) → group_number (group_from g) ≡ group_number (group_from h) → g ≡ h
code_same g h e = sym (code_back g) ∙ ap code_by e ∙ code_back h

-- two tests agree
abbrev pub agree : Bool → Bool → Bool
agree true b = b
agree false b = not b

agreed : (a b : Bool) → not (agree a b) ≡ false → a ≡ b
agreed true true e = refl
agreed true false e = e
agreed false true e = sym e
agreed false false e = refl

-- two tests that agree on the rows of the table agree on the row of a record
pub by_table : (p q : Row → Bool) → any (λ (w : Row). not (agree (p w) (q w))) table ≡ false → (w : Row) → Memᴰ w table → p w ≡ q w
by_table p q each w m = of_all (λ (w : Row). p w ≡ q w) table (none_passes _ (λ w e. agreed (p w) (q w) e) table each) w m

-- the row of a record stands in the table, and has its kind
row_facts : (r : Record) (w : Row) → row_of r ≡ some w → (r.kind ≡ w.kind) × Memᴰ w table
unfolding row_of
row_facts r w is = go (row_of r) is (found (is_row r) table)
  where
    go : (o : defined.Option Row) → o ≡ some w → Found (is_row r) table o → (r.kind ≡ w.kind) × Memᴰ w table
    go none is f = absurd (none-ne-some _ is)
    go (some x) is f =
        let same : x ≡ w = cc in
        let (kind, _) = both_so _ _ (both_so _ _ f.passes).0 in
        (eqb-true r.kind x.kind kind ∙ ap (λ (w : Row). w.kind) same, subst (λ (w : Row). Memᴰ w table) same (first_mem f))

-- declarations and items by their groups
outside : Group → Bool
outside type = false
outside constant = false
outside constraint = false
outside operand = false
outside declaration = true
outside item = true

outside_group : (g : code_group.Group) → is_outside_group g ≡ outside (group_from g)
unfolding outside
outside_group «Type» = refl
outside_group Constant = refl
outside_group Constraint = refl
outside_group Operand = refl
outside_group Declaration = refl
outside_group Item = refl

module _ {r : Record} {w : code_row.Row} (is : IsRow r w) where
  pub kind_is : r.kind ≡ code_of w.kind
  kind_is = (row_facts r (row_from w) is.row_is).0

  pub shaped : well_shaped r ≡ true
  unfolding well_shaped
  shaped = is.fitting

  -- declarations and items have kinds above 16, and from 20 up
  pub outside_is : is_outside_group w.group ≡ ltb 16 r.kind
  unfolding table any outside
  outside_is =
      outside_group w.group
      ∙ by_table (λ w. outside w.group) (λ w. ltb 16 w.kind) refl (row_from w) (row_facts r (row_from w) is.row_is).1
      ∙ ap (ltb 16) (sym (row_facts r (row_from w) is.row_is).0)

  pub inside_is : not (is_outside_group w.group) ≡ ltb r.kind 20
  unfolding table any outside
  inside_is =
      ap not (outside_group w.group)
      ∙ by_table (λ w. not (outside w.group)) (λ w. ltb w.kind 20) refl (row_from w) (row_facts r (row_from w) is.row_is).1
      ∙ ap (λ k. ltb k 20) (sym (row_facts r (row_from w) is.row_is).0)

-- a primitive type with nothing in its fields: the first row is its row
pub record Primitive (r : Record) : Type 0 where
  pub kind_is : r.kind ≡ 1
  pub row_is : row_of r ≡ some (row type 1 0 13 unused unused unused unused)
  pub fitting : fits r (row_of r) ≡ true

pub primitive_is : (r : Record) → is_plain r ≡ true → Primitive r
unfolding row_of table find allows
primitive_is r e =
    let (before_v, v) = both_so _ _ e in
    let (before_c, c) = both_so _ _ before_v in
    let (before_b, b) = both_so _ _ before_c in
    let (before_a, a) = both_so _ _ before_b in
    let (kind, sub) = both_so _ _ before_a in
    record {
      kind_is = eqb-true r.kind 1 kind;
      row_is = rw (kind, leb-zero r.sub, sub, find);
      fitting = rw (kind, leb-zero r.sub, sub, find) (rw (a, b, c, v));
    }
