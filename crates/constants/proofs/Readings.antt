-- The constants of a book that is read, as the code takes them apart.
-- Assumes nothing.
use Rattle.std.specs.Prelude.{ℕ, zero, suc, ◌+◌, ◌≤◌, ◌<◌, true, ◌≡◌, length}
use Rattle.std.proofs.Common.{refl, sym, ap, ◌∙◌, subst, arith}
use borrow.Author.Tests.{lt-ltb, eqb-true}
use Rattle.record.specs.declared.Record.{Record}
use Rattle.book.specs.Lists.{All, keep, up_to}
use Rattle.book.specs.Shape.{constant, table, Child, child_in, children, is_of}
use Rattle.book.specs.Faults.{is_kind}
use Rattle.book.specs.Outline.{Book, ◌!◌, numbers_of}
use Rattle.book.specs.Trees.{IsChild, WellFormed}
use Rattle.book.proofs.Trees.{by_rows}
use Rattle.book.proofs.Members.{mem_keep, mem_up_to, all_of}
use Rattle.book.proofs.Lists.{keep-length, from-length}
use Rattle.constants.specs.Expr.{Expr, literal, operation, literal_of, op_of, expr_of, expr_at}
use Rattle.constants.specs.Order.{Constant}
use Rattle.constants.specs.OfBook.{constant_at, constants}
use Rattle.constants.specs.Tables.{constant_in}
use Rattle.constants.specs.Given.{NamesIn}
use Rattle.record.specs.Kind.{kind_from}
use Rattle.constants.specs.Tree.{literal_named, literal_by, node_of, expr_by, levels_of, tree}
use Rattle.constants.proofs.Declared.{IsAt, declared_at, expression_is_child}
use Rattle.constants.proofs.Whole.{whole_expressions}
use Rattle.constants.proofs.Numbered.{among, as_many, one_name, places_ascend}
use Rattle.constants.proofs.Trees.{tree_levels, literal_is, op_is}
use Rattle.constants.proofs.Standing.{IsOf}

-- a record of an expression gives the same by both ways, if its sides do. The rows: two of literals, references,
-- operations
gives_same :
    (f g : ℕ → Expr) (n : ℕ) (P : Child → Type 0) → ((m : ℕ) → P (record { group = constant; number = m }) → (m < n) × (f m ≡ g m)) →
    (r : Record) → is_of constant r ≡ true → All P (children r) → expr_by f n (node_of r) ≡ expr_of g r
unfolding keep table child_in expr_of expr_by kind_from
gives_same f g n P agree r is =
    by_rows (λ r cs. All P cs → expr_by f n (node_of r) ≡ expr_of g r) constant r is (
      λ l h p. value_same,
      (λ l h p. value_same, (λ l h p. refl, (λ l h p. operation_same (agree r.a p.0) (agree r.b p.1.0), tt))),
    )
  where
    value_same : literal (literal_named (literal_by r.sub)) r.v ≡ literal (literal_of r.sub) r.v
    value_same = ap (λ l. literal l r.v) (literal_is r.sub)

    operation_same :
        (r.a < n) × (f r.a ≡ g r.a) → (r.b < n) × (f r.b ≡ g r.b) →
        expr_by f n (node_of (record r { kind = 12 })) ≡ operation (op_of r.sub) (g r.a) (g r.b)
    operation_same (less, a) (less', b) = rw (lt-ltb r.a n less, lt-ltb r.b n less') (λ i. operation (op_is r.sub i) (a i) (b i))

module _ (book : Book) (sound : WellFormed book.records) where
  levels_same :
      (levels n : ℕ) → n < length book.records → is_of constant (book ! n) ≡ true → levels_of levels book n ≡ expr_at levels book.records n
  unfolding levels_of expr_at
  levels_same zero n less is = refl
  levels_same (suc levels) n less is =
      gives_same (levels_of levels book) (expr_at levels book.records) n (IsChild book.records n)
      (λ m c. (c.earlier, levels_same levels m (omega (arith, c.earlier)) c.of_group)) (book ! n) is (sound n less).children_are

  -- the whole tree
  pub tree_is : (n : ℕ) → n < length book.records → is_of constant (book ! n) ≡ true → tree book n ≡ expr_at 64 book.records n
  tree_is n less is =
      sym (tree_levels book (64 + suc n) n (omega arith))
      ∙ levels_same (64 + suc n) n less is
      ∙ whole_expressions book.records sound n less is (suc n)

  -- constant i of the book
  module _ (i : ℕ) (less : i < length (constants book)) where
    abbrev c : Constant
    c = constant_in (constants book) i

    at : IsAt book c c.place
    at = declared_at book (among book i less)

    expr_here : tree book (book ! c.place).c ≡ c.expr
    unfolding constant_at
    expr_here =
        let child = expression_is_child book.records sound c.place at.1 at.2 in
        tree_is (book ! c.place).c (omega (arith, child.earlier, at.1)) child.of_group ∙ sym (ap (λ (c : Constant). c.expr) at.0)

    not_first : 0 < c.place
    not_first = omega (arith, (expression_is_child book.records sound c.place at.1 at.2).earlier)

    name_here : (book ! c.place).a ≡ c.name
    unfolding constant_at
    name_here = sym (ap (λ (c : Constant). c.name) at.0)

    pub name_in : {most : ℕ} → NamesIn book most → c.name < most
    name_in {most} below = subst (λ n. n < most) name_here (below c.place at.1 at.2)

  pub is_of_book : IsOf book (constants book)
  is_of_book = record {
    expr_is = expr_here;
    name_is = name_here;
    one_name = λ i j less less' same. one_name book sound i j less less' same;
    ascend = places_ascend book;
    beyond_first = not_first;
  }

  -- there are no more than records
  pub fewer : length (constants book) ≤ length book.records
  unfolding numbers_of
  fewer =
      let all = keep-length (λ n. is_kind 24 (book ! n)) (up_to (length book.records)) in
      omega (arith, as_many book, all, from-length 0 (length book.records))

-- the records of constants have names below a number
pub names_all : (book : Book) (most : ℕ) → NamesIn book most → All (λ n. (book ! n).a < most) (numbers_of (is_kind 24) book)
unfolding numbers_of
names_all book most below =
    all_of (λ n. (book ! n).a < most) _
    (λ n m.
    let (inside, is) = mem_keep (λ n. is_kind 24 (book ! n)) (up_to (length book.records)) m in
    below n (mem_up_to _ inside) (eqb-true _ _ is))
