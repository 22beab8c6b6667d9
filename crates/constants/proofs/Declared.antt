-- The constants of a book stand at its records of kind 24, and their expressions are children of these.
-- Assumes nothing.
use Prim.Native.Nat.{ℕ, ◌<◌}
use mathlib.Core.List.Memᴰ
use mathlib.Core.List.{List, Memᴰ}
use mathlib.Core.Path.{◌≡◌, refl, sym, ap, subst}
use lib.ListN.{length}
use borrow.Author.Tests.{eqb-true}
use Rattle.record.specs.declared.Record.{Record}
use Rattle.book.specs.Lists.{keep}
use Rattle.book.specs.Shape.{type, constant, declaration, name, child, unused, row, table}
use Rattle.book.specs.Shape.{child_in}
use Rattle.book.specs.Faults.{record_of, is_kind}
use Rattle.book.specs.Outline.{Book, ◌!◌, numbers_of}
use Rattle.book.specs.Trees.{IsChild, WellFormed}
use Rattle.book.proofs.Members.{mem_keep, mem_up_to}
use Rattle.book.proofs.Soles.{children_by_row}
use Rattle.constants.specs.Order.{Constant}
use Rattle.constants.specs.OfBook.{constant_at, constants}

-- the constant is the one at record n
abbrev pub IsAt : Book → Constant → ℕ → Type 0
IsAt book c n = (c ≡ constant_at book n) × (n < length book.records) × ((book ! n).kind ≡ 24)

pub declared_at : {c : Constant} (book : Book) → Memᴰ c (constants book) → IsAt book c c.place
unfolding constants numbers_of constant_at
declared_at {c} book m =
    let (n, among, is_c) = Memᴰ.of_map (constant_at book) (numbers_of (is_kind 24) book) m in
    let e = sym is_c in
    let (below, is) = mem_keep (λ n. is_kind 24 (book ! n)) _ among in
    subst (IsAt book c) (sym (ap (λ c. c.place) e)) (e, mem_up_to _ below, eqb-true _ _ is)

-- the type and the expression of a constant (24) are its children
pub constant_children :
    (rs : List Record) → WellFormed rs → (n : ℕ) → n < length rs → (record_of rs n).kind ≡ 24 →
    IsChild rs n (record { group = type; number = (record_of rs n).b }) × IsChild rs n (record { group = constant; number = (record_of rs n).c })
unfolding keep table child_in
constant_children rs sound n less e =
    let c = children_by_row rs sound n less (row declaration 24 0 0 name (child type) (child constant) unused) e refl in
    (c.0, c.1.0)

pub expression_is_child :
    (rs : List Record) → WellFormed rs → (n : ℕ) → n < length rs → (record_of rs n).kind ≡ 24 →
    IsChild rs n (record { group = constant; number = (record_of rs n).c })
expression_is_child rs sound n less e = (constant_children rs sound n less e).1
