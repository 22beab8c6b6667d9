-- The 41s in the result slice of an accepted book are those of the reached constants; those marked stored have the
-- stored names and values.
-- Assumes nothing.
use Prim.Native.Nat.{ℕ}
use mathlib.Core.Bool.{true}
use mathlib.Core.List.{List, map, Memᴰ}
use mathlib.Core.Option.{Option, some, none}
use mathlib.Core.Path.{◌≡◌, refl, sym, ap, ◌∙◌, subst}
use native.Mathlib.Omega.{arith}
use lib.Dec.{eqb}
use lib.IntN.{ℤ}
use borrow.Author.Tests.{eqb-true, eq-eqb}
use Rattle.record.specs.declared.Record.{Record}
use Rattle.arith.specs.Word.{signed, word}
use Rattle.arith.proofs.Words.{integer_and_back}
use Rattle.book.specs.Faults.{is_kind}
use Rattle.book.specs.Lists.{keep}
use Rattle.book.specs.Refusal.{first_refusal}
use Rattle.book.specs.Outline.{read}
use Rattle.book.specs.Lists.{All}
use Rattle.book.proofs.Members.{mem_keep, keep_mem, of_all}
use Rattle.constants.specs.Values.{IsI64}
use Rattle.constants.proofs.Values.{settled_are_i64}
use Rattle.book.proofs.First.{passed_by_all}
use Rattle.book.proofs.Trees.{both_so}
use Rattle.constants.specs.Order.{Constant, Settled}
use Rattle.constants.specs.OfBook.{settled}
use Rattle.bodies.specs.Constant.{constants_in, constant_of}
use Rattle.types.specs.Step.{is_stored}
use Rattle.lower.specs.LowerBook.{lower_book}
use Rattle.lower.specs.Laws.{Leaves, IsAccepted, first_records}
use Rattle.lower.specs.Told.{ReachedAreTold, StoredAreTold}
use Rattle.lower.proofs.Written.{reached_are_written}
use Rattle.lower.proofs.Laws.{accepted_by_none, slices_are_left}

pub accepted_unrefused : (book results diagnostics : List ℕ) → IsAccepted (lower_book book results diagnostics) → first_refusal book ≡ none
accepted_unrefused book results diagnostics x = (passed_by_all book).1 ((accepted_by_none book results diagnostics).0 x).0

pub reached_are_told : ReachedAreTold
unfolding Leaves
reached_are_told book results diagnostics r d c bytes e =
    let left = subst (Leaves book results diagnostics (lower_book book results diagnostics)) e (slices_are_left book results diagnostics bytes) in
    ap constants_in left.results_are ∙ reached_are_written (read book)

-- from the 41s of some records and some settled constants, whose values are i64s, to those marked stored and those that
-- are stored
module _
    (rs : List Record) (xs : List Settled) (same : constants_in rs ≡ map constant_of xs) (i64s : All (λ x. IsI64 x.value) xs)
    (n : ℕ) (z : ℤ)
  where
    abbrev Marked : Type 0
    Marked = (x : Record) × Memᴰ x rs × (is_stored x ≡ true) × (x.a ≡ n) × (signed x.v ≡ z)

    abbrev Valued : Type 0
    Valued = (c : Constant) × (c.name ≡ n) × Memᴰ (record { constant = c; value = some z }) xs

    stored_there : Marked → Valued
    unfolding constants_in constant_of
    stored_there (x, m, marked, name, value) =
        let (is_41, stored) = both_so (is_kind 41 x) (eqb x.sub 1) marked in
        let among : Memᴰ (x.a, x.sub, x.v) (constants_in rs) = mathlib.Core.List.Memᴰ.map _ (keep_mem (is_kind 41) m is_41) in
        let (y, k, e) = mathlib.Core.List.Memᴰ.of_map constant_of xs (subst (Memᴰ (x.a, x.sub, x.v)) same among) in
        go y k e (eqb-true x.sub 1 stored) y.value refl
      where
        go :
            (y : Settled) → Memᴰ y xs → constant_of y ≡ (x.a, x.sub, x.v) → x.sub ≡ 1 →
            (o : Option ℤ) → y.value ≡ o → Valued
        go y k e stored none p = absurd (omega (arith, ap (λ t. t.1) (rw p at e)))
        go y k e stored (some u) p =
            let is = rw p at e in
            let i64 : IsI64 (some u) = subst IsI64 p (of_all (λ x. IsI64 x.value) xs i64s y k) in
            let same_value : u ≡ z = sym (integer_and_back u i64.0 i64.1) ∙ ap signed (ap (λ t. t.2) is) ∙ value in
            let whole : record { constant = y.constant; value = some z } ≡ y =
            λ i. record { constant = y.constant; value = (ap some (sym same_value) ∙ sym p) i } in
            (y.constant, ap (λ t. t.0) is ∙ name, mathlib.Core.List.Memᴰ.cast whole k)

    stored_back : Valued → Marked
    unfolding constants_in constant_of
    stored_back (c, name, k) =
        let among = subst (Memᴰ (c.name, 1, word z)) (sym same) (mathlib.Core.List.Memᴰ.map constant_of k) in
        let (x, j, e) = mathlib.Core.List.Memᴰ.of_map _ (keep (is_kind 41) rs) among in
        let (m, is_41) = mem_keep (is_kind 41) rs j in
        let i64 = of_all (λ x. IsI64 x.value) xs i64s _ k in (
          x,
          m,
          rw is_41 (eq-eqb x.sub 1 (ap (λ t. t.1) e)),
          ap (λ t. t.0) e ∙ name,
          ap signed (ap (λ t. t.2) e) ∙ integer_and_back z i64.0 i64.1,
        )

pub stored_are_told : StoredAreTold
unfolding settled read
stored_are_told book results diagnostics bytes is n z = (
  λ s. stored_there _ _ (same s.reply) i64s n z (s.entry, s.counted, s.marked, s.name, s.value),
  λ h.
      let (x, counted, marked, name, value) = stored_back _ _ (same is) i64s n z h in
      record { reply = is; entry = x; counted = counted; marked = marked; name = name; value = value },
)
  where
    same :
        (a : IsAccepted (lower_book book results diagnostics)) →
        constants_in (first_records a.results (lower_book book results diagnostics).results) ≡ map constant_of (settled (read book))
    same a = reached_are_told book results diagnostics _ _ _ bytes a.reply

    i64s : All (λ x. IsI64 x.value) (settled (read book))
    i64s = settled_are_i64 book bytes
