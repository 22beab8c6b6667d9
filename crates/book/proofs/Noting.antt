-- The numbers of the records that are noted, one record after the other.
-- Assumes nothing.
use Rattle.std.specs.Prelude.{ℕ, suc, ◌+◌, ◌<◌, Bool, true, false, cond, not, ◌&&◌, ◌||◌, List, [], ◌∷◌, ◌++◌, ◌≡◌, leb, ltb, length}
use Rattle.std.proofs.Common.{refl, sym, ap, ◌∙◌, subst, arith}
use Rattle.record.specs.declared.Record.{Record}
use Rattle.record.specs.Kind.{kind_from}
use Rattle.book.specs.Lists.{any, keep, up_to}
use Rattle.book.specs.Shape.{Row, table, well_shaped}
use Rattle.book.specs.Faults.{is_declaration}
use Rattle.book.specs.Outline.{Book, ◌!◌}
use Rattle.book.specs.Accepted.{IsRead}
use Rattle.book.specs.Noted.{is_outside, declares, is_item}
use Rattle.book.proofs.Cells.{agree, by_table}
use Rattle.book.proofs.Trees.{shaped_row}
use Rattle.book.proofs.Places.{keep_append}
use Rattle.book.proofs.Marks.{up_to_last}

-- two tests that agree on the kinds of the table agree on the kind of a record that is well shaped
by_kind :
    (p q : ℕ → Bool) → any (λ (w : Row). not (agree (p w.kind) (q w.kind))) table ≡ false →
    (r : Record) → well_shaped r ≡ true → p r.kind ≡ q r.kind
by_kind p q each r shaped =
    let (w, is) = shaped_row r shaped in
    let same : p w.kind ≡ q w.kind = by_table (λ w. p w.kind) (λ w. q w.kind) each w is.in_table in
    subst (λ k. p k ≡ q k) (sym is.same_kind) same

module _ (book : Book) (read : IsRead book) (n : ℕ) (less : n < length book.records) where
  pub declares_is : declares (kind_from (book ! n).kind) ≡ is_declaration (book ! n)
  unfolding table any kind_from
  declares_is = by_kind (λ k. declares (kind_from k)) (λ k. leb 20 k && leb k 25) refl (book ! n) (read.well_formed n less).shaped

  pub outside_is : declares (kind_from (book ! n).kind) || is_item (kind_from (book ! n).kind) ≡ is_outside (book ! n)
  unfolding table any kind_from
  outside_is = by_kind (λ k. declares (kind_from k) || is_item (kind_from k)) (λ k. ltb 16 k) refl (book ! n) (read.well_formed n less).shaped

-- one number more, if it is noted
pub noted_more :
    (test : ℕ → Bool) (n : ℕ) {list : List ℕ} {b : Bool} → b ≡ test n → list ≡ keep test (up_to n) →
    list ++ cond b (n ∷ []) [] ≡ keep test (up_to (n + 1))
unfolding keep
noted_more test n {list} {b} is so =
    (λ i. so i ++ cond (is i) (n ∷ []) [])
    ∙ sym (keep_append test (up_to n) (n ∷ []))
    ∙ ap (keep test) (sym (up_to_last n) ∙ (let e : suc n ≡ n + 1 = omega arith in ap up_to e))
