-- A look at each record says whether the names that the tables by name have an entry for are below a number.
-- Assumes nothing.
use Rattle.std.proofs.Common.{◌≡◌, ℕ, zero, suc, ◌+◌, Bool, true, false, not, ◌&&◌, ◌||◌, List, [], ◌∷◌}
use Rattle.std.proofs.Common.{length, refl, sym, ap, ◌∙◌, arith, Ok, Err, eqb, leb}
use Rattle.std.proofs.Common.{add-one}
use Rattle.std.specs.List.{range_with_len, list_any}
use Rattle.std.proofs.lemmas.Bool.Decides.{nat_tests}
use Rattle.record.specs.declared.Record.{Record}
use Rattle.record.specs.declared.kind.Kind.{Kind}
use Rattle.record.specs.declared.kind.Kind.TheVariants as kinds
use Rattle.record.specs.declared.kind.UnknownKind.{UnknownKind}
use Rattle.record.specs.Kind.{code_of, kind_from}
use Rattle.record.proofs.Codes.{code_of_kind, by_kind, unknown_eqb}
use Rattle.book.specs.Lists.{any}
use Rattle.book.specs.Faults.{record_of}
use Rattle.book.specs.Outline.{Book, ◌!◌}
use Rattle.types.specs.Below.{is_entered, names_below}
use Rattle.types.specs.Over.{has_entry, is_over, any_over}

-- by the number of a kind
entered_same : (n : ℕ) → has_entry (kind_from n) ≡ is_entered n
entered_same n = by_kind (λ n. has_entry (kind_from n) ≡ is_entered n) (λ k. ap has_entry (code_of_kind k)
    ∙ known k) unknown n
  where
    known : (k : Kind) → has_entry (Ok k) ≡ is_entered (code_of k)
    known kinds.Named = refl
    known kind = refl

    unknown : (n : ℕ) (u : UnknownKind) → kind_from n ≡ Err u → has_entry (kind_from n) ≡ is_entered n
    unknown n u is =
        let z : eqb n 4 ≡ false = unknown_eqb n u is kinds.Named in
        let a : eqb n 20 ≡ false = unknown_eqb n u is kinds.Message in
        let b : eqb n 21 ≡ false = unknown_eqb n u is kinds.Union in
        let c : eqb n 22 ≡ false = unknown_eqb n u is kinds.Newtype in
        let d : eqb n 23 ≡ false = unknown_eqb n u is kinds.Alias in
        let e : eqb n 24 ≡ false = unknown_eqb n u is kinds.Constant in
        let f : eqb n 25 ≡ false = unknown_eqb n u is kinds.Ambiguous in
        let none : is_entered n ≡ false = grind (arith, nat_tests) in
        ap has_entry is ∙ sym none

-- a test of each of some records, by their numbers
module _ (test : Record → Bool) where
  next_ones : (f : ℕ → Bool) (a n : ℕ)
      → list_any f (range_with_len (a + 1) n) ≡ list_any (λ m. f (m + 1)) (range_with_len a n)
  next_ones f a zero = refl
  next_ones f a (suc n) = ap (λ (b : Bool). f (a + 1) || b) (next_ones f (a + 1) n)

  any_of : (rs : List Record) → list_any (λ m. test (record_of rs m)) (range_with_len 0 (length rs)) ≡ any test rs
  unfolding any record_of
  any_of [] = refl
  any_of (r ∷ rs) =
      ap (λ (b : Bool). test r || b)
      (next_ones (λ m. test (record_of (r ∷ rs) m)) 0 (length rs)
      ∙ (λ i. list_any (λ m. test (record_of (r ∷ rs) (add-one m i))) (range_with_len 0 (length rs)))
      ∙ any_of rs)
      ∙ either (test r) (any test rs)
    where
      either : (a b : Bool) → a || b ≡ elim a [ true ↦ true | false ↦ b ]
      either true b = refl
      either false b = refl

module _ (book : Book) (n : ℕ) where
  over_same : (m : ℕ) → is_over n book m ≡ is_entered (book ! m).kind && leb n (book ! m).a
  unfolding is_over
  over_same m = ap (λ (b : Bool). b && leb n (book ! m).a) (entered_same (book ! m).kind)

  -- the names are below n where none is over
  pub below_or_over : names_below n book.records ≡ not (any_over n book (length book.records))
  unfolding names_below
  below_or_over =
      sym (ap (λ (f : ℕ → Bool). not (list_any f (range_with_len 0 (length book.records)))) (λ i m. over_same m i)
      ∙ ap not (any_of (λ r. is_entered r.kind && leb n r.a) book.records))
