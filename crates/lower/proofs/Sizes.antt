-- Tables that have room for the names of a book have room for those of its constants.
-- Assumes nothing.
use Rattle.std.proofs.Common.{◌≡◌, ℕ, zero, suc, ◌<◌, ◌≤◌, Bool, true, false, not, ◌&&◌, List, [], ◌∷◌, length, refl}
use Rattle.std.proofs.Common.{sym, ap, ◌∙◌, arith, leb, true≢false}
use Rattle.std.specs.Prelude.{nat_le}
use Rattle.std.proofs.lemmas.Bool.Decides.{nat_tests}
use Rattle.record.specs.declared.Record.{Record}
use Rattle.book.specs.Lists.{any}
use Rattle.book.specs.Faults.{record_of}
use Rattle.book.specs.Outline.{Book, ◌!◌}
use Rattle.constants.specs.Given.{NamesIn}
use Rattle.types.specs.Below.{is_entered, names_below}
use Rattle.lower.specs.Inside.{fits}

-- where none of some records passes a test, each does not
none_passes : (test : Record → Bool) (rs : List Record) (m : ℕ) → any test rs ≡ false → m < length rs
    → test (record_of rs m) ≡ false
unfolding any record_of
none_passes test [] m e here = absurd (omega arith)
none_passes test (r ∷ rs) zero e here = go (test r) e
  where
    go : (b : Bool) → elim b [ true ↦ true | false ↦ any test rs ] ≡ false → b ≡ false
    go true e = e
    go false e = refl
none_passes test (r ∷ rs) (suc m) e here = none_passes test rs m (go (test r) e) (omega arith)
  where
    go : (b : Bool) → elim b [ true ↦ true | false ↦ any test rs ] ≡ false → any test rs ≡ false
    go true e = absurd (true≢false e)
    go false e = e

-- constants are declarations
pub constants_below : (book : Book) (n : ℕ) → names_below n book.records ≡ true → NamesIn book n
unfolding names_below
constants_below book n low m here kind =
    let none : any (λ r. is_entered r.kind && leb n r.a) book.records
    ≡ false = go (any (λ r. is_entered r.kind && leb n r.a) book.records) low in
    let under : is_entered (book ! m).kind && leb n (book ! m).a
    ≡ false = none_passes (λ r. is_entered r.kind && leb n r.a) book.records m none here in
    let entered : is_entered (book ! m).kind ≡ true = ap is_entered kind in
    let not_over : leb n (book ! m).a ≡ false = ap (λ (b : Bool). b && leb n (book ! m).a) (sym entered) ∙ under in
    grind (arith, nat_tests)
  where
    go : (b : Bool) → not b ≡ true → b ≡ false
    go true e = absurd (true≢false (sym e))
    go false e = refl

-- tables that a book fits in
pub fits_below : (book : Book) (names records : ℕ) → fits names records book ≡ true
    → names_below names book.records ≡ true
fits_below book names records e = go (nat_le (length book.records) records) (names_below names book.records) e
  where
    go : (a b : Bool) → a && b ≡ true → b ≡ true
    go true b e = e
    go false b e = absurd (true≢false (sym e))

-- and have room for as many records
pub fits_held : (book : Book) (names records : ℕ) → fits names records book ≡ true → length book.records ≤ records
fits_held book names records e =
    let held : nat_le (length book.records) records
    ≡ true = go (nat_le (length book.records) records) (names_below names book.records) e in
    grind (arith, nat_tests)
  where
    go : (a b : Bool) → a && b ≡ true → a ≡ true
    go true b e = refl
    go false b e = absurd (true≢false (sym e))
