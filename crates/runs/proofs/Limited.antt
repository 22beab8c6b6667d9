-- `lower_book` where the first refusal is by number and place, and the limits are known from the lengths of the slices.
-- Assumes nothing.
use Prim.Native.Nat.{ℕ, ◌/◌, min}
use mathlib.Core.List.{List}
use mathlib.Core.Option.{Option, some, none}
use mathlib.Core.Path.{◌≡◌, refl, ap, ◌∙◌}
use lib.ListN.{length}
use Rattle.book.specs.Outline.{read}
use Rattle.book.specs.Refusal.{Refusal, number, first_refusal}
use Rattle.constants.specs.OfBook.{settled}
use Rattle.types.specs.Lowering.{Limits, start, run, used_limits}
use Rattle.bodies.specs.Constant.{stored_count}
use Rattle.lower.specs.LowerBook.{Outcome, refused, lower_records, ended, lower_read, lower_book}

-- number and place of a refusal
abbrev pub placed : Option Refusal → Option (ℕ × ℕ)
placed none = none
placed (some x) = some (number x.cause, x.place)

-- a refusal by number and place, which leaves both slices, or what there is else
abbrev pub refused_or : Outcome → List ℕ → List ℕ → Option (ℕ × ℕ) → Outcome
refused_or l results diagnostics none = l
refused_or l results diagnostics (some q) =
    record { reply = refused q.0 q.1; results = results; diagnostics = diagnostics }

-- a lowering by its first refusal
pub by_refusal :
    (book results diagnostics : List ℕ) →
    lower_book book results diagnostics
    ≡ refused_or (lower_read (settled (read book)) (read book) results diagnostics) results diagnostics (placed (first_refusal book))
unfolding lower_book
by_refusal book results diagnostics = go (first_refusal book)
  where
    go :
        (o : Option Refusal) →
        ◌≡◌ {A = Outcome}
        (elim o [
          | some x ↦ record { reply = refused (number x.cause) x.place; results = results; diagnostics = diagnostics }
          | none ↦ lower_read (settled (read book)) (read book) results diagnostics
        ])
        (refused_or (lower_read (settled (read book)) (read book) results diagnostics) results diagnostics (placed o))
    go none = refl
    go (some x) = refl

-- the used limits of slices of r and d bytes
abbrev pub limits : ℕ → ℕ → Limits
limits r d = record { results = min 2048 (r / 24); diagnostics = min 256 (d / 24) }

-- `lower_book` with the limits known
unfoldable pub lower_in : Limits → List ℕ → List ℕ → List ℕ → Outcome
lower_in most book results diagnostics =
    refused_or
    (ended
    (stored_count (settled (read book)))
    most
    results
    diagnostics
    (run most (lower_records (settled (read book)) (read book)) start))
    results
    diagnostics
    (placed (first_refusal book))

module _ (results diagnostics : List ℕ) (m n : ℕ) (r : length results ≡ m) (d : length diagnostics ≡ n) where
  limits_are : used_limits results diagnostics ≡ limits m n
  limits_are = rw (r, d)

  pub lower_in_lem : (book : List ℕ) → lower_book book results diagnostics ≡ lower_in (limits m n) book results diagnostics
  unfolding lower_read lower_in
  lower_in_lem book =
      by_refusal book results diagnostics ∙ ap (λ (most : Limits). lower_in most book results diagnostics) limits_are
