-- That constants keep their values, as one claim about any lowering: about the replies and the result slices of any two
-- of its runs, whatever slices each is lent. Which books are accepted, and what else is answered and written, is
-- claimed elsewhere (Promise.antt, Laws.antt). The proof for `lower_book` is in proofs/Demand3.antt.
-- Assumes nothing.
use Rattle.std.specs.Prelude.{ℕ, true, ◌↔◌, ◌⊎◌, ◌≡◌, ℤ}
use mathlib.Core.List.{List, Memᴰ}
use Rattle.record.specs.declared.Record.{Record}
use Rattle.record.specs.Bytes.{AreBytes}
use Rattle.arith.specs.Word.{signed}
use Rattle.book.specs.Outline.{read}
use Rattle.constants.specs.Order.{Constant}
use Rattle.constants.specs.OfBook.{constants}
use Rattle.constants.specs.Leads.{LiesOnRing, LeadsIntoRing}
use Rattle.constants.specs.Demand3.{StoredFor, DeclaresAllOf, AddsNoneTo}
use Rattle.types.specs.Step.{is_stored}
use Rattle.lower.specs.LowerBook.{Outcome}
use Rattle.lower.specs.Laws.{IsAccepted, first_records}

-- any lowering: from a book and two slices, for results and for diagnostics, to the reply and what is left in them
abbrev pub AnyLowering : Type 0
AnyLowering = List ℕ → List ℕ → List ℕ → Outcome

-- the name n and the value z stand as a and v of a 41 marked stored among the results counted: read from the reply and
-- the result slice, v as an i64
pub record Stands (x : Outcome) (n : ℕ) (z : ℤ) : Type 0 where
  pub reply : IsAccepted x
  pub entry : Record
  pub counted : Memᴰ entry (first_records reply.results x.results)
  pub marked : is_stored entry ≡ true
  pub name : entry.a ≡ n
  pub value : signed entry.v ≡ z

-- of one accepted book
pub record OfEach (book : List ℕ) (x : Outcome) : Type 0 where
  -- exactly the stored names and values stand as a and v of the 41s marked stored among the results counted
  pub exactly : (n : ℕ) (z : ℤ) → Stands x n z ↔ StoredFor book n z
  -- no constant that lies on a ring of references, or leads into one, is stored
  pub no_ring :
      (c : Constant) →
      Memᴰ c (constants (read book)) →
      LiesOnRing (constants (read book)) c ⊎ LeadsIntoRing (constants (read book)) c →
      (z : ℤ) →
      Stands x c.name z →
      ⊥

-- of two accepted books, of which the second declares every constant of the first with the same expression
pub record OfBoth (first second : List ℕ) (x y : Outcome) : Type 0 where
  -- what is stored for the first is stored for the second, with the same value
  pub kept :
      (n : ℕ) (z : ℤ) → StoredFor first n z → StoredFor second n z × Stands x n z × Stands y n z
  -- where the second adds none, both store exactly the same names with the same values
  pub same : AddsNoneTo second first → (n : ℕ) (z : ℤ) → Stands x n z ↔ Stands y n z

-- the first of every book that is accepted, the second of every two, whatever constants the second adds, in whatever
-- order its constants stand, and whatever else in it differs
pub record Demand3 (lower : AnyLowering) : Type 0 where
  pub of_each :
      (book results diagnostics : List ℕ) →
      AreBytes book →
      IsAccepted (lower book results diagnostics) →
      OfEach book (lower book results diagnostics)
  pub of_both :
      (first results diagnostics : List ℕ) →
      (second results' diagnostics' : List ℕ) →
      AreBytes first →
      AreBytes second →
      IsAccepted (lower first results diagnostics) →
      IsAccepted (lower second results' diagnostics') →
      DeclaresAllOf second first →
      OfBoth first second (lower first results diagnostics) (lower second results' diagnostics')
