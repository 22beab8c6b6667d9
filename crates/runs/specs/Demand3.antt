-- That constants keep their values (crates/lower/specs/Demand3.antt): wrong lowerings fail this claim, and real books
-- meet what it asks. The proofs are in proofs/Demand3.antt.
-- Assumes nothing.
use Rattle.std.specs.Prelude.{ℕ, true, false, ◌↔◌, ◌≡◌, ℤ, pos, take, replicate}
use mathlib.Core.List.{List, [], ◌∷◌, ◌++◌, map, Memᴰ}
use Rattle.std.proofs.Math.Option.{some, none}
use Rattle.record.specs.Bytes.{AreBytes}
use Rattle.book.specs.Refusal.{first_refusal}
use Rattle.book.specs.Outline.{Book, read}
use Rattle.constants.specs.Eval.{empty}
use Rattle.constants.specs.Order.{Constant, Settled, once, outcome}
use Rattle.constants.specs.Leads.{LiesOnRing, LeadsIntoRing}
use Rattle.constants.specs.OfBook.{constants, settled}
use Rattle.lower.specs.LowerBook.{Outcome, lower_read, lower_book}
use Rattle.lower.specs.Laws.{IsAccepted}
use Rattle.constants.specs.Demand3.{StoredFor, DeclaresAllOf, AddsNoneTo}
use Rattle.lower.specs.Demand3.{AnyLowering, Stands, OfBoth, Demand3}
use Rattle.runs.specs.Books.{book_of, rec}
use Rattle.runs.specs.Known.{N1, N2, N3, k1, k6, k7}
use Rattle.runs.specs.Slips.{N4, N5}

-- Wrong lowerings. As `lower_book`, but with other constants than those that are settled
unfoldable pub lower_with : (Book → List Settled) → AnyLowering
lower_with constants_of book results diagnostics =
    elim (first_refusal book) [
      | some x ↦ lower_book book results diagnostics
      | none ↦ lower_read (constants_of (read book)) (read book) results diagnostics
    ]

-- with those that are settled, changed
abbrev pub lower_changed : (List Settled → List Settled) → AnyLowering
lower_changed change = lower_with (λ book. change (settled book))

-- Nothing is stored: each reached constant without a value
abbrev pub stores_nothing : AnyLowering
stores_nothing = lower_changed (map (λ x. record { constant = x.constant; value = none }))

-- The first constant is settled, and the others are marked unreached
abbrev pub settles_first : AnyLowering
settles_first = lower_changed (take 1)

-- K6 is evaluated to 9: a constant is reached though its expression names a declared one twice
abbrev pub stores_squares : AnyLowering
stores_squares = lower_with (λ book. outcome once empty (constants book))

-- The books. K1: N1 = 6, N2 = N1 × 7
abbrev pub first : List ℕ
first = book_of false k1.book

-- K6: N1 = 3, N2 = N1 × N1
abbrev pub square : List ℕ
square = book_of false k6.book

-- K1 changed: N2 stands before N1, N3 = N2 + N1 is added, and a message with a field; N1 has another type, spans
-- differ, and wildcard imports exist
abbrev pub changed : List ℕ
changed =
    book_of
    true
    (rec 11 0 N1 0 0 0 200 1  -- 0: reference to N1
    ∷ rec 10 0 0 0 0 7 210 2  -- 1: Int 7
    ∷ rec 12 2 0 1 0 0 220 3  -- 2: Mul: record 0, record 1
    ∷ rec 1 1 0 0 0 0 230 4  -- 3: u8
    ∷ rec 24 0 N2 3 2 0 240 5  -- 4: constant N2: type 3, expression 2
    ∷ rec 20 0 N4 0 0 0 250 6  -- 5: message N4
    ∷ rec 1 1 0 0 0 0 260 7  -- 6: u8
    ∷ rec 31 0 N5 6 65535 1 270 8  -- 7: field N5: type 6, no constraint, ordinal 1
    ∷ rec 10 0 0 0 0 6 280 9  -- 8: Int 6
    ∷ rec 1 2 0 0 0 0 290 10  -- 9: u16
    ∷ rec 24 0 N1 9 8 0 300 11  -- 10: constant N1: type 9, expression 8
    ∷ rec 11 0 N2 0 0 0 310 12  -- 11: reference to N2
    ∷ rec 11 0 N1 0 0 0 320 13  -- 12: reference to N1
    ∷ rec 12 0 11 12 0 0 330 14  -- 13: Add: record 11, record 12
    ∷ rec 1 1 0 0 0 0 340 15  -- 14: u8
    ∷ rec 24 0 N3 14 13 0 350 16  -- 15: constant N3: type 14, expression 13
    ∷ [])

-- K1 reordered: N2 stands before N1, and none is added
abbrev pub reordered : List ℕ
reordered =
    book_of
    false
    (rec 11 0 N1 0 0 0 200 1  -- 0: reference to N1
    ∷ rec 10 0 0 0 0 7 210 2  -- 1: Int 7
    ∷ rec 12 2 0 1 0 0 220 3  -- 2: Mul: record 0, record 1
    ∷ rec 1 1 0 0 0 0 230 4  -- 3: u8
    ∷ rec 24 0 N2 3 2 0 240 5  -- 4: constant N2: type 3, expression 2
    ∷ rec 10 0 0 0 0 6 250 6  -- 5: Int 6
    ∷ rec 1 1 0 0 0 0 260 7  -- 6: u8
    ∷ rec 24 0 N1 6 5 0 270 8  -- 7: constant N1: type 6, expression 5
    ∷ [])

-- K7 with two constants more: N1 = N2, N2 = N1, N3 = N1, N4 = 5
abbrev pub ring : List ℕ
ring =
    book_of
    false
    (k7.book
    ++ (rec 11 0 N1 0 0 0 160 7  -- 6: reference to N1
    ∷ rec 1 1 0 0 0 0 170 8  -- 7: u8
    ∷ rec 24 0 N3 7 6 0 180 9  -- 8: constant N3: type 7, expression 6
    ∷ rec 10 0 0 0 0 5 190 10  -- 9: Int 5
    ∷ rec 1 1 0 0 0 0 200 11  -- 10: u8
    ∷ rec 24 0 N4 10 9 0 210 12  -- 11: constant N4: type 10, expression 9
    ∷ []))

-- Their lowerings: the second of two is lent other slices than the first, longer ones that hold other bytes
abbrev pub lowered : List ℕ → Outcome
lowered book = lower_book book (replicate 480 0) (replicate 24 7)

abbrev pub elsewhere : List ℕ → Outcome
elsewhere book = lower_book book (replicate 700 255) (replicate 30 9)

-- The wrong lowerings fail it
abbrev pub StoringNothingFails : Type 0
StoringNothingFails = Demand3 stores_nothing → ⊥

abbrev pub SettlingTheFirstFails : Type 0
SettlingTheFirstFails = Demand3 settles_first → ⊥

-- storing too much fails it as well
abbrev pub StoringSquaresFails : Type 0
StoringSquaresFails = Demand3 stores_squares → ⊥

-- and the first two accept K1 and K1 changed and fail what it says of these: what is stored for the first is stored for
-- the second (N3 is added, so nothing else is said)
pub record FailsKept (lower : AnyLowering) : Type 0 where
  pub one_accepted : IsAccepted (lower first (replicate 480 0) (replicate 48 7))
  pub other_accepted : IsAccepted (lower changed (replicate 700 255) (replicate 90 9))
  pub fails :
      OfBoth
      first
      changed
      (lower first (replicate 480 0) (replicate 48 7))
      (lower changed (replicate 700 255) (replicate 90 9)) →
      ⊥

abbrev pub WrongOnesFailKept : Type 0
WrongOnesFailKept = FailsKept stores_nothing × FailsKept settles_first

-- Books that meet what it asks. What it asks of two books: both are accepted, and the second declares every constant of
-- the first with the same expression
pub record Asked (one other : List ℕ) : Type 0 where
  pub one_bytes : AreBytes one
  pub other_bytes : AreBytes other
  pub one_accepted : IsAccepted (lowered one)
  pub other_accepted : IsAccepted (elsewhere other)
  pub declares_all : DeclaresAllOf other one

-- a book declares the name n by a constant that has a property
pub record Declares (book : List ℕ) (n : ℕ) (P : Constant → Type 0) : Type 0 where
  pub constant : Constant
  pub member : Memᴰ constant (constants (read book))
  pub name : constant.name ≡ n
  pub so : P constant

-- what is stored for the first is stored for the second, with the same value: K1 and K1 changed
pub record KeptInstance : Type 0 where
  pub asked : Asked first changed
  pub stored : StoredFor first N2 (pos 42)
  -- so the claim says
  pub kept : StoredFor changed N2 (pos 42)
  pub stands : Stands (lowered first) N2 (pos 42)
  pub stands_elsewhere : Stands (elsewhere changed) N2 (pos 42)

-- where none is added, both store exactly the same names with the same values: K1 and K1 reordered
pub record SameInstance : Type 0 where
  pub asked : Asked first reordered
  pub none_added : AddsNoneTo reordered first
  -- so the claim says
  pub same : (n : ℕ) (z : ℤ) → Stands (lowered first) n z ↔ Stands (elsewhere reordered) n z

-- no constant that lies on a ring of references, or leads into one, is stored
pub record RingInstance : Type 0 where
  pub bytes : AreBytes ring
  pub is_accepted : IsAccepted (lowered ring)
  pub on_ring : Declares ring N1 (LiesOnRing (constants (read ring)))
  pub into_ring : Declares ring N3 (LeadsIntoRing (constants (read ring)))
  pub beside : Stands (lowered ring) N4 (pos 5)
  -- so the claim says
  pub not_on_ring : (z : ℤ) → Stands (lowered ring) N1 z → ⊥
  pub not_into_ring : (z : ℤ) → Stands (lowered ring) N3 z → ⊥

-- no part of the claim is empty
pub record Instances : Type 0 where
  pub kept : KeptInstance
  pub same : SameInstance
  pub rings : RingInstance
