-- Wrong lowerings fail the claim that constants keep their values, by K1 and K6; and books that meet what it asks, by
-- computing what is read from their bytes.
-- Assumes nothing.
use Prim.Native.Nat.{ℕ}
use mathlib.Core.Bool.{Bool, true, false, ◌&&◌, true≢false, false≢true}
use mathlib.Core.List.{List, [], ◌∷◌, Memᴰ}
use mathlib.Core.Logic.{inl, inr}
use mathlib.Core.Option.{none}
use mathlib.Core.Path.{◌≡◌, refl, sym, ◌∙◌}
use native.Mathlib.Omega.{arith}
use borrow.Author.Tests.{leb-false, eq-eqb}
use lib.Dec.{leb, eqb}
use lib.IntN.{ℤ, pos}
use lib.ListN.{replicate}
use Rattle.record.specs.declared.Record.{Record}
use Rattle.record.specs.Bytes.{AreBytes}
use Rattle.book.specs.Lists.{any}
use Rattle.book.proofs.Lists.{all_at}
use Rattle.book.proofs.Members.{mem_any, of_all}
use Rattle.book.proofs.Trees.{none_passes}
use Rattle.book.specs.Refusal.{first_refusal}
use Rattle.book.specs.Outline.{read}
use Rattle.constants.specs.Expr.{int, mul, literal, reference, operation}
use Rattle.constants.specs.Order.{Constant, each, declares, admits, Reached, reached}
use Rattle.constants.specs.Stored.{Stored, stored}
use Rattle.constants.specs.Leads.{LiesOnRing, LeadsIntoRing, names, further}
use Rattle.constants.specs.OfBook.{constants}
use Rattle.constants.specs.SameTrees.{SameExpression}
use Rattle.constants.proofs.Distinct.{accepted_is_distinct}
use Rattle.constants.proofs.SameTrees.{same_expressions_are_equal}
use Rattle.constants.proofs.Stored.{stores_the_stored}
use Rattle.types.specs.Step.{is_stored}
use Rattle.lower.specs.LowerBook.{Outcome}
use Rattle.lower.specs.Laws.{IsAccepted, first_records}
use Rattle.lower.proofs.Demand3.{demand_3}
use Rattle.constants.specs.Demand3.{StoredFor, DeclaresAllOf, AddsNoneTo}
use Rattle.lower.specs.Demand3.{AnyLowering, Stands, OfEach, OfBoth, Demand3}
use Rattle.runs.specs.Books.{rec}
use Rattle.runs.specs.Compute.{computed}
use Rattle.runs.specs.Known.{N1, N2, N3}
use Rattle.runs.specs.Slips.{N4}
use Rattle.runs.specs.Demand3.{lower_with, stores_nothing, settles_first, stores_squares}
use Rattle.runs.specs.Demand3.{StoringNothingFails, SettlingTheFirstFails, StoringSquaresFails, FailsKept, WrongOnesFailKept}
use Rattle.runs.specs.Demand3.{first, square, changed, reordered, ring, lowered, elsewhere, Asked, Declares}
use Rattle.runs.specs.Demand3.{KeptInstance, SameInstance, RingInstance, Instances}
use Rattle.runs.proofs.Known.{◌&◌}

-- numbers of which none is past 255 are bytes
bytes_are : (s : List ℕ) → any (λ b. leb 256 b) s ≡ false → AreBytes s
bytes_are s e =
    record {
      byte = λ i.
          leb-false 256 _ (all_at (λ b. leb 256 b ≡ false) s i 0 (none_passes _ (λ b h. h) s e) refl);
    }

first_bytes : AreBytes first
unfolding computed
first_bytes = bytes_are first refl

changed_bytes : AreBytes changed
unfolding computed
changed_bytes = bytes_are changed refl

reordered_bytes : AreBytes reordered
unfolding computed
reordered_bytes = bytes_are reordered refl

square_bytes : AreBytes square
unfolding computed
square_bytes = bytes_are square refl

ring_bytes : AreBytes ring
unfolding computed
ring_bytes = bytes_are ring refl

-- K1's constants
abbrev one : Constant
one = record { place = 2; name = N1; expr = literal int 6 }

abbrev two : Constant
two = record { place = 7; name = N2; expr = operation mul (reference N1) (literal int 7) }

abbrev first_list : List Constant
first_list = one ∷ two ∷ []

-- N2 is settled as 42, so stored as that
first_stored : StoredFor first N2 (pos 42)
unfolding computed
first_stored =
    (stores_the_stored each (constants (read first)) (accepted_is_distinct first refl) N2 (pos 42)).0
    (two, refl, Memᴰ.tail (Memᴰ.head refl))

-- a record is marked stored and named N2
abbrev stores_two : Record → Bool
stores_two x = is_stored x && eqb x.a N2

-- where no record counted is so, N2 does not stand
not_standing :
    (x : Outcome) (answer : IsAccepted x) →
    any stores_two (first_records answer.results x.results) ≡ false →
    (z : ℤ) →
    Stands x N2 z →
    ⊥
not_standing x answer none_stores z s =
    let counts : s.reply.results ≡ answer.results = cc (s.reply.reply, answer.reply) in
    let so : stores_two s.entry ≡ true = rw s.marked (eq-eqb s.entry.a N2 s.name) in
    true≢false (sym (mem_any stores_two (rw counts at s.counted) so) ∙ none_stores)

-- of a lowering that accepts K1 or K1 changed without N2 the claim says that N2 stands, as K1 has it stored
fails :
    (lower : AnyLowering) (answer : IsAccepted (lower first (replicate 480 0) (replicate 48 7))) →
    any stores_two (first_records answer.results (lower first (replicate 480 0) (replicate 48 7)).results) ≡ false →
    Demand3 lower →
    ⊥
fails lower answer none_stores demand =
    not_standing _ answer none_stores (pos 42) (((demand.of_each first _ _ first_bytes answer).exactly N2 (pos 42)).1 first_stored)

fails_kept :
    (lower : AnyLowering) → IsAccepted (lower first (replicate 480 0) (replicate 48 7)) →
    (answer : IsAccepted (lower changed (replicate 700 255) (replicate 90 9))) →
    any stores_two (first_records answer.results (lower changed (replicate 700 255) (replicate 90 9)).results) ≡ false →
    FailsKept lower
fails_kept lower one other none_stores =
    record {
      one_accepted = one;
      other_accepted = other;
      fails = λ both. not_standing _ other none_stores (pos 42) (both.kept N2 (pos 42) first_stored).2;
    }

nothing_accepted : IsAccepted (stores_nothing first (replicate 480 0) (replicate 48 7))
unfolding computed lower_with
nothing_accepted = record { results = 4; diagnostics = 2; constants = 0; reply = refl }

one_accepted : IsAccepted (settles_first first (replicate 480 0) (replicate 48 7))
unfolding computed lower_with
one_accepted = record { results = 2; diagnostics = 0; constants = 1; reply = refl }

pub storing_nothing_fails : StoringNothingFails
unfolding computed lower_with first_records nothing_accepted
storing_nothing_fails = fails stores_nothing nothing_accepted refl

pub settling_the_first_fails : SettlingTheFirstFails
unfolding computed lower_with first_records one_accepted
settling_the_first_fails = fails settles_first one_accepted refl

nothing_kept : FailsKept stores_nothing
unfolding computed lower_with first_records
nothing_kept = fails_kept stores_nothing nothing_accepted (record { results = 10; diagnostics = 3; constants = 0; reply = refl }) refl

one_kept : FailsKept settles_first
unfolding computed lower_with first_records
one_kept = fails_kept settles_first one_accepted (record { results = 6; diagnostics = 0; constants = 1; reply = refl }) refl

pub wrong_ones_fail_kept : WrongOnesFailKept
wrong_ones_fail_kept = (nothing_kept, one_kept)

-- K6's constants: N2 is not stored, because its expression names N1 twice
abbrev base : Constant
base = record { place = 2; name = N1; expr = literal int 3 }

abbrev squared : Constant
squared = record { place = 7; name = N2; expr = operation mul (reference N1) (reference N1) }

abbrev square_list : List Constant
square_list = base ∷ squared ∷ []

square-constants : constants (read square) ≡ square_list
unfolding computed
square-constants = refl

not_reached : (c : Constant) → c.name ≡ N2 → Reached each square_list c → ⊥
unfolding computed
not_reached c name (reached member admitted rest) =
    of_all
    (λ d. d.name ≡ N2 → admits each square_list d ≡ true → ⊥)
    square_list
    ((λ e a. omega arith) & (λ e a. false≢true a) & tt)
    c
    member
    name
    admitted

not_stored : (z : ℤ) → Stored each square_list N2 z → ⊥
not_stored z (stored c values name is_reached holds e) = not_reached c name is_reached

-- but it would stand
square-stands : Stands (stores_squares square (replicate 480 0) (replicate 24 7)) N2 (pos 9)
unfolding computed lower_with first_records
square-stands =
    record {
      reply = record { results = 4; diagnostics = 0; constants = 2; reply = refl };
      entry = rec 41 1 N2 2 0 9 170 8;
      counted = Memᴰ.tail (Memᴰ.tail (Memᴰ.tail (Memᴰ.head refl)));
      marked = refl;
      name = refl;
      value = refl;
    }

pub storing_squares_fails : StoringSquaresFails
storing_squares_fails demand =
    let said = ((demand.of_each square (replicate 480 0) (replicate 24 7) square_bytes square-stands.reply).exactly N2 (pos 9)).0 square-stands in
    not_stored (pos 9) (rw square-constants at said)

-- The instances. Both lowerings of each are accepted
first_accepted : IsAccepted (lowered first)
unfolding computed
first_accepted = record { results = 4; diagnostics = 0; constants = 2; reply = refl }

changed_accepted : IsAccepted (elsewhere changed)
unfolding computed
changed_accepted = record { results = 10; diagnostics = 0; constants = 3; reply = refl }

reordered_accepted : IsAccepted (elsewhere reordered)
unfolding computed
reordered_accepted = record { results = 4; diagnostics = 0; constants = 2; reply = refl }

-- a book that declares N1 and N2 with K1's expressions
declares_first :
    (other : List ℕ) → first_refusal other ≡ none → (a b : Constant) →
    Memᴰ a (constants (read other)) → Memᴰ b (constants (read other)) →
    (a.name ≡ N1) × (a.expr ≡ one.expr) → (b.name ≡ N2) × (b.expr ≡ two.expr) →
    DeclaresAllOf other first
unfolding computed
declares_first other unrefused a b at_a at_b is_one is_two c m =
    of_all
    (λ c. (d : Constant) × Memᴰ d (constants (read other)) × (d.name ≡ c.name) × SameExpression (read first) c (read other) d)
    first_list
    ((a, at_a, is_one.0, same one a (Memᴰ.head refl) at_a is_one.1)
    & (b, at_b, is_two.0, same two b (Memᴰ.tail (Memᴰ.head refl)) at_b is_two.1)
    & tt)
    c
    m
  where
    same :
        (c d : Constant) → Memᴰ c first_list → Memᴰ d (constants (read other)) → d.expr ≡ c.expr →
        SameExpression (read first) c (read other) d
    same c d at_c at_d e = (same_expressions_are_equal first other refl unrefused c d at_c at_d).1 (sym e)

-- K1 changed
abbrev changed_one : Constant
changed_one = record { place = 10; name = N1; expr = literal int 6 }

abbrev changed_two : Constant
changed_two = record { place = 4; name = N2; expr = operation mul (reference N1) (literal int 7) }

changed_declares : DeclaresAllOf changed first
unfolding computed
changed_declares =
    declares_first changed refl changed_one changed_two
    (Memᴰ.tail (Memᴰ.head refl)) (Memᴰ.head refl) (refl, refl) (refl, refl)

-- K1 reordered
abbrev reordered_one : Constant
reordered_one = record { place = 7; name = N1; expr = literal int 6 }

abbrev reordered_two : Constant
reordered_two = record { place = 4; name = N2; expr = operation mul (reference N1) (literal int 7) }

reordered-constants : constants (read reordered) ≡ reordered_two ∷ reordered_one ∷ []
unfolding computed
reordered-constants = refl

reordered_declares : DeclaresAllOf reordered first
unfolding computed
reordered_declares =
    declares_first reordered refl reordered_one reordered_two
    (Memᴰ.tail (Memᴰ.head refl)) (Memᴰ.head refl) (refl, refl) (refl, refl)

reordered_adds_none : AddsNoneTo reordered first
unfolding computed
reordered_adds_none d m =
    of_all
    (λ d. declares (constants (read first)) d.name ≡ true)
    (reordered_two ∷ reordered_one ∷ [])
    (refl & refl & tt)
    d
    (rw reordered-constants at m)

-- the ring
abbrev ring_one : Constant
ring_one = record { place = 2; name = N1; expr = reference N2 }

abbrev ring_two : Constant
ring_two = record { place = 5; name = N2; expr = reference N1 }

abbrev ring_three : Constant
ring_three = record { place = 8; name = N3; expr = reference N1 }

abbrev ring_four : Constant
ring_four = record { place = 11; name = N4; expr = literal int 5 }

abbrev ring_list : List Constant
ring_list = ring_one ∷ ring_two ∷ ring_three ∷ ring_four ∷ []

ring-constants : constants (read ring) ≡ ring_list
unfolding computed
ring-constants = refl

-- N1 names N2, which names N1
lies_on_ring : LiesOnRing ring_list ring_one
unfolding computed
lies_on_ring = further (Memᴰ.tail (Memᴰ.head refl)) refl (names (Memᴰ.head refl) refl)

-- N3 names N1
leads_into_ring : LeadsIntoRing ring_list ring_three
unfolding computed
leads_into_ring = (ring_one, names (Memᴰ.head refl) refl, lies_on_ring)

on_ring : Declares ring N1 (LiesOnRing (constants (read ring)))
on_ring =
    record {
      constant = ring_one;
      member = rw ring-constants (Memᴰ.head refl);
      name = refl;
      so = rw ring-constants lies_on_ring;
    }

into_ring : Declares ring N3 (LeadsIntoRing (constants (read ring)))
into_ring =
    record {
      constant = ring_three;
      member = rw ring-constants (Memᴰ.tail (Memᴰ.tail (Memᴰ.head refl)));
      name = refl;
      so = rw ring-constants leads_into_ring;
    }

-- N4 is beside it, and stored
beside_ring : Stands (lowered ring) N4 (pos 5)
unfolding computed first_records
beside_ring =
    record {
      reply = record { results = 2; diagnostics = 0; constants = 1; reply = refl };
      entry = rec 41 1 N4 0 0 5 210 12;
      counted = Memᴰ.tail (Memᴰ.head refl);
      marked = refl;
      name = refl;
      value = refl;
    }

-- what the claim asks, of K1 and each of the other two
first_and_changed : Asked first changed
first_and_changed =
    record {
      one_bytes = first_bytes;
      other_bytes = changed_bytes;
      one_accepted = first_accepted;
      other_accepted = changed_accepted;
      declares_all = changed_declares;
    }

first_and_reordered : Asked first reordered
first_and_reordered =
    record {
      one_bytes = first_bytes;
      other_bytes = reordered_bytes;
      one_accepted = first_accepted;
      other_accepted = reordered_accepted;
      declares_all = reordered_declares;
    }

-- and what it says of them
of_two : {one other : List ℕ} → Asked one other → OfBoth one other (lowered one) (elsewhere other)
of_two {one} {other} a =
    demand_3.of_both
    one
    _
    _
    other
    _
    _
    a.one_bytes
    a.other_bytes
    a.one_accepted
    a.other_accepted
    a.declares_all

of_ring : OfEach ring (lowered ring)
of_ring = demand_3.of_each ring _ _ ring_bytes beside_ring.reply

kept_instance : KeptInstance
kept_instance =
    let said = (of_two first_and_changed).kept N2 (pos 42) first_stored in
    record {
      asked = first_and_changed;
      stored = first_stored;
      kept = said.0;
      stands = said.1;
      stands_elsewhere = said.2;
    }

same_instance : SameInstance
same_instance =
    record {
      asked = first_and_reordered;
      none_added = reordered_adds_none;
      same = (of_two first_and_reordered).same reordered_adds_none;
    }

ring_instance : RingInstance
unfolding on_ring into_ring
ring_instance =
    record {
      bytes = ring_bytes;
      is_accepted = beside_ring.reply;
      on_ring = on_ring;
      into_ring = into_ring;
      beside = beside_ring;
      not_on_ring = of_ring.no_ring ring_one on_ring.member (inl on_ring.so);
      not_into_ring = of_ring.no_ring ring_three into_ring.member (inr into_ring.so);
    }

pub instances : Instances
instances = record { kept = kept_instance; same = same_instance; rings = ring_instance }
