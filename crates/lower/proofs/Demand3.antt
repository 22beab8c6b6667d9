-- Constants keep their values in `lower_book`: from the records that stand in the slices to the theory of constants,
-- and back.
-- Assumes nothing.
use Prim.Native.Nat.{ℕ}
use mathlib.Core.List.{List}
use mathlib.Core.Logic.Iff
use mathlib.Core.Logic.{◌↔◌}
use mathlib.Core.Option.{some, none}
use mathlib.Core.Path.{◌≡◌, refl, subst}
use lib.IntN.{ℤ}
use Rattle.record.specs.Bytes.{AreBytes}
use Rattle.book.specs.Outline.{read}
use Rattle.book.specs.Refusal.{first_refusal}
use Rattle.constants.specs.Eval.{empty}
use Rattle.constants.specs.Order.{Constant, each, Reached}
use Rattle.constants.specs.OfBook.{constants}
use Rattle.constants.specs.Theory.{Distinct, Stores}
use Rattle.constants.proofs.Distinct.{accepted_is_distinct}
use Rattle.constants.proofs.Order.{reached_declared}
use Rattle.constants.proofs.Final.{settles_if}
use Rattle.constants.proofs.Stored.{stores_the_stored}
use Rattle.constants.proofs.Changes.{rings_are_unreached, extension_keeps, reordering}
use Rattle.lower.specs.LowerBook.{lower_book}
use Rattle.lower.specs.Laws.{IsAccepted}
use Rattle.constants.specs.Demand3.{StoredFor, DeclaresAllOf}
use Rattle.constants.proofs.Demand3.{has_all, has_no_more}
use Rattle.lower.specs.Demand3.{Stands, OfEach, OfBoth, Demand3}
use Rattle.lower.proofs.Told.{stored_are_told, accepted_unrefused}

-- one accepted book
module _ (book results diagnostics : List ℕ) (bytes : AreBytes book) (is : IsAccepted (lower_book book results diagnostics)) where
  unrefused : first_refusal book ≡ none
  unrefused = accepted_unrefused book results diagnostics is

  distinct : Distinct (constants (read book))
  distinct = accepted_is_distinct book unrefused

  -- what is stored, by `Stored`
  stored_if : (n : ℕ) (z : ℤ) → Stores each empty (constants (read book)) n z ↔ StoredFor book n z
  stored_if = stores_the_stored each (constants (read book)) distinct

  -- what stands, by the theory
  stands_if : (n : ℕ) (z : ℤ) → Stands (lower_book book results diagnostics) n z ↔ Stores each empty (constants (read book)) n z
  stands_if = stored_are_told book results diagnostics bytes is

  of_each : OfEach book (lower_book book results diagnostics)
  of_each =
      record {
        exactly = λ n z. Iff.trans (stands_if n z) (stored_if n z);
        no_ring =
            λ c m ring z s.
            let (d, name, settled) = (stands_if c.name z).0 s in
            let r = ((settles_if each empty (constants (read book)) distinct d (some z)).0 settled).0 in
            rings_are_unreached each (constants (read book)) c
            (subst (Reached each (constants (read book))) (distinct d c (reached_declared r) m name) r)
            ring;
      }

-- two accepted books, of which the second has the first one's constants
module _
    (first results diagnostics : List ℕ) (second results' diagnostics' : List ℕ) (bytes : AreBytes first) (bytes' : AreBytes second)
    (is : IsAccepted (lower_book first results diagnostics)) (is' : IsAccepted (lower_book second results' diagnostics'))
    (all : DeclaresAllOf second first)
  where
    of_both : OfBoth first second (lower_book first results diagnostics) (lower_book second results' diagnostics')
    of_both =
        record {
          kept =
              λ n z s.
              let x = (stored_if first results diagnostics bytes is n z).1 s in
              let y = extension_keeps each empty cs ds one two (has_all first second un un' all) (λ c m. refl) n z x in (
                (stored_if second results' diagnostics' bytes' is' n z).0 y,
                (stands_if first results diagnostics bytes is n z).1 x,
                (stands_if second results' diagnostics' bytes' is' n z).1 y,
              );
          same =
              λ adds n z.
              Iff.trans (stands_if first results diagnostics bytes is n z)
              (Iff.trans
              (reordering each empty cs ds one two (has_all first second un un' all) (has_no_more first second un un' all adds) n (some z))
              (Iff.symm (stands_if second results' diagnostics' bytes' is' n z)));
        }
      where
        cs : List Constant
        cs = constants (read first)

        ds : List Constant
        ds = constants (read second)

        un : first_refusal first ≡ none
        un = unrefused first results diagnostics bytes is

        un' : first_refusal second ≡ none
        un' = unrefused second results' diagnostics' bytes' is'

        one : Distinct (constants (read first))
        one = distinct first results diagnostics bytes is

        two : Distinct (constants (read second))
        two = distinct second results' diagnostics' bytes' is'

pub demand_3 : Demand3 lower_book
demand_3 = record { of_each = of_each; of_both = of_both }
