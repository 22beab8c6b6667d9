-- The steps of the code, all of them, give what is settled of a book.
-- Assumes nothing.
use Rattle.std.specs.Prelude.{ℕ, ◌+◌, ◌≤◌, ◌≡◌, List, [], ◌++◌, map, length, get_or, ℤ, Option as Answer}
use Rattle.std.proofs.Common.{sym, ap, ◌∙◌, arith}
use Rattle.std.proofs.lemmas.List.{length-replicate, length-map}
use lib.ListN.{get_or-map}
use Rattle.book.specs.Faults.{is_kind, is_declaration}
use Rattle.book.specs.Outline.{Book, numbers_of}
use Rattle.book.specs.Accepted.{IsRead}
use Rattle.constants.specs.Order.{Constant, each, order_from, order, settle, outcome}
use Rattle.constants.specs.OfBook.{constants}
use Rattle.constants.specs.Tables.{constant_in}
use Rattle.constants.specs.declared.reached.Settled.{Settled}
use Rattle.constants.specs.Given.{table_in, told, stored_behind, NamesIn}
use Rattle.constants.specs.declared.works.Named.{Named}
use Rattle.constants.specs.Steps.{State, nobody, started, opened_all, admitted_all, run, Run, evaluated}
use Rattle.constants.proofs.Numbered.{as_many, number_of}
use Rattle.constants.proofs.Readings.{name_in, is_of_book, fewer, names_all}
use Rattle.constants.proofs.Standing.{IsOf, no_turn, turn_in}
use Rattle.constants.proofs.Opening.{Opened, waiting_at, all_opened}
use Rattle.constants.proofs.Admitted.{Admitting, admits_all, stands_at_first}
use Rattle.constants.proofs.Outcomes.{ends}
use Rattle.constants.proofs.Working.{all_alike}

module _
    (book : Book) (read : IsRead book) (names most : ℕ) (declarations : List ℕ) (are : declarations ≡ numbers_of is_declaration book)
    (below : NamesIn book names) (records_long : length book.records ≤ most)
  where
    abbrev cs : List Constant
    cs = constants book

    abbrev first : State
    first = opened_all most book declarations (started names most)

    is_of : IsOf book cs
    is_of = is_of_book book read.well_formed

    few : length cs ≤ length book.records
    few = fewer book read.well_formed

    opened_first : Opened book names most (numbers_of (is_kind 24) book) first
    opened_first =
        all_opened book names most declarations are (omega (arith, as_many book, few))
        (names_all book names below)

    none_yet : (i : ℕ) → turn_in i first ≡ waiting_at (constant_in cs i).place
    none_yet i =
        ap (λ l. get_or l i no_turn) opened_first.turns_are
        ∙ get_or-map waiting_at (numbers_of (is_kind 24) book) i 0
        ∙ ap waiting_at (sym (number_of book i))

    admitting_first : Admitting cs names 0 first
    unfolding constants
    admitting_first =
        let o = opened_first in
        record {
          open_is = o.open_is;
          undone_long = o.undone_long;
          long = ap length o.turns_are ∙ length-map (numbers_of (is_kind 24) book) waiting_at ∙ sym (as_many book);
          placed = λ j less. ap (λ t. t.place) (none_yet j);
          so_far = λ j less. absurd (omega arith);
          later = λ j from less. ap (λ t. t.waits) (none_yet j);
          stamps = λ n j from less. omega (arith, ap (λ l. get_or l n 0) o.seen_is ∙ all_alike names 0 n, is_of.beyond_first j less);
          seen_long = ap length o.seen_is ∙ length-replicate names 0 ∙ sym o.undone_long;
          owned = λ k j less is. absurd (omega (arith, is_of.beyond_first j less, is, ap (λ (x : Named). x.by) (ap (λ l. get_or l k nobody) o.named_is ∙ all_alike most nobody k)));
        }

    abbrev second : State
    second = admitted_all book first

    admitting_second : Admitting cs names (length cs) second
    admitting_second = admits_all is_of names (length first.turns) 0 first admitting_first (omega (arith, admitting_first.long))

    module _ (values : List (Answer ℤ)) (values_long : length values ≡ names) (before : List Settled) (room : length before + length book.records ≤ most) where
      pub ends_all :
          ((evaluated names most book declarations values before).order ≡ before ++ map told (outcome each (table_in values) cs))
          × ((evaluated names most book declarations values before).values ≡ stored_behind (outcome each (table_in values) cs) values)
      unfolding evaluated outcome order
      ends_all =
          let t : Run = run second values before in
          let s = stands_at_first is_of names second admitting_second in
          let e =
          ends is_of most (length second.turns) 0 [] t s
          (record {
            undone_long = λ k less. omega (arith, name_in book read.well_formed k less below, admitting_second.undone_long);
            values_long = λ k less. omega (arith, name_in book read.well_formed k less below, values_long);
            order_long = omega (arith, admitting_second.long, few, room);
          })
          (omega arith) (λ j less. absurd (omega arith)) in
          let same : length second.turns ≡ length cs = admitting_second.long in
          let xs : order_from (length second.turns) each cs [] ≡ order_from (length cs) each cs [] = ap (λ n. order_from n each cs []) same in (
            e.order_is ∙ ap (λ l. before ++ map told (settle (table_in values) l)) xs,
            e.values_are ∙ ap (λ l. stored_behind (settle (table_in values) l) values) xs,
          )
