-- What a run of `evaluate` leaves is an evaluation over arrays of marks and bits, so constants keep their values in
-- every run.
-- Assumes nothing.
use Rattle.std.specs.Prelude.{ℕ, cond, List, [], ◌∷◌, map, ◌≡◌, ℤ, length, drop, Option as Answer, Some, None}
use Rattle.std.proofs.Common.{refl, sym, ap, ◌∙◌, subst, arith}
use Rattle.std.proofs.Math.Option.{Option, some, none}
use Rattle.std.proofs.lemmas.List.{drop_at, map-set, length-map}
use lib.ListN.{get_or-map}
use Rattle.arith.specs.Word.{signed}
use Rattle.arith.specs.Checked.{answer}
use Rattle.arith.proofs.Words.{integer_and_back}
use Rattle.book.specs.Outline.{read}
use Rattle.book.proofs.Records.{records-length}
use Rattle.constants.specs.Eval.{Table}
use Rattle.constants.specs.Order.{each, outcome}
use Rattle.constants.specs.Order as settling
use Rattle.constants.specs.OfBook.{constants}
use Rattle.constants.specs.Values.{IsI64}
use Rattle.constants.specs.Evaluated.{table_of, NamesBelow, filled, place_of, has_value, value_or_0, known_then, worth_then, known_behind, worth_behind, outcome_over, Evaluated}
use Rattle.constants.specs.Demand3.{Evaluation, IsOf}
use Rattle.constants.specs.declared.reached.Settled.{Settled}
use Rattle.constants.specs.Given.{table_in, answered, told, stored, stored_behind}
use Rattle.constants.specs.Arrays.{marks, bits, AreI64, put_in, appended, EvaluatedAsArrays, IsRunOf, Demand3OfRuns}
use Rattle.constants.proofs.Demand3.{demand_3}

-- a value is the one that its mark and its bits stand for
value_of : (o : Option ℤ) → IsI64 o → cond (has_value o) (some (signed (value_or_0 o))) none ≡ o
unfolding has_value value_or_0
value_of none is = refl
value_of (some z) is = ap some (integer_and_back z is.0 is.1)

same_table : (values : List (Answer ℤ)) → AreI64 values → table_of (marks values) (bits values) ≡ table_in values
unfolding table_of table_in has_value value_or_0
same_table values are = λ i n. same n i
  where
    same : (n : ℕ) → table_of (marks values) (bits values) n ≡ table_in values n
    same n =
        rw (get_or-map (λ v. has_value (answer v)) values n None, get_or-map (λ v. value_or_0 (answer v)) values n None)
        (value_of (table_in values n) (are n))

-- an answer of the code says what the definitions have
said : (o : Option ℤ) → answer (answered o) ≡ o
said none = refl
said (some z) = refl

-- what was settled, by number
places_are : (xs : List settling.Settled) → map (λ (x : Settled). x.place) (map told xs) ≡ map place_of xs
places_are [] = refl
places_are (x ∷ xs) = ap (λ l. x.constant.place ∷ l) (places_are xs)

marks_are : (xs : List settling.Settled) → marks (map (λ (x : Settled). x.value) (map told xs)) ≡ map (λ (x : settling.Settled). has_value x.value) xs
marks_are [] = refl
marks_are (x ∷ xs) = λ i. has_value (said x.value i) ∷ marks_are xs i

bits_are : (xs : List settling.Settled) → bits (map (λ (x : Settled). x.value) (map told xs)) ≡ map (λ (x : settling.Settled). value_or_0 x.value) xs
bits_are [] = refl
bits_are (x ∷ xs) = λ i. value_or_0 (said x.value i) ∷ bits_are xs i

-- and by name
marks_then : (name : ℕ) (o : Option ℤ) (values : List (Answer ℤ)) → marks (stored name (answered o) values) ≡ known_then name o (marks values)
unfolding known_then has_value
marks_then name none values = refl
marks_then name (some z) values = map-set (λ v. has_value (answer v)) values name (Some z)

bits_then : (name : ℕ) (o : Option ℤ) (values : List (Answer ℤ)) → bits (stored name (answered o) values) ≡ worth_then name o (bits values)
unfolding worth_then value_or_0
bits_then name none values = refl
bits_then name (some z) values = map-set (λ v. value_or_0 (answer v)) values name (Some z)

marks_behind : (xs : List settling.Settled) (values : List (Answer ℤ)) → marks (stored_behind xs values) ≡ known_behind xs (marks values)
unfolding stored_behind known_behind
marks_behind [] values = refl
marks_behind (x ∷ xs) values =
    marks_behind xs (stored x.constant.name (answered x.value) values) ∙ ap (known_behind xs) (marks_then x.constant.name x.value values)

bits_behind : (xs : List settling.Settled) (values : List (Answer ℤ)) → bits (stored_behind xs values) ≡ worth_behind xs (bits values)
unfolding stored_behind worth_behind
bits_behind [] values = refl
bits_behind (x ∷ xs) values =
    bits_behind xs (stored x.constant.name (answered x.value) values) ∙ ap (worth_behind xs) (bits_then x.constant.name x.value values)

pub evaluated_as_arrays : EvaluatedAsArrays
unfolding outcome_over
evaluated_as_arrays book values values' order order' leaves bytes lent is are =
    let xs : List settling.Settled = outcome each (table_in values) (constants book) in
    let same : xs ≡ outcome_over bytes (marks values) (bits values) = λ i. outcome each (sym (same_table values are) i) (constants (is i)) in
    let new : appended order order' ≡ map told xs = ap (drop (length order)) leaves.order_is ∙ drop_at order (map told xs) (length order) refl in
    let x : Evaluation = put_in lent (appended order order') in
    subst
    (λ ys.
    Evaluated ys x.count (marks values) (marks values') (bits values) (bits values') lent.order x.order lent.stored x.stored lent.values x.values)
    same
    (record {
      count = ap length new ∙ length-map xs told;
      order_is = ap (λ l. filled l lent.order) (ap (map (λ (x : Settled). x.place)) new ∙ places_are xs);
      stored_is = ap (λ l. filled l lent.stored) (ap (λ l. marks (map (λ (x : Settled). x.value) l)) new ∙ marks_are xs);
      values_are = ap (λ l. filled l lent.values) (ap (λ l. bits (map (λ (x : Settled). x.value) l)) new ∙ bits_are xs);
      known_is = ap marks leaves.values_are ∙ marks_behind xs values;
      worth_is = ap bits leaves.values_are ∙ bits_behind xs values;
    })

-- a run, no constant having a value beforehand
module _ (book : List ℕ) (x : Evaluation) (run : IsRunOf book x) where
  none_are_i64 : AreI64 run.values
  none_are_i64 n = subst IsI64 (sym (run.none_before n)) tt

  names_below : NamesBelow book (length (marks run.values))
  unfolding read
  names_below n is =
      omega (arith, run.names n (omega (arith, is.here, records-length book)) is.kind, length-map run.values (λ v. has_value (answer v)))

  is_evaluation : IsOf book x
  is_evaluation =
      subst (IsOf book) (sym run.is_put)
      (record {
        known = marks run.values;
        known' = marks run.values';
        worth = bits run.values;
        worth' = bits run.values';
        order = run.lent.order;
        stored = run.lent.stored;
        values = run.lent.values;
        long = record {
          names = names_below;
          worth_is = length-map run.values (λ v. value_or_0 (answer v)) ∙ sym (length-map run.values (λ v. has_value (answer v)));
          order_is = run.room.order_is;
          stored_is = run.room.stored_is;
          values_are = run.room.values_are;
        };
        none_before = λ n. ap (λ (t : Table). t n) (same_table run.values none_are_i64) ∙ run.none_before n;
        promise = evaluated_as_arrays (read book) run.values run.values' run.order run.order' run.leaves book run.lent refl none_are_i64;
      })

pub demand_3_of_runs : Demand3OfRuns
demand_3_of_runs = record {
  are_evaluations = is_evaluation;
  of_each = λ book x bytes unrefused run. demand_3.of_each book x bytes unrefused (is_evaluation book x run);
  of_both =
      λ first second x y bytes bytes' un un' run run' all.
      demand_3.of_both first second x y bytes bytes' un un' (is_evaluation first x run) (is_evaluation second y run') all;
}
