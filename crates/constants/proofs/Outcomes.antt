-- What the code settles is what the order of the constants settles.
-- Assumes nothing.
use Rattle.std.specs.Prelude.{ℕ, zero, suc, ◌+◌, ◌-◌, ◌≤◌, ◌<◌, Bool, true, false, not, cond, ◌&&◌, ◌≡◌, eqb, List, [], ◌∷◌, ◌++◌, map, length, get_or, set, ℤ, Option as Answer, Some, None}
use Rattle.std.proofs.Common.{refl, sym, ap, ◌∙◌, subst, arith, length-set, length-append, append_assoc}
use Rattle.std.proofs.Math.Option.{Option, some, none}
use Rattle.std.proofs.Math.Seq.{get_or-set_same, get_or-set_other}
use mathlib.Core.Bool.{and-false}
use mathlib.Core.List.{append-nil}
use native.Mathlib.Decide.{ℕ_discrete, dec_lt}
use borrow.Author.Tests.{eqb-true, eq-eqb, ne_eqb}
use Rattle.arith.specs.Checked.{answer}
use Rattle.book.specs.Outline.{Book, ◌!◌}
use Rattle.constants.specs.Eval.{store, eval_const_expr}
use Rattle.constants.specs.Order.{Constant, each, has, declares, admits, ready, order_from, order, settle, outcome}
use Rattle.constants.specs.Order as settling
use Rattle.constants.specs.Tables.{constant_in}
use Rattle.constants.specs.Tree.{tree}
use Rattle.constants.specs.declared.works.Waits as code
use Rattle.constants.specs.declared.works.Waits.TheVariants.{Done}
use Rattle.constants.specs.Given.{table_in, answered, told, stored, stored_behind}
use Rattle.constants.specs.Steps.{State, Run, turn, settled_as, settled_at, settled, next_low, turned, first_from, settled_from}
use Rattle.constants.proofs.Kept.{pushed-room}
use Rattle.constants.proofs.Order.{has_later}
use Rattle.constants.proofs.Turns.{has_own, has_other, done_not_ready}
use Rattle.constants.proofs.Earliest.{find_at, find_past}
use Rattle.constants.proofs.Standing.{Waits, not_admitted, over, for, for_one, Open, Stands, IsOf, turn_there, each_put, IsFirst, finds}

-- the order takes the first that is ready from `low` on, if those before are done
module _ (cs : List Constant) (done : List ℕ) (low : ℕ) (before : (j : ℕ) → j < low → has (constant_in cs j).name done ≡ true) where
  not_below : (j : ℕ) → j < low → ready each cs done (constant_in cs j) ≡ false
  not_below j less = done_not_ready cs done (constant_in cs j) (before j less)

  pub order_ends :
      ((j : ℕ) → low ≤ j → j < length cs → ready each cs done (constant_in cs j) ≡ false) → (most : ℕ) → order_from most each cs done ≡ []
  unfolding order_from constant_in
  order_ends none_ready zero = refl
  order_ends none_ready (suc most) = rw (find_past (ready each cs done) _ cs (λ j less. at j less (dec_lt j low)), order_from)
    where
      at : (j : ℕ) → j < length cs → Dec (j < low) → ready each cs done (constant_in cs j) ≡ false
      at j less (yes h) = not_below j h
      at j less (no h) = none_ready j (omega arith) less

  pub order_next :
      (k : ℕ) → IsFirst cs done low (Some k) → (most : ℕ) →
      order_from (suc most) each cs done ≡ constant_in cs k ∷ order_from most each cs ((constant_in cs k).name ∷ done)
  unfolding order_from constant_in
  order_next k first most =
      rw (find_at (ready each cs done) _ cs k first.1.0 (λ j less. at j less (dec_lt j low)) first.1.1.0, order_from)
    where
      at : (j : ℕ) → j < k → Dec (j < low) → ready each cs done (constant_in cs j) ≡ false
      at j less (yes h) = not_below j h
      at j less (no h) = first.1.1.1 j (omega arith) less

-- the arrays hold the table with a value stored
pub table_then :
    (values : List (Answer ℤ)) (name : ℕ) (o : Option ℤ) → name < length values →
    table_in (stored name (answered o) values) ≡ store (table_in values) name o
unfolding table_in store
table_then values name none inside = refl
table_then values name (some z) inside = λ i n. at n (ℕ_discrete n name) i
  where
    at :
        (n : ℕ) → Dec (n ≡ name) →
        answer (get_or (set values name (Some z)) n None) ≡ cond (eqb n name) (some z) (answer (get_or values n None))
    at n (yes e) = rw (e, get_or-set_same values name (Some z) None inside, eq-eqb name name refl) refl
    at n (no ne) = rw (get_or-set_other values name n (Some z) None ne, ne_eqb n name ne) refl

stored_long : (values : List (Answer ℤ)) (name : ℕ) (o : Answer ℤ) → length (stored name o values) ≡ length values
stored_long values name None = refl
stored_long values name (Some z) = length-set values name (Some z)

-- one more name is done
open_then :
    (cs : List Constant) (done : List ℕ) (undone : List Bool) → Open cs done undone → (name : ℕ) → name < length undone →
    Open cs (name ∷ done) (set undone name false)
open_then cs done undone o name inside m = go (ℕ_discrete m name)
  where
    go : Dec (m ≡ name) → get_or (set undone name false) m false ≡ declares cs m && not (has m (name ∷ done))
    go (yes e) = rw (e, get_or-set_same undone name false false inside, has_own name done) (sym (and-false (declares cs name)))
    go (no ne) = rw (get_or-set_other undone name m false false ne, has_other m name done ne) (o m)

-- another constant waits for what it did
waits_then :
    {cs : List Constant} {done : List ℕ} {c : Constant} {w : code.Waits} (name : ℕ) → (c.name ≡ name → ⊥) → Waits cs done c w → Waits cs (name ∷ done) c w
waits_then name ne (not_admitted a) = not_admitted a
waits_then {done = done} {c = c} name ne (over h) = over (has_later c.name name done h)
waits_then {done = done} {c = c} name ne (for f a) = for (has_other c.name name done ne ∙ f) a
waits_then {done = done} {c = c} name ne (for_one f a m) = for_one (has_other c.name name done ne ∙ f) a m

-- a turn
module _ {book : Book} {cs : List Constant} (of : IsOf book cs) (most : ℕ) where
  -- the constant at a number is settled
  module _ {done : List ℕ} (t : Run) (x : Stands cs done t.works) (k : ℕ) (less : k < length cs) where
    abbrev c : Constant
    c = constant_in cs k

    abbrev value : Option ℤ
    value = eval_const_expr (table_in t.values) c.expr

    settled_is : settled most book k t ≡ settled_as most k c.place c.name (answered value) t
    unfolding settled
    settled_is =
        ap (λ o. settled_at most book k o t) (turn_there x k less)
        ∙ ap (λ p. settled_as most k p (book ! p).a (answered (eval_const_expr (table_in t.values) (tree book (book ! p).c))) t) (x.placed k less)
        ∙ ap (λ n. settled_as most k c.place n (answered (eval_const_expr (table_in t.values) (tree book (book ! c.place).c))) t) (of.name_is k less)
        ∙ ap (λ e. settled_as most k c.place c.name (answered (eval_const_expr (table_in t.values) e)) t) (of.expr_is k less)

    stands_then : c.name < length t.works.undone → Stands cs (c.name ∷ done) (settled_as most k c.place c.name (answered value) t).works
    stands_then inside = record {
      open_is = open_then cs done t.works.undone x.open_is c.name inside;
      long = length-set t.works.turns k (turn c.place Done) ∙ x.long;
      placed =
          each_put (λ j t. t.place ≡ (constant_in cs j).place) t.works.turns k (turn c.place Done) (length cs)
          (omega (arith, x.long)) refl (λ j l _. x.placed j l);
      waits =
          each_put (λ j u. Waits cs (c.name ∷ done) (constant_in cs j) u.waits) t.works.turns k
          (turn c.place Done) (length cs) (omega (arith, x.long)) (over (has_own c.name done))
          (λ j l ne. waits_then c.name (λ e. ne (of.one_name j k l less e)) (x.waits j l));
      owned = x.owned;
    }

  -- there is room: for the names of the constants, and for so many more
  pub record Room (left : ℕ) (t : Run) : Type 0 where
    pub undone_long : (k : ℕ) → k < length cs → (constant_in cs k).name < length t.works.undone
    pub values_long : (k : ℕ) → k < length cs → (constant_in cs k).name < length t.values
    pub order_long : length t.order + left ≤ most

  -- what is left behind some that were settled
  pub record Ends (t u : Run) (xs : List settling.Settled) : Type 0 where
    pub order_is : u.order ≡ t.order ++ map told xs
    pub values_are : u.values ≡ stored_behind xs t.values

  ends_none : (t u : Run) (xs : List settling.Settled) → xs ≡ [] → u.order ≡ t.order → u.values ≡ t.values → Ends t u xs
  unfolding stored_behind
  ends_none t u xs e o v = rw e (record { order_is = o ∙ sym (append-nil t.order); values_are = v })

  ends_more :
      (t v u : Run) (x : settling.Settled) (xs : List settling.Settled) → v.order ≡ t.order ++ (told x ∷ []) →
      v.values ≡ stored x.constant.name (answered x.value) t.values → Ends v u xs → Ends t u (x ∷ xs)
  unfolding stored_behind
  ends_more t v u x xs o w e = record {
    order_is = e.order_is ∙ ap (λ l. l ++ map told xs) o ∙ append_assoc t.order (told x ∷ []) (map told xs);
    values_are = e.values_are ∙ ap (stored_behind xs) w;
  }

  abbrev AllEnds : ℕ → Type 0
  AllEnds left =
      (low : ℕ) (done : List ℕ) (t : Run) → Stands cs done t.works → Room left t → low ≤ length cs →
      ((j : ℕ) → j < low → has (constant_in cs j).name done ≡ true) →
      Ends t (settled_from most book left low t) (settle (table_in t.values) (order_from left each cs done))

  module _
      (left low : ℕ) (done : List ℕ) (t : Run) (room : Room (suc left) t)
      (before : (j : ℕ) → j < low → has (constant_in cs j).name done ≡ true) (within : low ≤ length cs) (rest : AllEnds left)
    where
      next_done : (k : ℕ) → low ≤ k → (b : Bool) → eqb k low ≡ b → (j : ℕ) → j < cond b (k + 1) low → has (constant_in cs j).name ((constant_in cs k).name ∷ done) ≡ true
      next_done k from true e j less = go (ℕ_discrete j k)
        where
          same : k ≡ low
          same = eqb-true k low e

          go : Dec (j ≡ k) → has (constant_in cs j).name ((constant_in cs k).name ∷ done) ≡ true
          go (yes here) = rw here (has_own (constant_in cs k).name done)
          go (no ne) = has_later _ (constant_in cs k).name done (before j (omega (arith, same)))
      next_done k from false e j less = has_later _ (constant_in cs k).name done (before j less)

      next_within : (k : ℕ) → k < length cs → (b : Bool) → cond b (k + 1) low ≤ length cs
      next_within k less true = omega arith
      next_within k less false = within

      turn_ends :
          (o : Answer ℕ) (s : State) → IsFirst cs done low o → Stands cs done s → s.undone ≡ t.works.undone →
          Ends t (turned most book low t (settled_from most book left) o s) (settle (table_in t.values) (order_from (suc left) each cs done))
      unfolding settle
      turn_ends None s first x same =
          ends_none t (record t { works = s }) _ (ap (settle (table_in t.values)) (order_ends cs done low before first (suc left))) refl refl
      turn_ends (Some k) s first x same =
          let less : k < length cs = first.1.0 in
          let v : Run = record t { works = s } in
          let d : Constant = constant_in cs k in
          let z : Option ℤ = eval_const_expr (table_in t.values) d.expr in
          let u : Run = settled_as most k d.place d.name (answered z) v in
          let by_name : d.name < length t.values = room.values_long k less in
          let undone : d.name < length s.undone = omega (arith, ap length same, room.undone_long k less) in
          let later : Run = settled_from most book left (next_low k low) u in
          let xs = settle (store (table_in t.values) d.name z) (order_from left each cs (d.name ∷ done)) in
          let ih : Ends u later (settle (table_in u.values) (order_from left each cs (d.name ∷ done))) =
          rest (next_low k low) (d.name ∷ done) u (stands_then v x k less undone)
          (record {
            undone_long = λ j l. omega (arith, length-set s.undone d.name false, ap length same, room.undone_long j l);
            values_long = λ j l. omega (arith, stored_long t.values d.name (answered z), room.values_long j l);
            order_long = omega (arith, ap length (pushed-room most t.order (told (record { constant = d; value = z })) (omega (arith, room.order_long))), length-append t.order (told (record { constant = d; value = z }) ∷ []), room.order_long);
          })
          (next_within k less (eqb k low)) (next_done k first.0 (eqb k low) refl) in
          let whole : Ends t later (record { constant = d; value = z } ∷ xs) =
          ends_more t u later (record { constant = d; value = z }) xs (pushed-room most t.order (told (record { constant = d; value = z })) (omega (arith, room.order_long))) refl
          (subst (λ T. Ends u later (settle T (order_from left each cs (d.name ∷ done)))) (table_then t.values d.name z by_name) ih) in
          rw (order_next cs done low before k first left, settled_is v x k less) whole

  pub ends : (left : ℕ) → AllEnds left
  unfolding settled_from settle order_from
  ends zero low done t x room within before = ends_none t t [] refl refl refl
  ends (suc left) low done t x room within before =
      let f = finds of (length t.works.turns - low) low t.works x (omega (arith, x.long)) in
      turn_ends left low done t room before within (ends left) (first_from book low t.works).number (first_from book low t.works).state f.first f.stands
      f.undone_same
