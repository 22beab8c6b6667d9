-- The parts of a book, one after the other, do what the definitions say of lowering it; and how that ends, to the
-- last byte.
-- Assumes nothing.
use Rattle.std.proofs.Common.{◌≡◌, ℕ, ◌≤◌, List, [], length, refl, sym, ap, ◌∙◌, arith, subst, Ok, Err}
use Rattle.std.proofs.Common.{Result}
use Rattle.record.specs.declared.Record.{Record}
use Rattle.record.specs.declared.refusal.Refusal.{Refusal}
use Rattle.record.specs.Refused.{number_of}
use Rattle.record.specs.Write.{room_for, with_records, cleared}
use Rattle.record.specs.Written.{Written, all_of, written}
use Rattle.record.proofs.Fronts.{room_same, cleared_forgets}
use Rattle.record.proofs.Pushes.{written-all, blank-written}
use Rattle.book.specs.Outline.{Book}
use Rattle.types.specs.declared.LowerCtx.{LowerCtx}
use Rattle.types.specs.Lowering.{Limits, State, Stop, too_deep, full, stop_number, Out, finished, stopped, run, start}
use Rattle.types.specs.Lowering.{used_limits}
use Rattle.types.specs.Resolved.{Names}
use Rattle.types.specs.Step.{Step, ◌>>◌, for_each}
use Rattle.types.specs.Numbers.{plain_aliases, register_declarations}
use Rattle.types.specs.Alias.{lower_alias}
use Rattle.types.specs.Stands.{Lent, limits, Knows, Stands, Left, cause_of, Ends, Done, Does, Refines}
use Rattle.types.specs.Tables.{Tables}
use Rattle.types.specs.Begun.{begun}
use Rattle.types.specs.Code as code
use Rattle.types.specs.Events.{go_on}
use Rattle.types.proofs.Adds.{runs_in_turn}
use Rattle.types.proofs.Refining.{does_next}
use Rattle.constants.specs.OfBook.{settled}
use Rattle.bodies.specs.Constant.{lower_constants, stored_count}
use Rattle.bodies.specs.Bodies.{lower_bodies}
use Rattle.lower.specs.declared.Counted.{Counted}
use Rattle.lower.specs.LowerBook.{ended, lower_records, lower_read}
use Rattle.lower.specs.Ended.{LowersRead}
use Rattle.lower.specs.Counters.{counted}
use Rattle.lower.specs.Promise.{reply_of, outcome_of}
use Rattle.lower.specs.Inside.{counters_of, replied, left_by}

-- what a part leaves, whatever that is worth
abbrev pub Leaves : Type 1
Leaves = Unit {0} → Unit {0} → Names → List Record → Type 0

-- three parts, one after the other, and the counters behind them
abbrev pub in_turn : (f g h : code.State → code.Outcome (Unit {0})) → code.State → code.Outcome LowerCtx
in_turn f g h s = code.next (f s) (λ _ t. code.next (g t) (λ _ u. code.next (h u) (λ _ v. code.done (counters_of v) v)))

-- and without the counters
abbrev three : (f g h : code.State → code.Outcome (Unit {0})) → code.State → code.Outcome (Unit {0})
three f g h c = code.next (f c) (λ _ t. code.next (g t) (λ _ u. h u))

counts_behind :
    (f g h : code.State → code.Outcome (Unit {0})) (c : code.State) →
    in_turn f g h c ≡ code.next (three f g h c) (λ _ v. code.done (counters_of v) v)
counts_behind f g h c = first (f c).answer (f c).state
  where
    second :
        (r : Result (Unit {0}) Refusal) (t : code.State) →
        code.after r t (λ _ u. code.next (h u) (λ _ v. code.done (counters_of v) v))
        ≡ code.next (code.after r t (λ _ u. h u)) (λ _ v. code.done (counters_of v) v)
    second (Ok x) t = refl
    second (Err e) t = refl

    first :
        (r : Result (Unit {0}) Refusal) (s : code.State) →
        code.after r s (λ _ t. code.next (g t) (λ _ u. code.next (h u) (λ _ v. code.done (counters_of v) v)))
        ≡ code.next (code.after r s (λ _ t. code.next (g t) (λ _ u. h u))) (λ _ v. code.done (counters_of v) v)
    first (Ok x) s = second (g s).answer (g s).state
    first (Err e) s = refl

-- of three steps, the last two may be taken together
in_three : (most : Limits) (m n o : Step (Unit {0})) (k : Names) (s : State)
    → run most ((m >> n >> o) k) s ≡ run most ((m >> (n >> o)) k) s
unfolding go_on
in_three most m n o k s =
    let U : Type 0 = Unit {0} × Names in
    runs_in_turn U U most ((m >> n) k) (λ a. o a.1) s
    ∙ ap (λ (x : Out U). go_on x (λ a s'. run most (o a.1) s')) (runs_in_turn U U most (m k) (λ a. n a.1) s)
    ∙ go (run most (m k) s)
    ∙ sym (runs_in_turn U U most (m k) (λ a. (n >> o) a.1) s)
  where
    go :
        (x : Out (Unit {0} × Names)) →
        go_on (go_on x (λ a s'. run most (n a.1) s')) (λ a s'. run most (o a.1) s')
        ≡ go_on x (λ a s'. run most ((n >> o) a.1) s')
    go (finished a s') = sym (runs_in_turn (Unit {0} × Names) (Unit {0} × Names) most (n a.1) (λ a. o a.1) s')
    go (stopped c p) = refl

module _ {book : Book} (f g h : code.State → code.Outcome (Unit {0})) (m n o : Step (Unit {0})) (V W : Leaves)
    (first :
    (lent : Lent) (c : code.State) (k : Names) (s : State) → k.aliases ≡ [] → Stands lent book c k s
    → Does lent book V (f c) m k s)
    (rest : Refines book W (λ c. code.next (g c) (λ _ t. h t)) (n >> o)) where
  three_do : (lent : Lent) (c : code.State) (k : Names) (s : State) → k.aliases ≡ [] → Stands lent book c k s
      → Does lent book W (three f g h c) (m >> n >> o) k s
  three_do lent c k s none st =
      subst (λ (x : Out (Unit {0} × Names)). Ends lent (Done lent book s.results W) (three f g h c).answer
      (three f g h c).state x) (sym (in_three (limits lent) m n o k s))
      (does_next lent book V W (f c) m (λ _ t. code.next (g t) (λ _ u. h u)) (n >> o) k s (first lent c k s none st)
      (λ x c' u k' s' st' grown v. rest lent c' k' s' st'))

-- what is cleared behind some records is as it would be without them
cleared_behind :
    (most : ℕ) (rs : List Record) (lent : List ℕ) → length rs ≤ room_for most lent →
    cleared (room_for most (with_records rs lent)) (with_records rs lent) ≡ cleared (room_for most lent) lent
cleared_behind most rs lent fits =
    rw (room_same most rs lent fits) (cleared_forgets (room_for most lent) lent rs fits (omega arith))

clears :
    (most : ℕ) (rs : List Record) (lent : List ℕ) (w : Written) → w ≡ written rs lent most
    → length rs ≤ room_for most lent →
    cleared (room_for most (all_of w)) (all_of w) ≡ cleared (room_for most lent) lent
clears most rs lent w is fits =
    ap (λ (x : Written). cleared (room_for most (all_of x)) (all_of x)) is
    ∙ ap (λ (l : List ℕ). cleared (room_for most l) l) (written-all rs lent most) ∙ cleared_behind most rs lent fits

-- the number of a cause, here and there
same_number : (x : Stop) → number_of (cause_of x) ≡ stop_number x
unfolding stop_number
same_number too_deep = refl
same_number full = refl

-- how it ended: the reply, the slices and the counters
pub record EndsSo
    (lent : Lent) (stored : ℕ) (a : Result LowerCtx Refusal) (results diagnostics : List ℕ) (out : Out
    (Unit {0} × Names)) : Type 0 where
  pub outcome :
      outcome_of (replied a stored).reply (left_by a 2048 results) (left_by a 256 diagnostics)
      ≡ ended stored (limits lent) lent.results lent.diagnostics out
  pub counters : (replied a stored).ctx ≡ counted out

module _ (lent : Lent) (book : Book) (rs : List Record) (W : Leaves) (stored : ℕ) where
  accepts :
      (c : code.State) (a : Unit {0} × Names) (s : State) → Stands lent book c a.1 s →
      EndsSo lent stored (Ok (counters_of c)) (all_of c.results) (all_of c.diagnostics) (finished a s)
  unfolding reply_of ended counted
  accepts c a s st =
      record {
        outcome = rw (
          st.results_are,
          st.diagnostics_are,
          written-all s.results lent.results 2048,
          written-all s.diagnostics lent.diagnostics 256,
        ) refl;
        counters = λ i. record {
          next = st.knows.next_is i;
          results = (st.results_are i).count;
          diagnostics =
              (st.diagnostics_are i).count;
        };
      }

  refuses :
      (e : Refusal) (c : code.State) (x : Stop) (p : ℕ) → e ≡ record { cause = cause_of x; place = p } → Left lent c →
      EndsSo lent stored (Err e) (all_of c.results) (all_of c.diagnostics) (stopped x p)
  unfolding reply_of ended counted
  refuses e c x p is left =
      record {
        outcome =
            rw (
              is,
              same_number x,
              clears 2048 left.results lent.results c.results left.results_are left.results_fit,
              clears 256 left.diagnostics lent.diagnostics c.diagnostics left.diagnostics_are left.diagnostics_fit,
            ) refl;
        counters = refl;
      }

  ends_so :
      (r : Result (Unit {0}) Refusal) (c : code.State) (out : Out (Unit {0} × Names))
      → Ends lent (Done lent book rs W) r c out →
      EndsSo lent stored (code.after r c (λ _ v. code.done (counters_of v) v)).answer
      (all_of (code.after r c (λ _ v. code.done (counters_of v) v)).state.results)
      (all_of (code.after r c (λ _ v. code.done (counters_of v) v)).state.diagnostics) out
  ends_so (Ok n) c (finished a s) d = accepts c a s d.stands
  ends_so (Err e) c (stopped x p) d = refuses e c x p d.0 d.1
  ends_so (Ok n) c (stopped x p) d = absurd d
  ends_so (Err e) c (finished a s) d = absurd d

-- from the start, the tables standing for the names that the definitions begin with
module _ {book : Book} {t : Tables} (results diagnostics : List ℕ) (knows : Knows book t
    (register_declarations book) [])
    (f g h : code.State → code.Outcome (Unit {0})) (V W : Leaves)
    (first :
    (lent : Lent) (c : code.State) (k : Names) (s : State) → k.aliases ≡ [] → Stands lent book c k s →
    Does lent book V (f c) (for_each (lower_alias book) (plain_aliases book)) k s)
    (rest : Refines book W (λ c. code.next (g c) (λ _ t. h t)) (lower_constants book
    (settled book) >> lower_bodies book)) where
  abbrev lent : Lent
  lent = record { results = results; diagnostics = diagnostics }

  abbrev from : code.State
  from = begun book t results diagnostics

  abbrev end : Out (Unit {0} × Names)
  end = run (used_limits results diagnostics) (lower_records (settled book) book) start

  start_stands : Stands lent book from (register_declarations book) start
  start_stands =
      record {
        book_is = refl;
        place_is = refl;
        results_are = blank-written results 2048;
        diagnostics_are = blank-written diagnostics 256;
        results_fit = omega arith;
        diagnostics_fit = omega arith;
        knows = knows;
      }

  parts_end : Ends lent (Done lent book [] W) (three f g h from).answer (three f g h from).state end
  unfolding lower_records register_declarations
  parts_end =
      three_do f g h (for_each (lower_alias book) (plain_aliases book)) (lower_constants book (settled book))
      (lower_bodies book) V W first rest
      lent from (register_declarations book) start refl start_stands

  whole_ends :
      (stored : ℕ) →
      EndsSo lent stored (in_turn f g h from).answer (all_of (in_turn f g h from).state.results) (all_of
      (in_turn f g h from).state.diagnostics) end
  whole_ends stored =
      subst
      (λ (o : code.Outcome LowerCtx). EndsSo lent stored o.answer (all_of o.state.results)
      (all_of o.state.diagnostics) end)
      (sym (counts_behind f g h from))
      (ends_so lent book [] W stored (three f g h from).answer (three f g h from).state end parts_end)

  -- what a function answers and leaves that does so
  pub lowers_read :
      (stored : ℕ) (a : Result LowerCtx Refusal) (r d : List ℕ) (c : Counted) (r' d' : List ℕ)
      → stored ≡ stored_count (settled book) →
      a ≡ (in_turn f g h from).answer → r ≡ all_of (in_turn f g h from).state.results
      → d ≡ all_of (in_turn f g h from).state.diagnostics →
      c ≡ replied a stored → r' ≡ left_by a 2048 r → d' ≡ left_by a 256 d → LowersRead book results diagnostics c r' d'
  unfolding lower_read
  lowers_read stored a r d c r' d' count ea er ed ec er' ed' =
      let e : EndsSo lent stored (in_turn f g h from).answer (all_of (in_turn f g h from).state.results) (all_of
      (in_turn f g h from).state.diagnostics) end = whole_ends stored in
      let e₁ : EndsSo lent stored a r d end =
      subst (λ (x : Result LowerCtx Refusal). EndsSo lent stored x r d end) (sym ea)
      (subst (λ (x : List ℕ). EndsSo lent stored (in_turn f g h from).answer x d end) (sym er)
      (subst (λ (x : List ℕ). EndsSo lent stored (in_turn f g h from).answer (all_of
      (in_turn f g h from).state.results) x end) (sym ed) e)) in
      record {
        outcome =
            ap (λ (x : Counted). outcome_of x.reply r' d') ec
            ∙ ap (λ (x : List ℕ). outcome_of (replied a stored).reply x d') er'
            ∙ ap (λ (x : List ℕ). outcome_of (replied a stored).reply (left_by a 2048 r) x) ed'
            ∙ e₁.outcome
            ∙ ap (λ (n : ℕ). ended n (used_limits results diagnostics) results diagnostics end) count;
        counters = ap (λ (x : Counted). x.ctx) ec ∙ e₁.counters;
      }
