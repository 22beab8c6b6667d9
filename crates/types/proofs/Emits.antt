-- One more result, and one more diagnostic.
-- Assumes nothing.
use Rattle.std.proofs.Common.{◌≡◌, ℕ, ◌+◌, ◌≤◌, Bool, true, false, List, [], ◌∷◌, ◌++◌, length, nat_lt, refl, sym, ap}
use Rattle.std.proofs.Common.{◌∙◌, arith, subst, length-append, Some, None, Option, Ok, Err}
use Rattle.std.proofs.Math.Option.{Option as Maybe, some, none}
use Rattle.std.proofs.lemmas.Bool.Decides.{nat_tests}
use Rattle.record.specs.declared.Record.{Record}
use Rattle.record.specs.declared.refusal.Cause.TheVariants.{Full}
use Rattle.record.specs.Written.{Written, with_record, has_room, pushed, number_given}
use Rattle.record.proofs.Pushes.{has_room-written, with_record-written}
use Rattle.book.specs.Outline.{Book}
use Rattle.types.specs.declared.names.Place.{Place}
use Rattle.types.specs.Lowering.{State, with_result, with_diagnostic, full, finished, stopped, run}
use Rattle.types.specs.Resolved.{ResolvedType, Names, alias_of}
use Rattle.types.specs.Step.{emit, tell}
use Rattle.types.specs.Tables.{Tables, alias_in}
use Rattle.types.specs.Stands.{Lent, limits, IsAlias, Knows, Stands, Ends, Done, Does, SameNumber}
use Rattle.types.specs.Code as code
use Rattle.types.proofs.Refining.{left, grown_more, grown_same, does_map}
use Rattle.types.proofs.Placed.{stands_on}

alias_on : (rs xs : List Record) (p : Option Place) (t : Maybe ResolvedType) → IsAlias rs p t → IsAlias (rs ++ xs) p t
alias_on rs xs None none h = tt
alias_on rs xs (Some p) (some t) h = stands_on rs xs p.first p.root t h
alias_on rs xs None (some t) h = absurd h
alias_on rs xs (Some p) none h = absurd h

-- what is known of names stays so when more is written
pub knows_on : (book : Book) (c : Tables) (k : Names) (rs xs : List Record) → Knows book c k rs
    → Knows book c k (rs ++ xs)
knows_on book c k rs xs h =
    record {
      numbers_long = h.numbers_long;
      aliases_long = h.aliases_long;
      next_is = h.next_is;
      next_few = omega (arith, h.next_few, length-append rs xs);
      types_few = h.types_few;
      numbers_are = h.numbers_are;
      declared_are = h.declared_are;
      ambiguous_are = h.ambiguous_are;
      generics_are = h.generics_are;
      pairs_room = h.pairs_room;
      pairs_are = h.pairs_are;
      aliases_are = λ n. alias_on rs xs (alias_in c n) (alias_of k n) (h.aliases_are n);
      uses_below = h.uses_below;
      alias_names_below = h.alias_names_below;
    }

pub more : code.State → Record → code.State
more c r = record c { results = with_record c.results r }

pub told_more : code.State → Record → code.State
told_more c r = record c { diagnostics = with_record c.diagnostics r }

-- a result is written, or there is no room
pub data Emitted (lent : Lent) (book : Book) (c : code.State) (k : Names) (s : State) (r : Record) : code.Outcome ℕ
    → Bool → Type 0 where
  it_is : (c₁ : code.State) → c₁.names ≡ c.names → Stands lent book c₁ k (with_result r s)
      → Emitted lent book c k s r (record { answer = Ok (length s.results); state = c₁ }) true
  no_room : Emitted lent book c k s r (record {
    answer = Err
        (record { cause = Full; place = s.place });
    state = c;
  }) false

-- a diagnostic is told, or there is no room
pub data Told (lent : Lent) (book : Book) (c : code.State) (k : Names) (s : State) (r : Record) : code.Outcome ℕ → Bool
    → Type 0 where
  told : (n : ℕ) (c₁ : code.State) → Stands lent book c₁ k (with_diagnostic r s)
      → Told lent book c k s r (record { answer = Ok n; state = c₁ }) true
  not_told : Told lent book c k s r (record {
    answer = Err
        (record { cause = Full; place = s.place });
    state = c;
  }) false

emit_room : (c : code.State) (r : Record) → has_room c.results ≡ true
    → code.emit r c ≡ record { answer = Ok c.results.count; state = more c r }
unfolding code.emit pushed number_given more
emit_room c r h = rw h refl

emit_full : (c : code.State) (r : Record) → has_room c.results ≡ false
    → code.emit r c ≡ record { answer = Err (record { cause = Full; place = c.place }); state = c }
unfolding code.emit pushed number_given
emit_full c r h = rw h refl

tell_room : (c : code.State) (r : Record) → has_room c.diagnostics ≡ true
    → code.tell r c ≡ record { answer = Ok c.diagnostics.count; state = told_more c r }
unfolding code.tell pushed number_given told_more
tell_room c r h = rw h refl

tell_full : (c : code.State) (r : Record) → has_room c.diagnostics ≡ false
    → code.tell r c ≡ record { answer = Err (record { cause = Full; place = c.place }); state = c }
unfolding code.tell pushed number_given
tell_full c r h = rw h refl

fit_more : (n m : ℕ) → nat_lt n m ≡ true → n + 1 ≤ m
fit_more n m h = grind (arith, nat_tests)

module _ (lent : Lent) (book : Book) (c : code.State) (k : Names) (s : State) (h : Stands lent book c k s)
    (r : Record) where
  emits : (b : Bool) → nat_lt (length s.results) (limits lent).results ≡ b → Emitted lent book c k s r (code.emit r c) b
  unfolding more
  emits true e =
      let here : has_room c.results ≡ true = ap has_room h.results_are ∙ has_room-written s.results lent.results 2048
      ∙ e in
      let long : c.results.count ≡ length s.results = ap (λ (w : Written). w.count) h.results_are in
      let stands : Stands lent book (more c r) k (with_result r s) =
      record {
        book_is = h.book_is;
        place_is = h.place_is;
        results_are = ap (λ (w : Written). with_record w r) h.results_are
            ∙ with_record-written s.results lent.results 2048 r;
        diagnostics_are = h.diagnostics_are;
        results_fit = let q : length s.results + 1 ≤ (limits lent).results = fit_more _ _ e
            in omega (arith, length-append s.results (r ∷ []));
        diagnostics_fit = h.diagnostics_fit;
        knows = knows_on book c.names k s.results (r ∷ []) h.knows;
      } in
      subst (λ (o : code.Outcome ℕ). Emitted lent book c k s r o true)
      (ap (λ (n : ℕ). record { answer = Ok n; state = more c r }) (sym long) ∙ sym (emit_room c r here))
      (it_is (more c r) refl stands)
  emits false e =
      let here : has_room c.results ≡ false = ap has_room h.results_are ∙ has_room-written s.results lent.results 2048
      ∙ e in
      subst (λ (o : code.Outcome ℕ). Emitted lent book c k s r o false)
      (ap (λ (p : ℕ). record { answer = Err (record { cause = Full; place = p }); state = c }) (sym h.place_is)
      ∙ sym (emit_full c r here))
      no_room

  pub emitted : Emitted lent book c k s r (code.emit r c) (nat_lt (length s.results) (limits lent).results)
  emitted = emits _ refl

  tells : (b : Bool) → nat_lt (length s.diagnostics) (limits lent).diagnostics ≡ b
      → Told lent book c k s r (code.tell r c) b
  unfolding told_more
  tells true e =
      let here : has_room c.diagnostics ≡ true = ap has_room h.diagnostics_are
      ∙ has_room-written s.diagnostics lent.diagnostics 256 ∙ e in
      let stands : Stands lent book (told_more c r) k (with_diagnostic r s) =
      record {
        book_is = h.book_is;
        place_is = h.place_is;
        results_are = h.results_are;
        diagnostics_are = ap (λ (w : Written). with_record w r) h.diagnostics_are
            ∙ with_record-written s.diagnostics lent.diagnostics 256 r;
        results_fit = h.results_fit;
        diagnostics_fit = let q : length s.diagnostics + 1 ≤ (limits lent).diagnostics = fit_more _ _ e
            in omega (arith, length-append s.diagnostics (r ∷ []));
        knows = h.knows;
      } in
      subst (λ (o : code.Outcome ℕ). Told lent book c k s r o true) (sym (tell_room c r here))
      (told c.diagnostics.count (told_more c r) stands)
  tells false e =
      let here : has_room c.diagnostics ≡ false = ap has_room h.diagnostics_are
      ∙ has_room-written s.diagnostics lent.diagnostics 256 ∙ e in
      subst (λ (o : code.Outcome ℕ). Told lent book c k s r o false)
      (ap (λ (p : ℕ). record { answer = Err (record { cause = Full; place = p }); state = c }) (sym h.place_is)
      ∙ sym (tell_full c r here))
      not_told

  pub is_told : Told lent book c k s r (code.tell r c) (nat_lt (length s.diagnostics) (limits lent).diagnostics)
  is_told = tells _ refl

  -- one more result, under its number
  pub does_emit : Does lent book (λ n m k' rs. (n ≡ length s.results) × (m ≡ length s.results) × (k' ≡ k) ×
      (rs ≡ s.results ++ r ∷ [])) (code.emit r c) (emit r) k s
  unfolding run
  does_emit = go (code.emit r c) (nat_lt (length s.results) (limits lent).results) emitted
    where
      go : (o : code.Outcome ℕ) (b : Bool) → Emitted lent book c k s r o b
          → Ends lent (Done lent book s.results (λ n m k' rs. (n ≡ length s.results) × (m ≡ length s.results) ×
          (k' ≡ k) × (rs ≡ s.results ++ r ∷ []))) o.answer o.state
          (elim b [ true ↦ finished (length s.results, k) (with_result r s) | false ↦ stopped full s.place ])
      go _ _ (it_is c₁ same st) = record {
        stands = st;
        grown = grown_more s.results (r ∷ []);
        holds =
            (refl, refl, refl, refl);
      }
      go _ _ no_room = (refl, left lent book c k s h)

  -- one more diagnostic
  pub does_tell : Does lent book (λ n u k' rs. (k' ≡ k) × (rs ≡ s.results)) (code.tell r c) (tell r) k s
  unfolding run
  does_tell = go (code.tell r c) (nat_lt (length s.diagnostics) (limits lent).diagnostics) is_told
    where
      go : (o : code.Outcome ℕ) (b : Bool) → Told lent book c k s r o b
          → Ends lent (Done lent book s.results (λ n u k' rs. (k' ≡ k) × (rs ≡ s.results))) o.answer o.state
          (elim b [ true ↦ finished (tt {0}, k) (with_diagnostic r s) | false ↦ stopped full s.place ])
      go _ _ (told n c₁ st) = record { stands = st; grown = grown_same s.results; holds = (refl, refl) }
      go _ _ not_told = (refl, left lent book c k s h)

  -- under one number here and there
  pub does_emit_same : Does lent book SameNumber (code.emit r c) (emit r) k s
  does_emit_same = does_map lent book _ SameNumber (code.emit r c) (emit r) k s (λ n m k' rs v. v.0 ∙ sym v.1) does_emit
