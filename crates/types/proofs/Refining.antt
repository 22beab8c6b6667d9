-- Steps of the code that do what steps of the definitions say. A function of the code has one lemma: `Refines` of what
-- it does and of the definition, or `Does` where it begins somewhere. Such a lemma is put together from those of its
-- parts by `does_then` (`>>=`), `does_next` (`>>`), `does_at`, `does_cond`, `does_each` (`for_each`) and the like, and
-- the parts that only write or tell by proofs/Emits.antt.
-- Assumes nothing.
use Rattle.std.proofs.Common.{◌≡◌, ℕ, ◌≤◌, Bool, true, false, cond, nat_lt, List, [], ◌∷◌, ◌++◌, refl, sym, ap, ◌∙◌}
use Rattle.std.proofs.Common.{arith, subst, append_assoc, append-nil, Result, Ok, Err}
use Rattle.std.proofs.lemmas.Bool.Decides.{nat_tests}
use Rattle.record.specs.declared.Record.{Record}
use Rattle.record.specs.declared.refusal.Refusal.{Refusal}
use Rattle.book.specs.Lists.{keep}
use Rattle.book.specs.Outline.{Book}
use Rattle.types.specs.Lowering.{resolving, and_then, State, moved, Out, finished, stopped, run}
use Rattle.types.specs.Events.{go_on}
use Rattle.types.specs.Resolved.{Names}
use Rattle.types.specs.Step.{Step, ◌>>=◌, ◌>>◌, give, at, change, for_each}
use Rattle.types.specs.Tables.{Tables}
use Rattle.types.specs.Stands.{Lent, limits, Knows, Stands, Left, Ends, Holds, Grown, Done, Does}
use Rattle.types.specs.Code as code
use Rattle.types.specs.Each.{each}
use Rattle.types.proofs.Adds.{runs_in_turn}
use Rattle.types.proofs.Run.{step_on}

-- one after the other
pub ends_next :
    {A B C D : Type 0} (lent : Lent) (V : A → code.State → B → State → Type 0) (W : C → code.State → D → State → Type 0)
    (f : A → code.State → code.Outcome C) (g : B → State → Out D) →
    ((n : A) (c : code.State) (a : B) (s : State) → V n c a s → Ends lent W (f n c).answer (f n c).state (g a s)) →
    (r : Result A Refusal) (c : code.State) (o : Out B) → Ends lent V r c o →
    Ends lent W (code.after r c f).answer (code.after r c f).state (go_on o g)
unfolding go_on
ends_next lent V W f g h (Ok n) c (finished a s) e = h n c a s e
ends_next lent V W f g h (Err x) c (stopped y p) e = e
ends_next lent V W f g h (Ok n) c (stopped y p) e = absurd e
ends_next lent V W f g h (Err x) c (finished a s) e = absurd e

-- and what holds implies something else
pub ends_map :
    {A B : Type 0} (lent : Lent) (V W : A → code.State → B → State → Type 0) →
    ((n : A) (c : code.State) (a : B) (s : State) → V n c a s → W n c a s) →
    (r : Result A Refusal) (c : code.State) (o : Out B) → Ends lent V r c o → Ends lent W r c o
ends_map lent V W f (Ok n) c (finished a s) h = f n c a s h
ends_map lent V W f (Err e) c (stopped x p) h = h
ends_map lent V W f (Ok n) c (stopped x p) h = absurd h
ends_map lent V W f (Err e) c (finished a s) h = absurd h

pub grown_same : (rs : List Record) → Grown rs rs
grown_same rs = record { more = []; is = sym (append-nil rs) }

pub grown_more : (rs xs : List Record) → Grown rs (rs ++ xs)
grown_more rs xs = record { more = xs; is = refl }

pub grown_on : (rs rs' rs'' : List Record) → Grown rs rs' → Grown rs' rs'' → Grown rs rs''
grown_on rs rs' rs'' g h =
    record {
      more = g.more ++ h.more;
      is = h.is ∙ ap (λ x. x ++ h.more) g.is ∙ append_assoc rs g.more h.more;
    }

same_after :
    {A : Type 0} (r : Result A Refusal) (c : code.State) →
    code.after r c (λ n t. code.done n t) ≡ record { answer = r; state = c }
same_after (Ok n) c = refl
same_after (Err e) c = refl

module _ (lent : Lent) (book : Book) where
  pub left : (c : code.State) (k : Names) (s : State) → Stands lent book c k s → Left lent c
  left c k s h =
      record {
        results = s.results;
        diagnostics = s.diagnostics;
        results_are = h.results_are;
        diagnostics_are = h.diagnostics_are;
        results_fit = h.results_fit;
        diagnostics_fit = h.diagnostics_fit;
      }

  -- what holds behind a step implies something else
  pub does_map :
      {A B : Type 0} (V W : Holds A B) (o : code.Outcome A) (m : Step B) (k : Names) (s : State) →
      ((n : A) (a : B) (k' : Names) (rs : List Record) → V n a k' rs → W n a k' rs) →
      Does lent book V o m k s → Does lent book W o m k s
  does_map V W o m k s f h =
      ends_map lent (Done lent book s.results V) (Done lent book s.results W)
      (λ n c a s' d. record { stands = d.stands; grown = d.grown; holds = f n a.0 a.1 s'.results d.holds })
      o.answer o.state (run (limits lent) (m k) s) h

  -- a step, and then another that its answer is given to: what is known behind the first may be used for the second
  pub does_then :
      {A B C D : Type 0} (V : Holds A B) (W : Holds C D) (o : code.Outcome A) (m : Step B)
      (f : A → code.State → code.Outcome C) (g : B → Step D) (k : Names) (s : State) →
      Does lent book V o m k s →
      ((n : A) (c : code.State) (a : B) (k' : Names) (s' : State) → Stands lent book c k' s' → Grown s.results s'.results →
      V n a k' s'.results → Does lent book W (f n c) (g a) k' s') →
      Does lent book W (code.next o f) (m >>= g) k s
  does_then {D = D} V W o m f g k s h next =
      subst (λ (x : Out (D × Names)). Ends lent (Done lent book s.results W) (code.next o f).answer (code.next o f).state x)
      (sym (runs_in_turn _ _ (limits lent) (m k) (λ x. g x.0 x.1) s))
      (ends_next lent (Done lent book s.results V) (Done lent book s.results W) f (λ x t. run (limits lent) (g x.0 x.1) t)
      (λ n c a s' d.
      ends_map lent (Done lent book s'.results W) (Done lent book s.results W)
      (λ n₁ c₁ a₁ s₁ e.
      record {
        stands = e.stands;
        grown = grown_on s.results s'.results s₁.results d.grown e.grown;
        holds = e.holds;
      })
      (f n c).answer (f n c).state (run (limits lent) (g a.0 a.1) s') (next n c a.0 a.1 s' d.stands d.grown d.holds))
      o.answer o.state (run (limits lent) (m k) s) h)

  -- the same where the first gives nothing of use
  pub does_next :
      {A B C D : Type 0} (V : Holds A B) (W : Holds C D) (o : code.Outcome A) (m : Step B)
      (f : A → code.State → code.Outcome C) (g : Step D) (k : Names) (s : State) →
      Does lent book V o m k s →
      ((n : A) (c : code.State) (a : B) (k' : Names) (s' : State) → Stands lent book c k' s' → Grown s.results s'.results →
      V n a k' s'.results → Does lent book W (f n c) g k' s') →
      Does lent book W (code.next o f) (m >> g) k s
  does_next V W o m f g k s h next = does_then V W o m f (λ a. g) k s h next

  -- an answer, and nothing else
  pub does_give :
      {A B : Type 0} (V : Holds A B) (n : A) (a : B) (c : code.State) (k : Names) (s : State) →
      Stands lent book c k s → V n a k s.results → Does lent book V (code.done n c) (give a) k s
  unfolding run
  does_give V n a c k s h v = record { stands = h; grown = grown_same s.results; holds = v }

  -- a step whose answer the definitions make something of, and the code nothing
  pub does_as :
      {A B D : Type 0} (V : Holds A B) (W : Holds A D) (o : code.Outcome A) (m : Step B) (g : B → D) (k : Names) (s : State) →
      ((n : A) (a : B) (k' : Names) (rs : List Record) → V n a k' rs → W n (g a) k' rs) →
      Does lent book V o m k s → Does lent book W o (m >>= λ a. give (g a)) k s
  does_as V W o m g k s f h =
      subst (λ (x : code.Outcome _). Does lent book W x (m >>= λ a. give (g a)) k s) (same_after o.answer o.state)
      (does_then V W o m (λ n c. code.done n c) (λ a. give (g a)) k s h
      (λ n c a k' s' st grown v. does_give W n (g a) c k' s' st (f n a k' s'.results v)))

  -- from here on record n is the declaration or item being lowered
  pub stands_moved :
      (n : ℕ) (c : code.State) (k : Names) (s : State) → Stands lent book c k s →
      Stands lent book (record c { place = n }) k (moved n s)
  stands_moved n c k s h =
      record {
        book_is = h.book_is;
        place_is = refl;
        results_are = h.results_are;
        diagnostics_are = h.diagnostics_are;
        results_fit = h.results_fit;
        diagnostics_fit = h.diagnostics_fit;
        knows = h.knows;
      }

  pub does_at :
      {A B : Type 0} (V : Holds A B) (n : ℕ) (o : code.Outcome A) (m : Step B) (k : Names) (s : State) →
      Does lent book V o m k (moved n s) → Does lent book V o (at n >> m) k s
  unfolding run and_then
  does_at V n o m k s h = h

  -- the names change, and the tables with them
  pub does_change :
      {A : Type 0} (V : Holds A (Unit {0})) (n : A) (c : code.State) (t : Tables) (f : Names → Names) (k : Names) (s : State) →
      Stands lent book c k s → Knows book t (f k) s.results → V n (tt {0}) (f k) s.results →
      Does lent book V (code.done n (record c { names = t })) (change f) k s
  unfolding run
  does_change V n c t f k s h knows v =
      record {
        stands =
            record {
              book_is = h.book_is;
              place_is = h.place_is;
              results_are = h.results_are;
              diagnostics_are = h.diagnostics_are;
              results_fit = h.results_fit;
              diagnostics_fit = h.diagnostics_fit;
              knows = knows;
            };
        grown = grown_same s.results;
        holds = v;
      }

  -- the code's book is the book
  pub does_in :
      {A B : Type 0} (V : Holds A B) (f : Book → code.Outcome A) (m : Step B) (c : code.State) (k : Names) (s : State) →
      Stands lent book c k s → Does lent book V (f book) m k s → Does lent book V (f c.book) m k s
  does_in V f m c k s h d = subst (λ (b : Book). Does lent book V (f b) m k s) (sym h.book_is) d

  -- a step at a depth within 64
  pub does_within :
      {A B : Type 0} (V : Holds A B) (depth : ℕ) → depth ≤ 64 → (o : code.Outcome A) (m : Step B) (k : Names) (s : State) →
      Does lent book V o m k s → Does lent book V o (λ k. resolving depth (m k)) k s
  does_within {B = B} V depth few o m k s h =
      let deep : nat_lt 64 depth ≡ false = grind (arith, nat_tests) in
      subst (λ (x : Out (B × Names)). Ends lent (Done lent book s.results V) o.answer o.state x)
      (sym (step_on (limits lent) s depth (m k) deep)) h

  -- one of two steps, by a test
  pub does_cond :
      {A B : Type 0} (V : Holds A B) (o : code.Outcome A) (m₁ m₂ : Step B) (k : Names) (s : State) (b : Bool) →
      (b ≡ true → Does lent book V o m₁ k s) → (b ≡ false → Does lent book V o m₂ k s) →
      Does lent book V o (cond b m₁ m₂) k s
  does_cond V o m₁ m₂ k s true x y = x refl
  does_cond V o m₁ m₂ k s false x y = y refl

-- I says what holds of the names and the results while some records are left. A record that does not pass does nothing.
module _
    {A : Type 0} (a : A) (lent : Lent) (book : Book) (f : ℕ → code.State → code.Outcome A) (m : ℕ → Step (Unit {0})) (test : ℕ → Bool)
    (I : List ℕ → Names → List Record → Type 0)
    (one : (n : ℕ) (ns : List ℕ) → test n ≡ true → (c : code.State) (k : Names) (s : State) → Stands lent book c k s →
    I (n ∷ ns) k s.results → Does lent book (λ b u k' rs. I ns k' rs) (f n c) (m n) k s)
    (none_of : (n : ℕ) → test n ≡ false → (c : code.State) (k : Names) (s : State) → Stands lent book c k s → f n c ≡ code.done a c)
  where
    abbrev Behind : Holds A (Unit {0})
    Behind b u k rs = I [] k rs

    abbrev Later : List ℕ → Type 0
    Later ns =
        (c : code.State) (k : Names) (s : State) → Stands lent book c k s → I (keep test ns) k s.results →
        Does lent book Behind (each a f ns c) (for_each m (keep test ns)) k s

    pub does_each : (ns : List ℕ) → Later ns
    unfolding each for_each keep
    does_each [] c k s h i = does_give lent book Behind a (tt {0}) c k s h i
    does_each (n ∷ ns) c k s h i = go (λ c' k' s' st i'. does_each ns c' k' s' st i') (test n) refl i
      where
        go :
            Later ns → (b : Bool) → test n ≡ b → I (cond b (n ∷ keep test ns) (keep test ns)) k s.results →
            Does lent book Behind (code.next (f n c) (λ b t. each a f ns t)) (for_each m (cond b (n ∷ keep test ns) (keep test ns))) k s
        go later true e i =
            does_next lent book (λ b u k' rs. I (keep test ns) k' rs) Behind (f n c) (m n) (λ b t. each a f ns t)
            (for_each m (keep test ns)) k s (one n (keep test ns) e c k s h i)
            (λ b c' u k' s' st grown i'. later c' k' s' st i')
        go later false e i =
            subst
            (λ (o : code.Outcome A). Does lent book Behind (code.next o (λ b t. each a f ns t)) (for_each m (keep test ns)) k s)
            (sym (none_of n e c k s h)) (later c k s h i)
