-- A type that is resolved has written its own records and no others, and its root is the last of them.
-- Assumes nothing.
use Rattle.std.proofs.Common.{◌≡◌, ℕ, zero, suc, ◌+◌, Bool, true, false, List, [], ◌∷◌, ◌++◌, length, nat_lt}
use Rattle.std.proofs.Common.{refl, sym, ap, ◌∙◌, arith, subst, append_assoc, append-nil, length-append}
use Rattle.record.specs.declared.Record.{Record}
use Rattle.record.specs.declared.Span.{Span}
use Rattle.book.specs.Outline.{Book, ◌!◌}
use Rattle.types.specs.Lowering.{Lowering, resolving, and_then, Limits, State, with_diagnostic}
use Rattle.types.specs.Lowering.{Stop, too_deep, full, Out, finished, stopped, run}
use Rattle.types.specs.Events.{go_on}
use Rattle.types.specs.Resolved.{ResolvedType, named, Names, POISON, with_stub, with_pair}
use Rattle.types.specs.Step.{Resolved, bare, whole, over_one, over_two, poison}
use Rattle.types.specs.Records.{below, type_records, StandsAt}
use Rattle.types.specs.Resolve.{TypeExpr, plain, name, qualified, generic, one, two, type_expr}
use Rattle.types.specs.Resolve.{Found, type, stub, unresolved, find_name, resolve_name}
use Rattle.types.specs.Resolve.{find_qualified, resolve_qualified, Head, alias, no_alias, no_number, find_head}
use Rattle.types.specs.Resolve.{Substitution, Resolver, resolve_by, is_parameter, beyond}
use Rattle.types.specs.Resolve.{resolve_type_expr, resolve_type_expr_with_substitution}
use Rattle.types.specs.Rooted.{Rooted, ResolvedIsWritten, ResolvedStands}
use Rattle.types.proofs.Adds.{runs_in_turn}
use Rattle.types.proofs.TypeRecords.{type_has_records}
use Rattle.types.proofs.Runs.{in_room, with_results, run-whole}
use Rattle.types.proofs.Placed.{standing}

-- so many results are there then
rooted_count : {s s' : State} {t : Resolved} → Rooted s t s' → length s'.results ≡ suc (length s.results + below t.type)
rooted_count {s} {s'} {t} w =
    let n : ℕ = length s.results in
    let long : length (type_records n t.type) ≡ suc (below t.type) = type_has_records n t.type in
    ap (λ (x : List Record). length x) w.results_are ∙ length-append s.results (type_records n t.type) ∙ omega arith

-- how resolving ends: with its records written, or refused
data Wrote (s : State) : Out (Resolved × Names) → Type 0 where
  ended : {x : Resolved × Names} {s' : State} → Rooted s x.0 s' → Wrote s (finished x s')
  refused : {c : Stop} {p : ℕ} → Wrote s (stopped c p)

-- where it is finished, they are written
wrote-rooted : {s s' : State} {x : Resolved × Names} → Wrote s (finished x s') → Rooted s x.0 s'
wrote-rooted (ended w) = w

-- one after the other
wrote_then :
    {s s₀ : State} {o : Out (Resolved × Names)} (f : Resolved × Names → State → Out (Resolved × Names)) →
    Wrote s o → ((x : Resolved × Names) (s' : State) → Rooted s x.0 s' → Wrote s₀ (f x s')) → Wrote s₀ (go_on o f)
unfolding go_on
wrote_then f (ended w) h = h _ _ w
wrote_then f refused h = refused

-- a record, if there is room
wrote_either : {s : State} (b : Bool) {o : Out (Resolved × Names)} (p : ℕ) → Wrote s o
    → Wrote s (elim b [ true ↦ o | false ↦ stopped full p ])
wrote_either true p w = w
wrote_either false p w = refused

-- all records of a type, if there is room
wrote_room : (s : State) (b : Bool) (x : Resolved × Names) (s' : State) (p : ℕ) → Rooted s x.0 s'
    → Wrote s (in_room b x s' p)
wrote_room s true x s' p w = ended w
wrote_room s false x s' p w = refused

-- a step, if it is not too deep
wrote_step : {s : State} (b : Bool) {o : Out (Resolved × Names)} (p : ℕ) → Wrote s o
    → Wrote s (elim b [ true ↦ stopped too_deep p | false ↦ o ])
wrote_step true p w = refused
wrote_step false p w = w

module _ (most : Limits) where
  -- a type as a whole
  wrote-whole : (t : ResolvedType) (k : Names) (s₀ s : State) → s.results ≡ s₀.results
      → Wrote s₀ (run most (whole t k) s)
  wrote-whole t k s₀ s e =
      rw (run-whole t most k s)
      (wrote_room s₀ _ _ (with_results s (type_records (length s.results) t)) s.place
      (record {
        results_are = ap (λ (x : List Record). x ++ type_records (length x) t) e;
        root_is = ap (λ (x : List Record). length x + below t) e;
      }))

  -- a message, and poison
  wrote-poison : (m a b class : ℕ) (span : Span) (k : Names) (s : State)
      → Wrote s (run most (poison m a b class span k) s)
  unfolding poison run and_then
  wrote-poison m a b class span k s =
      wrote_either (nat_lt (length s.diagnostics) most.diagnostics) s.place
      (wrote-whole (named POISON) k s (with_diagnostic _ s) refl)

  -- a type over a child that is written
  wrote-over_one : (p size : ℕ) (t : Resolved) (k : Names) (s s' : State) → Rooted s t s'
      → Wrote s (run most (over_one p size t k) s')
  unfolding over_one run and_then type_records below
  wrote-over_one p size t k s s' w =
      let n : ℕ = length s.results in
      let l : List Record = type_records n t.type in
      let count : length s'.results ≡ suc (n + below t.type) = rooted_count w in
      wrote_either (nat_lt (length s'.results) most.results) s'.place
      (ended (record {
        results_are =
            (λ i. w.results_are i ++ (bare 7 p (w.root_is i) 0 0 size ∷ [])) ∙ append_assoc s.results l _;
        root_is = omega arith;
      }))

  -- and over two
  wrote-over_two :
      (p : ℕ) (l r : Resolved) (k : Names) (s s₁ s₂ : State) → Rooted s l s₁ → Rooted s₁ r s₂ →
      Wrote s (run most (over_two p l r k) s₂)
  unfolding over_two run and_then type_records below
  wrote-over_two p l r k s s₁ s₂ w v =
      let n : ℕ = length s.results in
      let count : length s₁.results ≡ suc (n + below l.type) = rooted_count w in
      let more : length s₂.results ≡ suc (length s₁.results + below r.type) = rooted_count v in
      wrote_either (nat_lt (length s₂.results) most.results) s₂.place
      (ended (record {
        results_are =
            (λ i. v.results_are i ++ (bare 8 p (w.root_is i) (v.root_is i) 0 0 ∷ []))
            ∙ (λ i. (w.results_are i ++ type_records (count i) r.type)
            ++ (bare 8 p (n + below l.type) (count i + below r.type) 0 0 ∷ []))
            ∙ simp append_assoc;
        root_is = omega arith;
      }))

  -- names
  wrote_name : (book : Book) (n : ℕ) (span : Span) (k : Names) (s : State)
      → Wrote s (run most (resolve_name book n span k) s)
  unfolding resolve_name
  wrote_name book n span k s = go (find_name book n k) refl
    where
      go : (f : Found) → find_name book n k ≡ f → Wrote s (run most (resolve_name book n span k) s)
      go (type t) e = rw e (wrote-whole t k s s refl)
      go stub e = rw e (wrote-whole (named k.next) (with_stub n k) s s refl)
      go (unresolved m) e = rw e (wrote-poison m n 0 0 span k s)

  -- qualified names
  wrote_qualified : (space n : ℕ) (span : Span) (k : Names) (s : State)
      → Wrote s (run most (resolve_qualified space n span k) s)
  unfolding resolve_qualified
  wrote_qualified space n span k s = go (find_qualified space n k) refl
    where
      go : (f : Found) → find_qualified space n k ≡ f → Wrote s (run most (resolve_qualified space n span k) s)
      go (type t) e = rw e (wrote-whole t k s s refl)
      go stub e = rw e (wrote-whole (named k.next) (with_pair space n k) s s refl)
      go (unresolved m) e = rw e (wrote-poison m space n 0 span k s)

  -- a resolver, at any record, with any span
  abbrev Well : Resolver → Type 0
  Well m = (n : ℕ) (span : Span) (k : Names) (s : State) → Wrote s (run most (m n span k) s)

  -- one record, given what is done with a child and with a generic's target
  wrote_by :
      (book : Book) (child : Resolver) (target : Substitution → Resolver) (unknown : ℕ) →
      Well child → ((sub : Substitution) → Well (target sub)) →
      (e : TypeExpr) (span : Span) (k : Names) (s : State) →
      Wrote s (run most (resolve_by book child target unknown e span k) s)
  unfolding resolve_by
  wrote_by book child target unknown c t (plain x) span k s = wrote-whole x k s s refl
  wrote_by book child target unknown c t (name n) span k s = wrote_name book n span k s
  wrote_by book child target unknown c t (qualified space n) span k s = wrote_qualified space n span k s
  wrote_by book child target unknown c t (generic n argument) span k s = go (find_head book n k) refl
    where
      go : (f : Head) → find_head book n k ≡ f
          → Wrote s (run most (resolve_by book child target unknown (generic n argument) span k) s)
      go (alias g) e = rw e (t _ g.target span k s)
      go no_alias e = rw e (wrote-poison 3 n 0 1 span k s)
      go no_number e = rw e (wrote-poison unknown n 0 0 span k s)
  wrote_by book child target unknown c t (one p size a) span k s =
      rw (runs_in_turn _ _ most (child a (book ! a).span k) (λ x. over_one p size x.0 x.1) s)
      (wrote_then _ (c a (book ! a).span k s) (λ x s' w. wrote-over_one p size x.0 x.1 s s' w))
  wrote_by book child target unknown c t (two p a b) span k s =
      rw (runs_in_turn _ _ most (child a (book ! a).span k)
      (λ x. and_then (child b (book ! b).span x.1) (λ y. over_two p x.0 y.0 y.1)) s)
      (wrote_then _ (c a (book ! a).span k s) (λ x s₁ w.
      rw (runs_in_turn _ _ most (child b (book ! b).span x.1) (λ y. over_two p x.0 y.0 y.1) s₁)
      (wrote_then _ (c b (book ! b).span x.1 s₁) (λ y s₂ v. wrote-over_two p x.0 y.0 y.1 s s₁ s₂ w v))))

  -- one step, and one of two
  wrote-resolving : (d : ℕ) (m : Lowering (Resolved × Names)) (s : State) → Wrote s (run most m s)
      → Wrote s (run most (resolving d m) s)
  unfolding run
  wrote-resolving d m s w = wrote_step (nat_lt 64 d) s.place w

  wrote_choice : (b : Bool) (m₁ m₂ : Lowering (Resolved × Names)) (s : State) → Wrote s (run most m₁ s)
      → Wrote s (run most m₂ s) → Wrote s (run most (elim b [ true ↦ m₁ | false ↦ m₂ ]) s)
  wrote_choice true m₁ m₂ s v w = v
  wrote_choice false m₁ m₂ s v w = w

  -- the step that is too deep
  wrote_beyond : (k : Names) (s : State) → Wrote s (run most (beyond k) s)
  unfolding run
  wrote_beyond k s = refused

  -- both resolvers, by the steps that are left
  module _ (book : Book) where
    mutual
      unfolding resolve_type_expr

      wrote_expr : (left : ℕ) → Well (resolve_type_expr left book)
      wrote_expr zero n span k s = wrote_beyond k s
      wrote_expr (suc left) n span k s =
          wrote-resolving _ _ s
          (wrote_by book _ _ 4 (λ a z k s. wrote_expr left a z k s) (λ sub a z k s. wrote_inside left sub a z k s)
          (type_expr (book ! n)) span k s)

      wrote_inside : (left : ℕ) (sub : Substitution) → Well (resolve_type_expr_with_substitution left book sub)
      wrote_inside zero sub n span k s = wrote_beyond k s
      wrote_inside (suc left) sub n span k s =
          wrote-resolving _ _ s
          (wrote_choice (is_parameter sub (type_expr (book ! n))) _ _ s (wrote_expr left sub.argument span k s)
          (wrote_by book _ _ 1 (λ a z k s. wrote_inside left sub a z k s)
          (λ new a z k s. wrote_inside left new a z k s) (type_expr (book ! n)) span k s))

-- a type that is resolved has written its records
pub resolved_written : ResolvedIsWritten
resolved_written most left book n span k s t k' s' e = wrote-rooted (rw e at (wrote_expr most book left n span k s))

-- and its records stand among the results
pub resolved_stands : ResolvedStands
resolved_stands most left book n span k s t k' s' e =
    let w : Rooted s t s' = resolved_written most left book n span k s t k' s' e in
    let l : List Record = type_records (length s.results) t.type in
    subst (λ (i : ℕ). StandsAt s'.results (length s.results) i t.type) (sym w.root_is)
    (standing s'.results s.results [] (length s.results) t.type
    (w.results_are ∙ ap (λ (x : List Record). s.results ++ x) (sym (append-nil l))) refl)
