-- Causes 9 and 10, told of one thing that a lowering does and of what it does before that: all that it does as one
-- list, and the first thing there that is over a limit. The proofs are in proofs/Events.antt. Words in quotation marks
-- are rules of docs/FORMAT.md in brief.
-- Assumes nothing.
use Rattle.std.specs.Prelude.{ℕ, suc, ◌≤◌, Bool, true, false, List, [], ◌∷◌, ◌++◌, ◌↔◌, ◌≡◌, ltb, eqb, length}
use Rattle.record.specs.declared.Record.{Record}
use Rattle.types.specs.Lowering.{Lowering, done, lowering, resolving, diagnostic, result, Limits, State, and_then}
use Rattle.types.specs.Lowering.{Stop, too_deep, full, Out, finished, stopped, run}

-- one thing that a lowering does
pub data Event : Type 0 where
  lowers resolves : ℕ → Event
  tells writes : Record → Event

-- all that a lowering does, n results being there. Behind a step past 64 the list goes on with a filler that no run
-- comes to.
unfoldable pub events : {A : Type 0} → Lowering A → ℕ → List Event
events (done a) n = []
events (lowering p t) n = lowers p ∷ events t n
events (resolving d t) n = resolves d ∷ events t n
events (diagnostic r t) n = tells r ∷ events t n
events (result r k) n = writes r ∷ events (k n) (suc n)

-- what it gives in the end
unfoldable pub answer : {A : Type 0} → Lowering A → ℕ → A
answer (done a) n = a
answer (lowering p t) n = answer t n
answer (resolving d t) n = answer t n
answer (diagnostic r t) n = answer t n
answer (result r k) n = answer (k n) (suc n)

-- the result records among some events
unfoldable pub written : List Event → List Record
written [] = []
written (lowers p ∷ es) = written es
written (resolves d ∷ es) = written es
written (tells r ∷ es) = written es
written (writes r ∷ es) = r ∷ written es

-- the diagnostic records among them
unfoldable pub told : List Event → List Record
told [] = []
told (lowers p ∷ es) = told es
told (resolves d ∷ es) = told es
told (tells r ∷ es) = r ∷ told es
told (writes r ∷ es) = told es

-- the "declaration or item being lowered" behind them: the latest one, p if there is none
unfoldable pub place_after : ℕ → List Event → ℕ
place_after p [] = p
place_after p (lowers q ∷ es) = place_after q es
place_after p (resolves d ∷ es) = place_after p es
place_after p (tells r ∷ es) = place_after p es
place_after p (writes r ∷ es) = place_after p es

-- the row of a cause holds of an event, behind those before it. 9: "resolving deeper than 64". 10: "one record more
-- than a used limit", so the records before it are as many as the limit.
unfoldable pub over : Stop → Limits → List Event → Event → Bool
over too_deep most before (resolves d) = ltb 64 d
over too_deep most before (lowers p) = false
over too_deep most before (tells r) = false
over too_deep most before (writes r) = false
over full most before (resolves d) = false
over full most before (lowers p) = false
over full most before (tells r) = eqb (length (told before)) most.diagnostics
over full most before (writes r) = eqb (length (written before)) most.results

-- no row holds of any event of a list
abbrev pub Fits : Limits → List Event → Type 0
Fits most es =
    (c : Stop) (before rest : List Event) (e : Event) → es ≡ before ++ (e ∷ rest) → over c most before e ≡ true → ⊥

-- the state behind some events
abbrev pub behind : List Event → State
behind es = record { place = place_after 0 es; results = written es; diagnostics = told es }

-- behind the events b, the row of c holds of an event of the list es, at place p, and none holds of an earlier one:
-- "first met"
pub record StopsAt (most : Limits) (b es : List Event) (c : Stop) (p : ℕ) : Type 0 where
  pub before : List Event
  pub event : Event
  pub rest : List Event
  pub split : es ≡ before ++ (event ∷ rest)
  pub holds : over c most (b ++ before) event ≡ true
  pub first : Fits most (b ++ before)
  pub place : place_after 0 (b ++ before) ≡ p

-- refused by 9 or 10 at a place exactly if its row holds there first: of any lowering, behind any events that fit
abbrev pub StoppedByTheFirst : Type 1
StoppedByTheFirst =
    (A : Type 0) (most : Limits) (b : List Event) (t : Lowering A) (c : Stop) (p : ℕ) →
    Fits most b → (run most t (behind b) ≡ stopped c p) ↔ StopsAt most b (events t (length (written b))) c p

-- finished exactly if no row holds, with what the events write and tell
abbrev pub FinishedIfAllFit : Type 1
FinishedIfAllFit =
    (A : Type 0) (most : Limits) (b : List Event) (t : Lowering A) (a : A) (s : State) →
    Fits most b →
    (run most t (behind b) ≡ finished a s) ↔ (
    Fits most (b ++ events t (length (written b)))
    × (answer t (length (written b)) ≡ a)
    × (s ≡ behind (b ++ events t (length (written b))))
    )

-- What a lowering adds, from any state on: the records that its events write and tell, behind those that are there, and
-- within the limits
pub record Adds {A : Type 0} (most : Limits) (t : Lowering A) (s : State) (a : A) (s' : State) : Type 0 where
  pub gives : answer t (length s.results) ≡ a
  pub place : s'.place ≡ place_after s.place (events t (length s.results))
  pub results : s'.results ≡ s.results ++ written (events t (length s.results))
  pub diagnostics : s'.diagnostics ≡ s.diagnostics ++ told (events t (length s.results))
  pub results_within : length s.results ≤ most.results → length s'.results ≤ most.results
  pub diagnostics_within : length s.diagnostics ≤ most.diagnostics → length s'.diagnostics ≤ most.diagnostics

-- every lowering that finishes does
abbrev pub FinishedAdds : Type 1
FinishedAdds =
    (A : Type 0) (most : Limits) (t : Lowering A) (s : State) (a : A) (s' : State) →
    run most t s ≡ finished a s' → Adds most t s a s'

-- one lowering after the other, under limits: a refusal of the first is one of both
unfoldable pub go_on : {A B : Type 0} → Out A → (A → State → Out B) → Out B
go_on (finished a s) f = f a s
go_on (stopped c p) f = stopped c p

-- to run one after the other is to go on from where the first ended
abbrev pub RunsInTurn : Type 1
RunsInTurn =
    (A B : Type 0) (most : Limits) (t : Lowering A) (f : A → Lowering B) (s : State) →
    run most (and_then t f) s ≡ go_on (run most t s) (λ a s'. run most (f a) s')
