-- How the code's tables and slices stand for the names and the state of a lowering, and its steps for the steps of the
-- definitions.
-- Assumes nothing.
use Rattle.std.specs.Prelude.{◌≡◌, ℕ, ◌+◌, ◌≤◌, ◌<◌, Bool, true, false, not, ◌&&◌, eqb, List, ◌++◌, length, map, nat_lt}
use Rattle.std.specs.Prelude.{Option, Some, None, Result, Ok, Err}
use Rattle.std.proofs.Math.Option.{Option as Maybe, some, none}
use Rattle.record.specs.declared.Record.{Record}
use Rattle.record.specs.declared.type_id.TypeId.{TypeId}
use Rattle.record.specs.declared.refusal.Refusal.{Refusal}
use Rattle.record.specs.declared.refusal.Cause.{Cause}
use Rattle.record.specs.declared.refusal.Cause.TheVariants.{TooDeep, Full}
use Rattle.record.specs.Written.{written}
use Rattle.book.specs.Lists.{any, keep}
use Rattle.book.specs.Faults.{is_kind}
use Rattle.book.specs.Outline.{Book, ◌!◌}
use Rattle.types.specs.declared.names.Place.{Place}
use Rattle.types.specs.declared.names.Pair.{Pair}
use Rattle.types.specs.declared.names.Generic as generics
use Rattle.types.specs.Lowering.{Limits, used_limits, State, Stop, too_deep, full, Out, finished, stopped, run}
use Rattle.types.specs.Resolved.{ResolvedType, Names, own_number, alias_of, entry}
use Rattle.types.specs.Step.{Step, Resolved}
use Rattle.types.specs.Numbers.{Generic, generics as generics_of}
use Rattle.types.specs.Records.{below, type_records, StandsAt}
use Rattle.types.specs.Resolve.{is_declared, is_ambiguous}
use Rattle.types.specs.Tables.{Tables, number_in, alias_in, is_marked, generic_in}
use Rattle.types.specs.Code as code

-- an option of the code as one of the definitions
abbrev pub option_of : {A B : Type 0} → (A → B) → Option A → Maybe B
option_of f None = none
option_of f (Some a) = some (f a)

-- the slices as they were lent
pub record Lent : Type 0 where
  pub results : List ℕ
  pub diagnostics : List ℕ

abbrev pub limits : Lent → Limits
limits lent = used_limits lent.results lent.diagnostics

-- a plain alias, as the code has it: where its records stand
abbrev pub IsAlias : List Record → Option Place → Maybe ResolvedType → Type 0
IsAlias rs None none = Unit {0}
IsAlias rs (Some p) (some t) = StandsAt rs p.first p.root t
IsAlias rs None (some t) = ⊥
IsAlias rs (Some p) none = ⊥

abbrev pub below_types : ℕ → Maybe ℕ → Bool
below_types types none = false
below_types types (some n) = nat_lt n types

abbrev pub pair_of : Pair → (ℕ × ℕ) × ℕ
pair_of p = ((p.space, p.name), p.number.0)

abbrev pub generic_of : generics.Generic → Generic
generic_of g = record { parameter = g.parameter; target = g.target }

-- the record is a qualified name with none of some pairs
abbrev pub is_unmet : List ((ℕ × ℕ) × ℕ) → Record → Bool
is_unmet ps r = is_kind 5 r && not (any (λ p. eqb p.0.0 r.a && eqb p.0.1 r.b) ps)

-- the tables stand for the names, the results rs being there
pub record Knows (book : Book) (c : Tables) (k : Names) (rs : List Record) : Type 0 where
  pub numbers_long : length c.numbers ≡ c.bound
  pub aliases_long : length c.aliases ≡ c.bound
  pub next_is : c.next ≡ k.next
  pub next_few : k.next ≤ 1344 + length rs
  pub types_few : c.types ≤ k.next
  pub numbers_are : (n : ℕ) → option_of (λ (i : TypeId). i.0) (number_in c n) ≡ own_number k n
  pub declared_are : (n : ℕ) → is_declared book n ≡ below_types c.types (own_number k n)
  pub ambiguous_are : (n : ℕ) → is_marked c n ≡ is_ambiguous book n
  pub generics_are : (m : ℕ) → option_of generic_of (generic_in c m) ≡ entry m (generics_of book)
  -- there is room for a pair more at each record that none is met at
  pub pairs_room : length c.pairs + length (keep (is_unmet k.pairs) book.records) ≤ c.room
  pub pairs_are : map pair_of c.pairs ≡ k.pairs
  pub aliases_are : (n : ℕ) → IsAlias rs (alias_in c n) (alias_of k n)
  pub uses_below : (m : ℕ) → is_kind 4 (book ! m) ≡ true → (book ! m).a < c.bound
  pub alias_names_below : (m : ℕ) → is_kind 23 (book ! m) ≡ true → (book ! m).a < c.bound

-- the code's state stands for the names and the state of a lowering
pub record Stands (lent : Lent) (book : Book) (c : code.State) (k : Names) (s : State) : Type 0 where
  pub book_is : c.book ≡ book
  pub place_is : c.place ≡ s.place
  pub results_are : c.results ≡ written s.results lent.results 2048
  pub diagnostics_are : c.diagnostics ≡ written s.diagnostics lent.diagnostics 256
  pub results_fit : length s.results ≤ (limits lent).results
  pub diagnostics_fit : length s.diagnostics ≤ (limits lent).diagnostics
  pub knows : Knows book c.names k s.results

-- behind a refusal the slices hold some records, and what is past them is as lent
pub record Left (lent : Lent) (c : code.State) : Type 0 where
  pub results : List Record
  pub diagnostics : List Record
  pub results_are : c.results ≡ written results lent.results 2048
  pub diagnostics_are : c.diagnostics ≡ written diagnostics lent.diagnostics 256
  pub results_fit : length results ≤ (limits lent).results
  pub diagnostics_fit : length diagnostics ≤ (limits lent).diagnostics

-- causes 9 and 10, as the code names them
abbrev pub cause_of : Stop → Cause
cause_of too_deep = TooDeep
cause_of full = Full

-- an answer and the state behind it stand for how a lowering ends, V saying what holds where it is finished
abbrev pub Ends : {A B : Type 0} → Lent → (A → code.State → B → State → Type 0) → Result A Refusal → code.State → Out B
    → Type 0
Ends lent V (Ok n) c (finished a s) = V n c a s
Ends lent V (Err e) c (stopped x p) = (e ≡ record { cause = cause_of x; place = p }) × Left lent c
Ends lent V (Ok n) c (stopped x p) = ⊥
Ends lent V (Err e) c (finished a s) = ⊥

-- what may hold of the answers of two steps, the code's and the definitions', and of the names and the results behind
-- them
abbrev pub Holds : Type 0 → Type 0 → Type 1
Holds A B = A → B → Names → List Record → Type 0

-- what was written is still there
pub record Grown (rs rs' : List Record) : Type 0 where
  pub more : List Record
  pub is : rs' ≡ rs ++ more

-- A step is done that began with the results rs: the state stands for the names and the state behind it, and V holds of
-- the answers, the names and the results
pub record Done
    {A B : Type 0} (lent : Lent) (book : Book) (rs : List Record) (V : Holds A B) (n : A) (c : code.State) (a : B × Names) (s : State) :
    Type 0 where
  pub stands : Stands lent book c a.1 s
  pub grown : Grown rs s.results
  pub holds : V n a.0 a.1 s.results

-- from names and a state on, an outcome stands for how a step ends
abbrev pub Does : {A B : Type 0} → Lent → Book → Holds A B → code.Outcome A → Step B → Names → State → Type 0
Does lent book V o m k s = Ends lent (Done lent book s.results V) o.answer o.state (run (limits lent) (m k) s)

-- a step of the code does what a step of the definitions says, wherever it begins
abbrev pub Refines : {A B : Type 0} → Book → Holds A B → (code.State → code.Outcome A) → Step B → Type 0
Refines book V f m =
    (lent : Lent) (c : code.State) (k : Names) (s : State) → Stands lent book c k s → Does lent book V (f c) m k s

-- what may hold of the answers of two steps: nothing more; or that they are one number
abbrev pub Always : {A B : Type 0} → Holds A B
Always n a k rs = Unit {0}

abbrev pub SameNumber : Holds ℕ ℕ
SameNumber n m k rs = n ≡ m

-- a type was resolved behind the results rs: its root, and its records behind them; no alias is lowered by that
pub record Roots (k : Names) (rs : List Record) (n : ℕ) (t : Resolved) (k' : Names) (rs' : List Record) : Type 0 where
  pub root_is : n ≡ t.root
  pub root_at : t.root ≡ length rs + below t.type
  pub adds : rs' ≡ rs ++ type_records (length rs) t.type
  pub aliases_same : k'.aliases ≡ k.aliases

-- an outcome stands for how resolving a type ends
abbrev pub Resolves : Lent → Book → code.Outcome ℕ → Step Resolved → Names → State → Type 0
Resolves lent book o m k s = Does lent book (Roots k s.results) o m k s
