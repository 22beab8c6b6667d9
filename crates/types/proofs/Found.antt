-- What a name is found to be is within its widths, if the names are sound, and they stay so with one more.
-- Assumes nothing.
use Prim.Native.Nat.{ℕ, suc, ◌^◌, ◌<◌}
use mathlib.Core.Bool.{Bool, true, false, ◌&&◌}
use mathlib.Core.List.{List, [], ◌∷◌}
use mathlib.Core.Option.{Option, some, none, map}
use native.Mathlib.Omega.{arith}
use lib.Dec.{eqb, lit<}
use lib.ListN.{length-append}
use Rattle.book.specs.Lists.{All, find}
use Rattle.book.specs.Outline.{Book}
use Rattle.book.proofs.Lists.{If, all_append, if-find}
use Rattle.types.specs.Resolved.{ResolvedType, named, Names, entry, own_number, alias_of, pair_number, lookup}
use Rattle.types.specs.Resolved.{with_stub, with_pair, with_alias}
use Rattle.types.specs.Resolve.{only_if, Found, type, stub, unresolved, first_of, is_declared, is_ambiguous, find_name, find_qualified}
use Rattle.types.proofs.Steps.{Sized, Sound}

abbrev pub SizedFound : Found → Type 0
SizedFound (type t) = Sized t
SizedFound stub = Unit
SizedFound (unresolved m) = m < 2 ^ 8

-- of what may be there
if-map : {A B : Type 0} (P : B → Type 0) (f : A → B) (o : Option A) → If (λ a. P (f a)) o → If P (map f o)
if-map P f none h = tt
if-map P f (some a) h = h

if_only : {A : Type 0} (P : A → Type 0) (b : Bool) (o : Option A) → If P o → If P (only_if b o)
if_only P true o h = h
if_only P false o h = tt

pub if-entry : {A : Type 0} (P : A → Type 0) (n : ℕ) (l : List (ℕ × A)) → All (λ x. P x.1) l → If P (entry n l)
unfolding entry
if-entry P n l h = if-map P (λ x. x.1) (find (λ x. eqb x.0 n) l) (if-find (λ x. P x.1) (λ x. eqb x.0 n) l h)

first_of_lem : {A : Type 0} (P : A → Type 0) (os : List (Option A)) (d : A) → All (If P) os → P d → P (first_of os d)
unfolding first_of
first_of_lem P [] d h q = q
first_of_lem P (some x ∷ os) d h q = h.0
first_of_lem P (none ∷ os) d h q = first_of_lem P os d h.1 q

-- a name, and a qualified one
pub sized_name : (book : Book) (n : ℕ) (s : Names) (k : ℕ) → Sound s k → SizedFound (find_name book n s)
unfolding find_name own_number alias_of
sized_name book n s k g =
    first_of_lem SizedFound _ (unresolved 1) (
      if-map SizedFound type (alias_of s n) (if-entry Sized n s.aliases g.aliases),
      (
        if_only SizedFound (is_declared book n) (map (λ m. type (named m)) (own_number s n)) own,
        (
          if_only SizedFound (is_ambiguous book n) (some (unresolved 0)) (lit< tt),
          (
            own,
            (if_only SizedFound book.wildcards (some stub) tt, tt),
          ),
        ),
      ),
    )
    (lit< tt)
  where
    own : If SizedFound (map (λ m. type (named m)) (own_number s n))
    own = if-map SizedFound (λ m. type (named m)) (own_number s n) (if-entry (λ m. m < 2 ^ 64) n s.numbers g.numbers)

pub sized_qualified : (space n : ℕ) (s : Names) (k : ℕ) → Sound s k → SizedFound (find_qualified space n s)
unfolding find_qualified pair_number
sized_qualified space n s k g =
    first_of_lem SizedFound _ (unresolved 2) (
      if-map SizedFound (λ m. type (named m)) (pair_number s space n)
          (if-map (λ m. m < 2 ^ 64) (λ x. x.1) (find at_pair s.pairs) (if-find (λ x. x.1 < 2 ^ 64) at_pair s.pairs g.pairs)),
      (if-map SizedFound (λ m. stub) (lookup s space) (if_any (lookup s space)), tt),
    )
    (lit< tt)
  where
    at_pair : (ℕ × ℕ) × ℕ → Bool
    at_pair x = eqb x.0.0 space && eqb x.0.1 n

    if_any : (o : Option ℕ) → If (λ m. Unit) o
    if_any none = tt
    if_any (some m) = tt

-- one more number is given: its own result is the next
pub stub_sound : (n : ℕ) (s : Names) (k : ℕ) → k < 2 ^ 16 → Sound s k → Sound (with_stub n s) (suc k)
unfolding with_stub
stub_sound n s k below g =
    record {
      next = omega arith;
      numbers = all_append (λ x. x.1 < 2 ^ 64) s.numbers _ g.numbers (omega arith);
      pairs = g.pairs;
      aliases = g.aliases;
      counted = omega (arith, g.counted, length-append s.numbers ((n, s.next) ∷ []));
    }

pub pair_sound : (space n : ℕ) (s : Names) (k : ℕ) → k < 2 ^ 16 → Sound s k → Sound (with_pair space n s) (suc k)
unfolding with_pair
pair_sound space n s k below g =
    record {
      next = omega arith;
      numbers = g.numbers;
      pairs = all_append (λ x. x.1 < 2 ^ 64) s.pairs _ g.pairs (omega arith);
      aliases = g.aliases;
      counted = omega (arith, g.counted, length-append s.pairs (((space, n), s.next) ∷ []));
    }

pub alias_sound : (n : ℕ) (t : ResolvedType) (s : Names) (k : ℕ) → Sized t → Sound s k → Sound (with_alias n t s) k
unfolding with_alias
alias_sound n t s k h g =
    record {
      next = g.next;
      numbers = g.numbers;
      pairs = g.pairs;
      aliases = all_append (λ x. Sized x.1) s.aliases _ g.aliases (h, tt);
      counted = g.counted;
    }
