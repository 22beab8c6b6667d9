-- What names, pairs and heads are found to be.
-- Assumes nothing.
use Rattle.std.proofs.Math.Bool.{and_comm}
use Rattle.std.proofs.Common.{◌≡◌, ℕ, Bool, true, false, ◌&&◌, cond, List, [], ◌∷◌, nat_lt, refl, sym, ap, ◌∙◌}
use Rattle.std.proofs.Common.{subst, Some, None, Option}
use Rattle.std.specs.Prelude.{slice_get, option_map, find as std_find, ◌==◌, eqb, if◌then◌else◌}
use Rattle.std.specs.Prelude as prelude
use mathlib.Core.Option.{Option as Maybe, some, none, map, or_else}
use Rattle.record.specs.declared.Record.{Record}
use Rattle.record.specs.declared.type_id.TypeId.{TypeId}
use Rattle.record.specs.Kind.{kind_from}
use Rattle.record.specs.Written.{Written, read_at}
use Rattle.book.specs.Lists.{find}
use Rattle.book.specs.Outline.{Book}
use Rattle.types.specs.declared.names.Place.{Place}
use Rattle.types.specs.declared.names.Pair.{Pair}
use Rattle.types.specs.declared.names.Generic as generics
use Rattle.types.specs.declared.lowering.Found as founds
use Rattle.types.specs.declared.lowering.Found.TheVariants.{Alias, Known, Stub, Unresolved}
use Rattle.types.specs.declared.diagnostic.Message.TheVariants as messages
use Rattle.types.specs.declared.lowering.Head as heads
use Rattle.types.specs.declared.lowering.Head.TheVariants as head
use Rattle.types.specs.Lowering.{State}
use Rattle.types.specs.Resolved.{ResolvedType, primitive, sub_byte, semantic, named, one_child, two_children}
use Rattle.types.specs.Resolved.{inline_bits, Names, own_number, alias_of, as_number, lookup, pair_number, entry}
use Rattle.types.specs.Numbers.{Generic, generics as generics_of}
use Rattle.types.specs.Resolve.{Found, type, stub, unresolved, first_of, only_if, is_declared, is_ambiguous, find_name}
use Rattle.types.specs.Resolve.{Head, alias, no_alias, no_number, find_head}
use Rattle.types.specs.Records.{StandsAt}
use Rattle.types.specs.Tables.{number_in, alias_in, is_marked, pair_in, generic_in}
use Rattle.types.specs.Stands.{option_of, Lent, Stands, IsAlias, below_types, pair_of, generic_of}
use Rattle.types.specs.Code as code
use Rattle.types.proofs.TypeRecords.{root_record}
use Rattle.types.proofs.Placed.{root_there}

abbrev own : Option TypeId → Maybe ℕ
own o = option_of (λ (i : TypeId). i.0) o

abbrev seen : Option ℕ → Maybe ℕ
seen o = option_of (λ (i : ℕ). i) o

root_number : (n : ℕ) (t : ResolvedType) → seen (code.number_at (Some (root_record n t))) ≡ as_number (some t)
unfolding as_number root_record kind_from
root_number n (primitive p) = refl
root_number n (sub_byte p bits) = refl
root_number n (semantic p) = refl
root_number n (named k) = refl
root_number n (one_child p size t) = refl
root_number n (two_children p l r) = refl
root_number n (inline_bits k) = refl

module _ (lent : Lent) (book : Book) (c : code.State) (k : Names) (s : State) (h : Stands lent book c k s) where
  alias_number : (p : Option Place) (t : Maybe ResolvedType) → IsAlias s.results p t
      → seen (code.alias_number p c) ≡ as_number t
  unfolding as_number read_at
  alias_number None none a = refl
  alias_number (Some p) (some t) a =
      ap (λ (o : Option Record). seen (code.number_at o))
      (ap (λ (w : Written). slice_get w.records p.root) h.results_are ∙ root_there s.results p.first p.root t a)
      ∙ root_number p.first t
  alias_number None (some t) a = absurd a
  alias_number (Some p) none a = absurd a

  looked : (n : ℕ) (o : Option TypeId) → seen (code.or_alias o n c) ≡ or_else (own o) (as_number (alias_of k n))
  unfolding or_else
  looked n (Some m) = refl
  looked n None = alias_number (alias_in c.names n) (alias_of k n) (h.knows.aliases_are n)

  pub look_up : (n : ℕ) → seen (code.look_up n c) ≡ lookup k n
  unfolding lookup
  look_up n = looked n (number_in c.names n) ∙ ap (λ (o : Maybe ℕ). or_else o (as_number (alias_of k n)))
      (h.knows.numbers_are n)

  pub pairs_same : (space name : ℕ) → own (pair_in c.names space name) ≡ pair_number k space name
  unfolding find pair_number
  pairs_same space name = among c.names.pairs
      ∙ ap (λ (l : List ((ℕ × ℕ) × ℕ)). map (λ x. x.1) (find
      (λ x. eqb x.0.0 space && eqb x.0.1 name) l)) h.knows.pairs_are
    where
      either : (b : Bool) (p : Pair) (o : Option Pair) (q : Maybe ((ℕ × ℕ) × ℕ))
          → own (option_map (λ (p : Pair). p.number) o) ≡ map (λ (x : (ℕ × ℕ) × ℕ). x.1) q
          → own (option_map (λ (p : Pair). p.number) (cond b (Some p) o))
          ≡ map (λ (x : (ℕ × ℕ) × ℕ). x.1) (elim b [ true ↦ some (pair_of p) | false ↦ q ])
      either true p o q e = refl
      either false p o q e = e

      among : (l : List Pair) → own (option_map (λ p. p.number) (std_find (λ p. p.name == name && p.space == space) l))
          ≡ map (λ x. x.1) (find (λ x. eqb x.0.0 space && eqb x.0.1 name) (prelude.map pair_of l))
      among [] = refl
      among (p ∷ l) =
          either (p.name == name && p.space == space) p _ _ (among l)
          ∙ ap (λ (b : Bool). map (λ (x : (ℕ × ℕ) × ℕ). x.1) (elim b [
            | true ↦ some (pair_of p)
            | false ↦ find
                (λ x. eqb x.0.0 space && eqb x.0.1 name) (prelude.map pair_of l)
          ])) (and_comm (p.name == name) (p.space == space))

-- what a name is found to be, here and there
pub data SameFound (rs : List Record) : founds.Found → Found → Type 0 where
  an_alias : (p : Place) (t : ResolvedType) → StandsAt rs p.first p.root t → SameFound rs (Alias p) (type t)
  a_number : (n : TypeId) → SameFound rs (Known n) (type (named n.0))
  a_stub : SameFound rs Stub stub
  an_ambiguous : SameFound rs (Unresolved messages.Ambiguous) (unresolved 0)
  an_unknown : SameFound rs (Unresolved messages.Unresolved) (unresolved 1)

-- a type number as what is found
abbrev pub numbered : Maybe ℕ → Maybe Found
numbered o = map (λ n. type (named n)) o

-- what a name is found to be that is no plain alias: by its number, whether it is declared or ambiguous, and wildcards
abbrev pub found_by : Maybe ResolvedType → Maybe ℕ → Bool → Bool → Bool → Found
found_by t o declared ambiguous wild =
    first_of (map type t ∷ only_if declared (numbered o) ∷ only_if ambiguous
    (some (unresolved 0)) ∷ numbered o ∷ only_if wild (some stub) ∷ []) (unresolved 1)

pub found_is : (book : Book) (n : ℕ) (k : Names) → find_name book n k
    ≡ found_by (alias_of k n) (own_number k n) (is_declared book n) (is_ambiguous book n) book.wildcards
unfolding find_name
found_is book n k = refl

module _ (lent : Lent) (book : Book) (c : code.State) (k : Names) (s : State) (h : Stands lent book c k s) where
  by_bools : (m : TypeId) (b amb wild : Bool)
      → SameFound s.results (if b then Known m else code.unless_ambiguous amb (Some m) wild)
      (found_by none (some m.0) b amb wild)
  unfolding first_of
  by_bools m true amb wild = a_number m
  by_bools m false true wild = an_ambiguous
  by_bools m false false wild = a_number m

  with_none : (amb wild : Bool) → SameFound s.results (code.unless_ambiguous amb None wild)
      (found_by none none false amb wild)
  unfolding first_of
  with_none true wild = an_ambiguous
  with_none false true = a_stub
  with_none false false = an_unknown

  by_own : (n : ℕ) (o : Option TypeId) → SameFound s.results (code.by_own o n c)
      (found_by none (own o) (below_types c.names.types (own o)) (is_marked c.names n) c.book.wildcards)
  by_own n (Some m) = by_bools m (nat_lt m.0 c.names.types) (is_marked c.names n) c.book.wildcards
  by_own n None = with_none (is_marked c.names n) c.book.wildcards

  by_place : (n : ℕ) (p : Option Place) (t : Maybe ResolvedType) → IsAlias s.results p t
      → SameFound s.results (code.by_alias p n c) (found_by t (own_number k n) (is_declared book n)
      (is_ambiguous book n) book.wildcards)
  unfolding first_of
  by_place n (Some p) (some t) a = an_alias p t a
  by_place n None none a =
      subst (λ (x : Bool). SameFound s.results (code.by_own (number_in c.names n) n c)
      (found_by none (own_number k n) x (is_ambiguous book n) book.wildcards)) (sym (h.knows.declared_are n))
      (subst (λ (o : Maybe ℕ). SameFound s.results (code.by_own (number_in c.names n) n c)
      (found_by none o (below_types c.names.types o) (is_ambiguous book n) book.wildcards)) (h.knows.numbers_are n)
      (subst (λ (x : Bool). SameFound s.results (code.by_own (number_in c.names n) n c)
      (found_by none (own (number_in c.names n)) (below_types c.names.types
      (own (number_in c.names n))) x book.wildcards)) (h.knows.ambiguous_are n)
      (subst (λ (x : Book). SameFound s.results (code.by_own (number_in c.names n) n c)
      (found_by none (own (number_in c.names n)) (below_types c.names.types (own (number_in c.names n)))
      (is_marked c.names n) x.wildcards)) h.book_is (by_own n (number_in c.names n)))))
  by_place n None (some t) a = absurd a
  by_place n (Some p) none a = absurd a

  pub found : (n : ℕ) → SameFound s.results (code.find_name n c) (find_name book n k)
  found n = subst (λ (x : Found). SameFound s.results (code.find_name n c) x) (sym (found_is book n k))
      (by_place n (alias_in c.names n) (alias_of k n) (h.knows.aliases_are n))

-- what a head is found to be
pub data SameHead : heads.Head → Head → Type 0 where
  is_alias : (g : generics.Generic) → SameHead (head.Alias g) (alias (generic_of g))
  is_no_alias : SameHead head.NoAlias no_alias
  is_no_number : SameHead head.NoNumber no_number

-- by the generic alias that has its number
abbrev alias_or_none : Maybe Generic → Head
alias_or_none none = no_alias
alias_or_none (some g) = alias g

without_number : (book : Book) (n : ℕ) (k : Names) → lookup k n ≡ none → find_head book n k ≡ no_number
unfolding find_head
without_number book n k e = rw e

with_number : (book : Book) (n : ℕ) (k : Names) (m : ℕ) (o : Maybe Generic) → lookup k n ≡ some m
    → entry m (generics_of book) ≡ o → find_head book n k ≡ alias_or_none o
unfolding find_head
with_number book n k m none e g = rw (e, g)
with_number book n k m (some x) e g = rw (e, g)

module _ (lent : Lent) (book : Book) (c : code.State) (k : Names) (s : State) (h : Stands lent book c k s) where
  by_generic : (g : Option generics.Generic) → SameHead (code.head_by_alias g) (alias_or_none (option_of generic_of g))
  by_generic None = is_no_alias
  by_generic (Some g) = is_alias g

  by_known : (n : ℕ) (o : Option ℕ) → lookup k n ≡ seen o → SameHead (code.head_by_number o c) (find_head book n k)
  by_known n None e = subst (λ (x : Head). SameHead head.NoNumber x) (sym (without_number book n k e)) is_no_number
  by_known n (Some m) e =
      subst (λ (x : Head). SameHead (code.head_by_alias (generic_in c.names m)) x)
      (sym (with_number book n k m (option_of generic_of (generic_in c.names m)) e (sym (h.knows.generics_are m))))
      (by_generic (generic_in c.names m))

  pub headed : (n : ℕ) → SameHead (code.find_head n c) (find_head book n k)
  headed n = by_known n (code.look_up n c) (sym (look_up lent book c k s h n))
