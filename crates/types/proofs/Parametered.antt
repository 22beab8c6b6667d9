-- Generic aliases, and what they are generic in: the code's look behind an alias finds the first type parameter.
-- Assumes nothing.
use Rattle.std.proofs.Common.{◌≡◌, ℕ, ◌+◌, Bool, true, false, not, cond, List, [], ◌∷◌, map, drop, nat_lt, refl, sym}
use Rattle.std.proofs.Common.{ap, ◌∙◌, subst, add-one, Some, None, Option, Ok, Err, Result, if◌then◌else◌, ltb}
use mathlib.Core.Option.{Option as Maybe, some, none}
use Rattle.record.specs.declared.kind.Kind.{Kind}
use Rattle.record.specs.declared.kind.Kind.TheVariants as kinds
use Rattle.record.specs.declared.kind.UnknownKind.{UnknownKind}
use Rattle.record.specs.declared.Record.{Record}
use Rattle.record.specs.Kind.{code_of, kind_from}
use Rattle.record.proofs.Codes.{code_of_kind, by_kind, unknown_eqb}
use Rattle.book.specs.Lists.{any, at, keep, keep_while}
use Rattle.book.specs.Faults.{is_kind}
use Rattle.book.specs.Outline.{Book, ◌!◌, is_one_of, notes}
use Rattle.types.specs.Numbers.{parameters, generic_at}
use Rattle.types.specs.Registry.{is_passed_over, parameter_of, parameter_in, parameter_behind}
use Rattle.types.specs.Stands.{option_of}

abbrev belongs : Record → Bool
belongs r = is_one_of (30 ∷ 34 ∷ 35 ∷ 36 ∷ []) r

-- what a record behind an alias is, x being its kind
data Behind (r : Record) (x : Result Kind UnknownKind) : Type 0 where
  a_parameter : nat_lt 16 r.kind ≡ true → belongs r ≡ true → is_kind 30 r ≡ true → is_passed_over r x ≡ false
      → parameter_of r x ≡ Some r.a → Behind r x
  a_note : nat_lt 16 r.kind ≡ true → belongs r ≡ true → is_kind 30 r ≡ false → is_passed_over r x ≡ true → Behind r x
  neither : belongs r ≡ false → is_passed_over r x ≡ not (nat_lt 16 r.kind) → parameter_of r x ≡ None → Behind r x

by_known : (r : Record) (k : Kind) → r.kind ≡ code_of k → Behind r (Ok k)
unfolding any
by_known r kinds.TypeParameter e = a_parameter (rw e refl) (rw e refl) (rw e refl) (rw e refl) refl
by_known r kinds.Annotation e = a_note (rw e refl) (rw e refl) (rw e refl) refl
by_known r kinds.Argument e = a_note (rw e refl) (rw e refl) (rw e refl) refl
by_known r kinds.TombstoneArgument e = a_note (rw e refl) (rw e refl) (rw e refl) refl
by_known r kind e = neither (rw e refl) refl refl

by_unknown : (r : Record) (u : UnknownKind) → kind_from r.kind ≡ Err u → Behind r (Err u)
unfolding any
by_unknown r u e =
    neither (rw (
      any,
      unknown_eqb r.kind u e kinds.TypeParameter,
      unknown_eqb r.kind u e kinds.Annotation,
      unknown_eqb r.kind u e kinds.Argument,
      unknown_eqb r.kind u e kinds.TombstoneArgument,
    ) refl) refl refl

behind : (r : Record) → Behind r (kind_from r.kind)
behind r =
    by_kind (λ n. r.kind ≡ n → Behind r (kind_from n))
    (λ k e. subst (λ (x : Result Kind UnknownKind). Behind r x) (sym (code_of_kind k)) (by_known r k e))
    (λ n u is e. subst (λ (x : Result Kind UnknownKind). Behind r x) (sym is)
    (by_unknown r u (subst (λ (m : ℕ). kind_from m ≡ Err u) (sym e) is)))
    r.kind refl

-- the type parameters behind an alias
abbrev names_behind : List Record → List ℕ
names_behind rs = map (λ r. r.a) (keep (is_kind 30) (keep_while belongs (keep (λ r. ltb 16 r.kind) rs)))

first_of_them : (rs : List Record) → option_of (λ (n : ℕ). n) (parameter_in rs) ≡ at (names_behind rs) 0
unfolding parameter_in at keep keep_while
first_of_them [] = refl
first_of_them (r ∷ rs) = go (kind_from r.kind) (behind r) (first_of_them rs)
  where
    chain : Bool → Bool → Bool → List ℕ
    chain over belongs_too parameter =
        let rest : List Record = keep (λ r. ltb 16 r.kind) rs in
        map (λ r. r.a) (cond over (cond belongs_too (cond parameter (r ∷ keep (is_kind 30) (keep_while belongs rest))
        (keep (is_kind 30) (keep_while belongs rest))) []) (keep (is_kind 30) (keep_while belongs rest)))

    chain_is : (a b c : Bool) → nat_lt 16 r.kind ≡ a → belongs r ≡ b → is_kind 30 r ≡ c
        → names_behind (r ∷ rs) ≡ chain a b c
    chain_is true true c p q s = rw (p, keep_while, q, keep, s) refl
    chain_is true false c p q s = rw (p, keep_while, q) refl
    chain_is false b c p q s = rw p refl

    left : (x : Result Kind UnknownKind) (b : Bool) → is_passed_over r x ≡ b
        → option_of (λ (n : ℕ). n) (if is_passed_over r x then parameter_in rs else parameter_of r x)
        ≡ option_of (λ (n : ℕ). n) (if b then parameter_in rs else parameter_of r x)
    left x b e = ap (λ (v : Bool). option_of (λ (n : ℕ). n) (if v then parameter_in rs else parameter_of r x)) e

    right : (a b c : Bool) → nat_lt 16 r.kind ≡ a → belongs r ≡ b → is_kind 30 r ≡ c
        → at (chain a b c) 0 ≡ at (names_behind (r ∷ rs)) 0
    right a b c p q s = ap (λ (l : List ℕ). at l 0) (sym (chain_is a b c p q s))

    go : (x : Result Kind UnknownKind) → Behind r x → option_of (λ (n : ℕ). n) (parameter_in rs)
        ≡ at (names_behind rs) 0
        → option_of (λ (n : ℕ). n) (if is_passed_over r x then parameter_in rs else parameter_of r x)
        ≡ at (names_behind (r ∷ rs)) 0
    go x (a_parameter p q s over is) h = left x false over ∙ ap (λ (o : Option ℕ). option_of (λ (n : ℕ). n) o) is
        ∙ right true true true p q s
    go x (a_note p q s over) h = left x true over ∙ h ∙ right true true false p q s
    go x (neither q over is) h = by (nat_lt 16 r.kind) refl
      where
        by : (b : Bool) → nat_lt 16 r.kind ≡ b → option_of (λ (n : ℕ). n)
            (if is_passed_over r x then parameter_in rs else parameter_of r x) ≡ at (names_behind (r ∷ rs)) 0
        by true p = left x false (over ∙ ap not p) ∙ ap (λ (o : Option ℕ). option_of (λ (n : ℕ). n) o) is
            ∙ right true false (is_kind 30 r) p q refl
        by false p = left x true (over ∙ ap not p) ∙ h ∙ right false false (is_kind 30 r) p q refl

module _ (book : Book) (n : ℕ) where
  -- an alias is generic: it has a type parameter
  abbrev pub is_generic : Bool
  is_generic = any (is_kind 30) (notes book n)

  there : Maybe ℕ → Bool
  there none = false
  there (some p) = true

  some_first : (l : List Record) → any (is_kind 30) l ≡ there (at (map (λ r. r.a) (keep (is_kind 30) l)) 0)
  unfolding any at keep there
  some_first [] = refl
  some_first (r ∷ rs) = go (is_kind 30 r) (some_first rs)
    where
      go : (b : Bool) → any (is_kind 30) rs ≡ there (at (map (λ r. r.a) (keep (is_kind 30) rs)) 0)
          → elim b [ true ↦ true | false ↦ any (is_kind 30) rs ]
          ≡ there (at (map (λ r. r.a) (cond b (r ∷ keep (is_kind 30) rs) (keep (is_kind 30) rs))) 0)
      go true e = refl
      go false e = e

  first : option_of (λ (i : ℕ). i) (parameter_behind book n) ≡ at (parameters book n) 0
  unfolding parameters notes
  first = first_of_them (drop (n + 1) book.records) ∙ ap (λ (m : ℕ). at (names_behind (drop m book.records)) 0)
      (add-one n)

  generic_is : is_generic ≡ there (option_of (λ (i : ℕ). i) (parameter_behind book n))
  unfolding parameters
  generic_is = some_first (notes book n) ∙ ap there (sym first)

  -- the code finds no parameter: the alias is plain
  pub no_parameter : parameter_behind book n ≡ None → is_generic ≡ false
  unfolding there
  no_parameter e = generic_is ∙ ap (λ (o : Option ℕ). there (option_of (λ (i : ℕ). i) o)) e

  -- it finds one: the alias is generic in that
  pub a_parameter_is : (p : ℕ) → parameter_behind book n ≡ Some p → is_generic ≡ true
  unfolding there
  a_parameter_is p e = generic_is ∙ ap (λ (o : Option ℕ). there (option_of (λ (i : ℕ). i) o)) e

  pub generic_entry : (p : ℕ) → parameter_behind book n ≡ Some p
      → generic_at book n ≡ record { parameter = p; target = (book ! n).b }
  unfolding generic_at at
  generic_entry p e = go (parameters book n) refl (sym first ∙ ap (λ (o : Option ℕ). option_of (λ (i : ℕ). i) o) e)
    where
      go : (l : List ℕ) → parameters book n ≡ l → at (parameters book n) 0 ≡ some p
          → generic_at book n ≡ record { parameter = p; target = (book ! n).b }
      go [] is q = let z : at {A = ℕ} [] 0 ≡ some p = rw is at q in cc
      go (x ∷ l) is q = let z : at (x ∷ l) 0 ≡ some p = rw is at q in let same : x ≡ p = cc
          in rw (generic_at, is) (ap (λ (i : ℕ). record { parameter = i; target = (book ! n).b }) same)
