-- The code's resolvers do what the two resolvers of the definitions say.
-- Assumes nothing.
use Rattle.std.proofs.Common.{◌≡◌, ℕ, zero, suc, ◌+◌, ◌-◌, ◌≤◌, ◌<◌, Bool, true, false, List, [], ◌∷◌, ◌++◌, length}
use Rattle.std.proofs.Common.{refl, sym, ap, ◌∙◌, arith, subst, append_assoc, length-append, Some, None}
use Rattle.std.proofs.Common.{Option}
use mathlib.Core.Option.{Option as Maybe, some, none, map}
use Rattle.record.specs.declared.kind.Kind.TheVariants as kinds
use Rattle.record.specs.declared.Record.{Record}
use Rattle.record.specs.declared.Span.{Span}
use Rattle.record.specs.declared.type_id.TypeId.{TypeId}
use Rattle.record.specs.Made.{bare_record}
use Rattle.record.specs.Named.{named_record}
use Rattle.book.specs.Outline.{Book, ◌!◌}
use Rattle.book.specs.Faults.{is_kind}
use Rattle.record.specs.declared.refusal.Cause.TheVariants.{TooDeep}
use Rattle.types.specs.declared.lowering.Found as founds
use Rattle.types.specs.declared.lowering.Head as heads
use Rattle.types.specs.declared.lowering.TypeExpr as exprs
use Rattle.types.specs.Lowering.{State, run, resolving}
use Rattle.types.specs.Resolved.{ResolvedType, named, one_child, two_children, Names, own_number, alias_of, lookup}
use Rattle.types.specs.Resolved.{pair_number, with_stub, with_pair}
use Rattle.types.specs.Step.{Step, Resolved, ◌>>=◌, bare, whole, over_one, over_two, poison}
use Rattle.types.specs.Records.{below, type_records}
use Rattle.types.specs.Resolve.{qualified}
use Rattle.types.specs.Resolve.{TypeExpr, name, type_expr, Found, type, stub, unresolved, first_of}
use Rattle.types.specs.Resolve.{is_declared, is_ambiguous, find_name, resolve_name, find_qualified, resolve_qualified}
use Rattle.types.specs.Resolve.{Head, alias, no_alias, no_number, find_head, Substitution, Resolver, resolve_by}
use Rattle.types.specs.Resolve.{is_parameter, beyond, resolve_type_expr, resolve_type_expr_with_substitution}
use Rattle.types.specs.Resolve.{resolve_type}
use Rattle.types.specs.Tables.{Tables, pair_in, stubbed, paired}
use Rattle.types.specs.Stands.{option_of, Lent, Knows, Stands, Does, Roots, Resolves}
use Rattle.types.specs.Code as code
use Rattle.types.specs.Walk as walk
use Rattle.types.proofs.TypeRecords.{type_has_records}
use Rattle.types.proofs.Refining.{left, does_then, does_in, does_within}
use Rattle.types.proofs.TypeExprs.{Same, same_plain, same_name, same_qualified, same_generic, same_one, same_two}
use Rattle.types.proofs.TypeExprs.{same_type, name_of, qualified_of, same_parameter}
use Rattle.types.proofs.PairsUnmet.{IsPair}
use Rattle.types.proofs.Writes.{does_root, does_leaf, named_leaf, changed, does_number, does_poison}
use Rattle.types.proofs.Copied.{does_copy}
use Rattle.types.proofs.Finding.{look_up, pairs_same, SameFound, an_alias, a_number, a_stub, an_ambiguous, an_unknown, found_by}
use Rattle.types.proofs.Finding.{found_is, found, SameHead, is_alias, is_no_alias, is_no_number, headed}
use Rattle.types.proofs.Stubbing.{knows_stub, knows_pair}

-- a name that a stub is made for has no number
free : (t : Maybe ResolvedType) (o : Maybe ℕ) (dec amb wild : Bool) → found_by t o dec amb wild ≡ stub → o ≡ none
unfolding first_of
free t none dec amb wild e = refl
free (some t) (some m) dec amb wild e = cc
free none (some m) true amb wild e = cc
free none (some m) false true wild e = cc
free none (some m) false false wild e = cc

stub_free : (book : Book) (n : ℕ) (k : Names) → find_name book n k ≡ stub → own_number k n ≡ none
stub_free book n k e = free (alias_of k n) (own_number k n) (is_declared book n) (is_ambiguous book n) book.wildcards
    (sym (found_is book n k) ∙ e)

-- what is done with what a name, a pair and a head are found to be, as in specs/Resolve
abbrev as_found : ℕ → Span → Found → Step Resolved
as_found n span (type t) s = whole t s
as_found n span stub s = whole (named s.next) (with_stub n s)
as_found n span (unresolved m) s = poison m n 0 0 span s

abbrev as_found_pair : ℕ → ℕ → Span → Found → Step Resolved
as_found_pair space n span (type t) s = whole t s
as_found_pair space n span stub s = whole (named s.next) (with_pair space n s)
as_found_pair space n span (unresolved m) s = poison m space n 0 span s

abbrev as_head : (Substitution → Resolver) → ℕ → ℕ → ℕ → Span → Head → Step Resolved
as_head target unknown n argument span (alias g) s = target
    (record { parameter = g.parameter; argument = argument }) g.target span s
as_head target unknown n argument span no_alias s = poison 3 n 0 1 span s
as_head target unknown n argument span no_number s = poison unknown n 0 0 span s

abbrev pair_found : Maybe ℕ → Maybe ℕ → Found
pair_found p l = first_of (map (λ n. type (named n)) p ∷ map (λ k. stub) l ∷ []) (unresolved 2)

module _ (lent : Lent) (book : Book) (c : code.State) (k : Names) (s : State) (h : Stands lent book c k s) where
  -- a number
  known : (m : ℕ) → Resolves lent book (code.emit (named_record m) c) (whole (named m)) k s
  known m = does_leaf lent book c k s h (named_record m) (named m) (named_leaf m)

  -- the next number, and what changes
  next_number : (g : Tables → Tables) (k' : Names) → k'.aliases ≡ k.aliases
      → (length s.results + 1 ≤ 2048 → Knows book c.names k (s.results ++ named_record k.next ∷ [])
      → Knows book (g c.names) k' (s.results ++ named_record k.next ∷ []))
      → Resolves lent book (changed g (code.emit (named_record c.names.next) c)) (λ k. whole (named k.next) k') k s
  next_number g k' same f =
      subst (λ (i : ℕ). Resolves lent book (changed g (code.emit (named_record i) c))
      (λ k. whole (named k.next) k') k s) (sym h.knows.next_is)
      (does_number lent book c k k' s h k.next g same f)

  -- a stub for a name, and for a pair
  pub new_stub : (n : ℕ) → n < c.names.bound → own_number k n ≡ none
      → Resolves lent book (code.add_stub n c) (λ k. whole (named k.next) (with_stub n k)) k s
  unfolding code.add_stub with_stub
  new_stub n inside free =
      next_number (λ x. stubbed x n) (with_stub n k) refl
      (λ few after. knows_stub book c.names k s.results (named_record k.next) h.knows few after n free inside)

  pub new_pair : (m space n : ℕ) → IsPair book m space n → pair_number k space n ≡ none
      → Resolves lent book (code.add_pair space n c) (λ k. whole (named k.next) (with_pair space n k)) k s
  unfolding code.add_pair with_pair
  new_pair m space n is free =
      next_number (λ x. paired x space n) (with_pair space n k) refl
      (λ few after. knows_pair book c.names k s.results (named_record k.next) h.knows few after m space n is free)

  by_found : (n : ℕ) (span : Span) → n < c.names.bound → (f : founds.Found) (g : Found) → SameFound s.results f g
      → g ≡ find_name book n k
      → Resolves lent book (code.by_found n span f c) (as_found n span g) k s
  by_found n span inside _ _ (an_alias p t st) e = does_copy lent book c k s h p t st
  by_found n span inside _ _ (a_number m) e = known m.0
  by_found n span inside _ _ a_stub e = new_stub n inside (stub_free book n k (sym e))
  by_found n span inside _ _ an_ambiguous e = does_poison lent book c k s h 0 n 0 0 span
  by_found n span inside _ _ an_unknown e = does_poison lent book c k s h 1 n 0 0 span

  pub a_name : (n : ℕ) (span : Span) → n < c.names.bound → Resolves lent book (code.resolve_name n span c)
      (resolve_name book n span) k s
  unfolding code.resolve_name resolve_name
  a_name n span inside = by_found n span inside (code.find_name n c) (find_name book n k)
      (found lent book c k s h n) refl

  by_space : (m space n : ℕ) → IsPair book m space n → pair_number k space n ≡ none → (span : Span) (l : Option ℕ)
      → Resolves lent book (code.by_space l space n span c)
      (as_found_pair space n span (pair_found none (option_of (λ i. i) l))) k s
  unfolding first_of
  by_space m space n is free span (Some l) = new_pair m space n is free
  by_space m space n is free span None = does_poison lent book c k s h 2 space n 0 span

  by_pair : (m space n : ℕ) → IsPair book m space n → (span : Span) (o : Option TypeId)
      → option_of (λ (i : TypeId). i.0) o ≡ pair_number k space n
      → Resolves lent book (code.by_pair o space n span c)
      (as_found_pair space n span (pair_found (option_of (λ (i : TypeId). i.0) o) (lookup k space))) k s
  unfolding first_of
  by_pair m space n is span (Some i) same = known i.0
  by_pair m space n is span None same =
      subst (λ (l : Maybe ℕ). Resolves lent book (code.by_space (code.look_up space c) space n span c)
      (as_found_pair space n span (pair_found none l)) k s)
      (look_up lent book c k s h space) (by_space m space n is (sym same) span (code.look_up space c))

  pub a_pair : (m space n : ℕ) → IsPair book m space n → (span : Span)
      → Resolves lent book (code.resolve_qualified space n span c) (resolve_qualified space n span) k s
  unfolding code.resolve_qualified resolve_qualified find_qualified
  a_pair m space n is span =
      subst (λ (o : Maybe ℕ). Resolves lent book (code.by_pair (pair_in c.names space n) space n span c)
      (as_found_pair space n span (pair_found o (lookup k space))) k s)
      (pairs_same lent book c k s h space n)
      (by_pair m space n is span (pair_in c.names space n) (pairs_same lent book c k s h space n))

-- a root over what was resolved behind the results rs
module _ (lent : Lent) (book : Book) (k₀ : Names) (rs : List Record) (n : ℕ) (c : code.State) (t : Resolved) (k : Names)
    (s : State)
    (st : Stands lent book c k s) (v : Roots k₀ rs n t k s.results) where
  behind : length s.results ≡ length rs + suc (below t.type)
  behind = ap (λ (x : List Record). length x) v.adds ∙ omega
      (arith, length-append rs (type_records (length rs) t.type), type_has_records (length rs) t.type)

  over : (sub size : ℕ) → Does lent book (Roots k₀ rs) (code.emit (bare_record kinds.OverOne sub n 0 size) c)
      (over_one sub size t) k s
  unfolding over_one below type_records
  over sub size =
      let r : Record = bare 7 sub t.root 0 0 size in
      let all : s.results ++ r ∷ [] ≡ rs ++ type_records (length rs) (one_child sub size t.type) =
      ap (λ (x : List Record). x ++ r ∷ []) v.adds ∙ append_assoc rs (type_records (length rs) t.type) (r ∷ [])
      ∙ ap (λ (i : ℕ). rs ++ (type_records (length rs) t.type ++ bare 7 sub i 0 0 size ∷ [])) v.root_at in
      subst (λ (i : ℕ). Does lent book (Roots k₀ rs) (code.emit (bare_record kinds.OverOne sub i 0 size) c)
      (over_one sub size t) k s) (sym v.root_is)
      (does_root lent book k₀ rs c k s st r (one_child sub size t.type) v.aliases_same behind all)

  module _ (n₁ : ℕ) (c₁ : code.State) (u : Resolved) (k₁ : Names) (s₁ : State) (st₁ : Stands lent book c₁ k₁ s₁)
      (w : Roots k s.results n₁ u k₁ s₁.results) where
    over_both : (sub : ℕ) → Does lent book (Roots k₀ rs) (code.emit (bare_record kinds.OverTwo sub n n₁ 0) c₁)
        (over_two sub t u) k₁ s₁
    unfolding over_two below type_records
    over_both sub =
        let r : Record = bare 8 sub t.root u.root 0 0 in
        let m : ℕ = suc (length rs + below t.type) in
        let low : length s.results ≡ m = omega (arith, behind) in
        let at : length s₁.results ≡ length rs + (suc (below t.type) + suc (below u.type)) =
        ap (λ (x : List Record). length x) w.adds
        ∙ omega (
          arith,
          behind,
          length-append s.results (type_records (length s.results) u.type),
          type_has_records (length s.results) u.type,
        ) in
        let root : u.root ≡ m + below u.type = omega (arith, w.root_at, behind) in
        let there : s₁.results ≡ rs ++ (type_records (length rs) t.type ++ type_records m u.type) =
        w.adds ∙ ap (λ (i : ℕ). s.results ++ type_records i u.type) low
        ∙ ap (λ (x : List Record). x ++ type_records m u.type) v.adds
        ∙ append_assoc rs (type_records (length rs) t.type) (type_records m u.type) in
        let all : s₁.results ++ r ∷ [] ≡ rs ++ type_records (length rs) (two_children sub t.type u.type) =
        ap (λ (x : List Record). x ++ r ∷ []) there
        ∙ append_assoc rs (type_records (length rs) t.type ++ type_records m u.type) (r ∷ [])
        ∙ ap (λ (i : ℕ). rs ++
        (type_records (length rs) t.type ++ type_records m u.type ++ bare 8 sub i u.root 0 0 ∷ [])) v.root_at
        ∙ ap (λ (i : ℕ). rs ++ (type_records (length rs) t.type ++ type_records m u.type ++ bare 8 sub
        (length rs + below t.type) i 0 0 ∷ [])) root in
        subst (λ (i : ℕ). Does lent book (Roots k₀ rs) (code.emit (bare_record kinds.OverTwo sub i n₁ 0) c₁)
        (over_two sub t u) k₁ s₁) (sym v.root_is)
        (subst (λ (i : ℕ). Does lent book (Roots k₀ rs) (code.emit (bare_record kinds.OverTwo sub t.root i 0) c₁)
        (over_two sub t u) k₁ s₁) (sym w.root_is)
        (does_root lent book k₀ rs c₁ k₁ s₁ st₁ r (two_children sub t.type u.type)
        (w.aliases_same ∙ v.aliases_same) at all))

-- what both resolvers do
module _ (lent : Lent) (book : Book) where
  abbrev ChildOk : (ℕ → Span → code.State → code.Outcome ℕ) → Resolver → Type 0
  ChildOk child child' = (a : ℕ) (z : Span) (c : code.State) (k : Names) (s : State) → Stands lent book c k s
      → Resolves lent book (child a z c) (child' a z) k s

  abbrev TargetOk : (ℕ → ℕ → ℕ → Span → code.State → code.Outcome ℕ) → (Substitution → Resolver) → Type 0
  TargetOk target target' = (p x a : ℕ) (z : Span) (c : code.State) (k : Names) (s : State) → Stands lent book c k s
      → Resolves lent book (target p x a z c) (target' (record { parameter = p; argument = x }) a z) k s

  module _ (child : ℕ → Span → code.State → code.Outcome ℕ) (child' : Resolver)
      (target : ℕ → ℕ → ℕ → Span → code.State → code.Outcome ℕ) (target' : Substitution → Resolver)
      (child_ok : ChildOk child child') (target_ok : TargetOk target target') (unknown : ℕ) (span : Span)
      (c : code.State) (k : Names) (s : State) (h : Stands lent book c k s) where
    by_head : (n a : ℕ) (x : heads.Head) (y : Head) → SameHead x y
        → Resolves lent book (walk.by_head target unknown n a span x c) (as_head target' unknown n a span y) k s
    by_head n a _ _ (is_alias g) = target_ok g.parameter a g.target span c k s h
    by_head n a _ _ is_no_alias = does_poison lent book c k s h 3 n 0 1 span
    by_head n a _ _ is_no_number = does_poison lent book c k s h unknown n 0 0 span

    by_one : (sub size a : ℕ) → Resolves lent book (code.next (child a (book ! a).span c)
        (λ n t. code.emit (bare_record kinds.OverOne sub n 0 size) t))
        (child' a (book ! a).span >>= over_one sub size) k s
    by_one sub size a =
        let z : Span = (book ! a).span in
        does_then lent book (Roots k s.results) (Roots k s.results) (child a z c) (child' a z)
        (λ n t. code.emit (bare_record kinds.OverOne sub n 0 size) t) (over_one sub size) k s
        (child_ok a z c k s h)
        (λ n c₁ t k₁ s₁ st grown v. over lent book k s.results n c₁ t k₁ s₁ st v sub size)

    by_two : (sub a b : ℕ)
        → Resolves lent book
        (code.next (child a (book ! a).span c) (λ first t. code.next (child b (t.book ! b).span t)
        (λ other u. code.emit (bare_record kinds.OverTwo sub first other 0) u)))
        (child' a (book ! a).span >>= λ l. child' b (book ! b).span >>= over_two sub l) k s
    by_two sub a b =
        let z : Span = (book ! a).span in
        let y : Span = (book ! b).span in
        does_then lent book (Roots k s.results) (Roots k s.results) (child a z c) (child' a z)
        (λ first t. code.next (child b (t.book ! b).span t)
        (λ other u. code.emit (bare_record kinds.OverTwo sub first other 0) u))
        (λ l. child' b y >>= over_two sub l) k s
        (child_ok a z c k s h)
        (λ n c₁ t k₁ s₁ st grown v.
        does_in lent book (Roots k s.results) (λ d. code.next (child b (d ! b).span c₁)
        (λ other u. code.emit (bare_record kinds.OverTwo sub n other 0) u))
        (child' b y >>= over_two sub t) c₁ k₁ s₁ st
        (does_then lent book (Roots k₁ s₁.results) (Roots k s.results) (child b y c₁) (child' b y)
        (λ other u. code.emit (bare_record kinds.OverTwo sub n other 0) u) (over_two sub t) k₁ s₁
        (child_ok b y c₁ k₁ s₁ st)
        (λ n₂ c₂ u k₂ s₂ st₂ grown₂ w. over_both lent book k s.results n c₁ t k₁ s₁ st v n₂ c₂ u k₂ s₂ st₂ w sub)))

    by_type : (at : ℕ) (x : exprs.TypeExpr) (y : TypeExpr) → Same x y → ((m : ℕ) → y ≡ name m → m < c.names.bound)
        → ((space n : ℕ) → y ≡ qualified space n → IsPair book at space n)
        → Resolves lent book (walk.by_type child target unknown span c x)
        (resolve_by book child' target' unknown y span) k s
    unfolding resolve_by
    by_type at _ _ (same_plain kind sub a t leaf) inside pair = does_leaf lent book c k s h (bare_record kind sub a 0 0) t leaf
    by_type at _ _ (same_name n) inside pair = a_name lent book c k s h n span (inside n refl)
    by_type at _ _ (same_qualified space n) inside pair = a_pair lent book c k s h at space n (pair space n refl) span
    by_type at _ _ (same_generic n a) inside pair = by_head n a (code.find_head n c) (find_head book n k)
        (headed lent book c k s h n)
    by_type at _ _ (same_one sub size a) inside pair =
        does_in lent book (Roots k s.results) (λ d. code.next (child a (d ! a).span c)
        (λ n t. code.emit (bare_record kinds.OverOne sub n 0 size) t))
        (child' a (book ! a).span >>= over_one sub size) c k s h
        (by_one sub size a)
    by_type at _ _ (same_two sub a b) inside pair =
        does_in lent book (Roots k s.results)
        (λ d. code.next (child a (d ! a).span c) (λ first t. code.next (child b (t.book ! b).span t)
        (λ other u. code.emit (bare_record kinds.OverTwo sub first other 0) u)))
        (child' a (book ! a).span >>= λ l. child' b (book ! b).span >>= over_two sub l) c k s h (by_two sub a b)

  within : (steps : ℕ) → suc steps ≤ 64 → (o : code.Outcome ℕ) (m : Step Resolved) (k : Names) (s : State)
      → Resolves lent book o m k s → Resolves lent book o (λ k. resolving (64 - steps) (m k)) k s
  within steps few o m k s h = does_within lent book (Roots k s.results) (64 - steps) (omega arith) o m k s h

  no_deeper : (c : code.State) (k : Names) (s : State) → Stands lent book c k s
      → Resolves lent book (code.refuse TooDeep c) beyond k s
  unfolding run
  no_deeper c k s h = (ap (λ (p : ℕ). record { cause = TooDeep; place = p }) h.place_is, left lent book c k s h)

  -- the type of a record
  here : (c : code.State) (k : Names) (s : State) → Stands lent book c k s → (n : ℕ)
      → Same (code.type_at c.book n) (type_expr (book ! n))
  here c k s h n = subst (λ (d : Book). Same (code.type_at d n) (type_expr (book ! n))) (sym h.book_is)
      (same_type (book ! n))

  entered : (c : code.State) (k : Names) (s : State) → Stands lent book c k s → (n m : ℕ)
      → type_expr (book ! n) ≡ name m → m < c.names.bound
  entered c k s h n m e =
      let p : ((book ! n).a ≡ m) × (is_kind 4 (book ! n) ≡ true) = name_of (book ! n) m e in
      subst (λ (i : ℕ). i < c.names.bound) p.0 (h.knows.uses_below n p.1)

  paired_at : (n space m : ℕ) → type_expr (book ! n) ≡ qualified space m → IsPair book n space m
  paired_at n space m e =
      let q : ((book ! n).a ≡ space) × ((book ! n).b ≡ m) × (is_kind 5 (book ! n) ≡ true) = qualified_of (book ! n) space m e in
      record { kind = q.2; space_is = q.0; name_is = q.1 }

  either_of : (o₁ o₂ : code.Outcome ℕ) (m₁ m₂ : Step Resolved) (k : Names) (s : State) (b : Bool)
      → Resolves lent book o₁ m₁ k s → Resolves lent book o₂ m₂ k s
      → Resolves lent book (walk.choose b o₁ o₂) (λ k. elim b [ true ↦ m₁ k | false ↦ m₂ k ]) k s
  either_of o₁ o₂ m₁ m₂ k s true x y = x
  either_of o₁ o₂ m₁ m₂ k s false x y = y

  mutual
    unfolding walk.resolve resolve_type_expr

    pub resolves : (steps : ℕ) → steps ≤ 64 → (n : ℕ) (span : Span) (c : code.State) (k : Names) (s : State)
        → Stands lent book c k s
        → Resolves lent book (walk.resolve steps n span c) (resolve_type_expr steps book n span) k s
    resolves zero few n span c k s h = no_deeper c k s h
    resolves (suc steps) few n span c k s h =
        let child : ℕ → Span → code.State → code.Outcome ℕ = λ a z t. walk.resolve steps a z t in
        let child' : Resolver = λ a z t. resolve_type_expr steps book a z t in
        let target : ℕ → ℕ → ℕ → Span → code.State
        → code.Outcome ℕ = λ p x a z t. walk.resolve_inside steps p x a z t in
        let target' : Substitution → Resolver = λ sub a z t. resolve_type_expr_with_substitution steps book sub a z t in
        within steps few (walk.by_type child target 4 span c (code.type_at c.book n))
        (resolve_by book child' target' 4 (type_expr (book ! n)) span) k s
        (by_type child child' target target'
        (λ a z c k s h. resolves steps (omega arith) a z c k s h)
        (λ p x a z c k s h. resolves_inside steps (omega arith) p x a z c k s h)
        4 span c k s h n (code.type_at c.book n) (type_expr (book ! n)) (here c k s h n) (entered c k s h n) (paired_at n))

    pub resolves_inside : (steps : ℕ) → steps ≤ 64 → (p x n : ℕ) (span : Span) (c : code.State) (k : Names) (s : State)
        → Stands lent book c k s
        → Resolves lent book (walk.resolve_inside steps p x n span c)
        (resolve_type_expr_with_substitution steps book (record { parameter = p; argument = x }) n span) k s
    resolves_inside zero few p x n span c k s h = no_deeper c k s h
    resolves_inside (suc steps) few p x n span c k s h =
        let child : ℕ → Span → code.State → code.Outcome ℕ = λ a z t. walk.resolve_inside steps p x a z t in
        let child' : Resolver = λ a z t. resolve_type_expr_with_substitution steps book
        (record { parameter = p; argument = x }) a z t in
        let target : ℕ → ℕ → ℕ → Span → code.State
        → code.Outcome ℕ = λ p x a z t. walk.resolve_inside steps p x a z t in
        let target' : Substitution → Resolver = λ sub a z t. resolve_type_expr_with_substitution steps book sub a z t in
        let m₁ : Step Resolved = resolve_type_expr steps book x span in
        let m₂ : Step Resolved = resolve_by book child' target' 1 (type_expr (book ! n)) span in
        let o₁ : code.Outcome ℕ = walk.resolve steps x span c in
        let o₂ : code.Outcome ℕ = walk.by_type child target 1 span c (code.type_at c.book n) in
        let b : Bool = is_parameter (record { parameter = p; argument = x }) (type_expr (book ! n)) in
        subst (λ (v : Bool). Resolves lent book (walk.choose v o₁ o₂)
        (λ k. resolving (64 - steps) (elim b [ true ↦ m₁ k | false ↦ m₂ k ])) k s)
        (sym (same_parameter p x (code.type_at c.book n) (type_expr (book ! n)) (here c k s h n)))
        (within steps few (walk.choose b o₁ o₂) (λ k. elim b [ true ↦ m₁ k | false ↦ m₂ k ]) k s
        (either_of o₁ o₂ m₁ m₂ k s b (resolves steps (omega arith) x span c k s h)
        (by_type child child' target target'
        (λ a z c k s h. resolves_inside steps (omega arith) p x a z c k s h)
        (λ p x a z c k s h. resolves_inside steps (omega arith) p x a z c k s h)
        1 span c k s h n (code.type_at c.book n) (type_expr (book ! n)) (here c k s h n) (entered c k s h n) (paired_at n))))

-- the type of a declaration or an item: the code's walk from a record on
pub does_resolve_type : (lent : Lent) (book : Book) (n : ℕ) (c : code.State) (k : Names) (s : State)
    → Stands lent book c k s
    → Resolves lent book (walk.walked n c) (resolve_type book n) k s
unfolding resolve_type
does_resolve_type lent book n c k s h =
    does_in lent book (Roots k s.results) (λ b. walk.resolve 64 n (b ! n).span c) (resolve_type book n) c k s h
    (resolves lent book 64 (omega arith) n (book ! n).span c k s h)
