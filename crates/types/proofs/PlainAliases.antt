-- Plain aliases: what the code does with them is what the definitions say.
-- Assumes nothing.
use Rattle.std.proofs.Common.{◌≡◌, ℕ, ◌<◌, Bool, true, false, not, ◌&&◌, cond, List, [], ◌∷◌, ◌++◌, length, nat_lt}
use Rattle.std.proofs.Common.{refl, sym, ap, ◌∙◌, arith, subst, append_assoc, length-set, get_or-set_same}
use Rattle.std.proofs.Common.{get_or-set_other, Some, None, Option, Ok, Err, Result, ◌⊎◌, inl, inr, eqb, eq-eqb}
use Rattle.std.proofs.Common.{true≢false}
use Rattle.std.proofs.lemmas.Bool.{cases_eq}
use Rattle.std.proofs.lemmas.Bool.Decides.{nat_tests}
use mathlib.Core.List.{Memᴰ}
use mathlib.Core.Option.{Option as Maybe, some, none}
use Rattle.record.specs.declared.kind.Kind.{Kind}
use Rattle.record.specs.declared.kind.Kind.TheVariants as kinds
use Rattle.record.specs.declared.kind.UnknownKind.{UnknownKind}
use Rattle.record.specs.declared.Record.{Record}
use Rattle.record.specs.Kind.{code_of, kind_from}
use Rattle.record.specs.Written.{Written}
use Rattle.record.proofs.Codes.{code_of_kind, by_kind, unknown_eqb}
use Rattle.book.specs.Lists.{keep, up_to}
use Rattle.book.specs.Faults.{is_kind, is_declaration}
use Rattle.book.specs.Outline.{Book, ◌!◌, numbers_of}
use Rattle.book.proofs.Members.{mem_any}
use Rattle.book.proofs.Listed.{any-map}
use Rattle.types.specs.declared.names.Place.{Place}
use Rattle.types.specs.Lowering.{State, moved}
use Rattle.types.specs.Resolved.{ResolvedType, Names, entry, own_number, alias_of, with_alias}
use Rattle.types.specs.Step.{Resolved, ◌>>◌, emit, change, for_each}
use Rattle.types.specs.Numbers.{plain_aliases}
use Rattle.types.specs.Records.{type_records, StandsAt}
use Rattle.types.specs.Resolve.{resolve_type}
use Rattle.types.specs.Alias.{lower_alias}
use Rattle.types.specs.Tables.{Tables, alias_in, aliased}
use Rattle.types.specs.Registry.{is_plain, parameter_behind}
use Rattle.types.specs.Stands.{Lent, Knows, Stands, Does, Always, Roots, IsAlias}
use Rattle.types.specs.Code as code
use Rattle.types.specs.Walk as walk
use Rattle.types.specs.PlainAliases as plain
use Rattle.types.specs.Each.{each}
use Rattle.types.proofs.Refining.{does_then, does_next, does_map, does_in, does_at, does_change, stands_moved}
use Rattle.types.proofs.Refining.{does_each}
use Rattle.types.proofs.Placed.{standing}
use Rattle.types.proofs.Emits.{does_emit}
use Rattle.types.proofs.Resolves.{resolves}
use Rattle.types.proofs.Stubbing.{entry_new, entry_old}
use Rattle.types.proofs.Distinct.{Distinct}
use Rattle.types.proofs.Parametered.{is_generic, no_parameter, a_parameter_is}
use Rattle.types.proofs.Declares.{alias_declares}
use Rattle.types.proofs.Registered.{names}
use Rattle.types.proofs.Declared.{keep_keep}

-- one alias more is known
module _ (book : Book) (c : Tables) (k : Names) (rs : List Record) (h : Knows book c k rs) (n : ℕ) (p : Place)
    (t : ResolvedType)
    (inside : n < c.bound) (free : alias_of k n ≡ none) (there : StandsAt rs p.first p.root t) where
  is_inside : nat_lt n c.bound ≡ true
  is_inside = grind (arith, nat_tests)

  long : n < length c.aliases
  long = omega (arith, h.aliases_long)

  at_name : alias_in (aliased c n p) n ≡ Some p
  at_name = rw (is_inside, get_or-set_same c.aliases n (Some p) None long) refl

  elsewhere : (m : ℕ) → (m ≡ n → ⊥) → alias_in (aliased c n p) m ≡ alias_in c m
  elsewhere m e = rw (is_inside, get_or-set_other c.aliases n m (Some p) None e) refl

  listed : entry n (k.aliases ++ (n, t) ∷ []) ≡ some t
  unfolding alias_of
  listed = entry_new n k.aliases t free

  alias : (m : ℕ) → (m ≡ n) ⊎ (m ≡ n → ⊥) → IsAlias rs (alias_in (aliased c n p) m) (entry m (k.aliases ++ (n, t) ∷ []))
  unfolding alias_of
  alias m (inl e) =
      subst (λ (i : ℕ). IsAlias rs (alias_in (aliased c n p) i) (entry i (k.aliases ++ (n, t) ∷ []))) (sym e)
      (subst (λ (o : Option Place). IsAlias rs o (entry n (k.aliases ++ (n, t) ∷ []))) (sym at_name)
      (subst (λ (o : Maybe ResolvedType). IsAlias rs (Some p) o) (sym listed) there))
  alias m (inr e) =
      subst (λ (o : Option Place). IsAlias rs o (entry m (k.aliases ++ (n, t) ∷ []))) (sym (elsewhere m e))
      (subst (λ (o : Maybe ResolvedType). IsAlias rs (alias_in c m) o) (sym (entry_old m n k.aliases t e))
      (h.aliases_are m))

  pub knows_alias : Knows book (aliased c n p) (with_alias n t k) rs
  unfolding with_alias own_number alias_of
  knows_alias =
      record {
        numbers_long = h.numbers_long;
        aliases_long = rw (is_inside, length-set c.aliases n (Some p)) h.aliases_long;
        next_is = h.next_is;
        next_few = h.next_few;
        types_few = h.types_few;
        numbers_are = h.numbers_are;
        declared_are = h.declared_are;
        ambiguous_are = h.ambiguous_are;
        generics_are = h.generics_are;
        pairs_room = h.pairs_room;
        pairs_are = h.pairs_are;
        aliases_are = λ m. alias m (cases_eq m n);
        uses_below = h.uses_below;
        alias_names_below = h.alias_names_below;
      }

-- an alias more: its name and its type
pub record OneAlias (name : ℕ) (k k' : Names) : Type 0 where
  pub type : ResolvedType
  pub aliases_are : k'.aliases ≡ k.aliases ++ (name, type) ∷ []

module _ (lent : Lent) (book : Book) (n : ℕ) (is_alias : is_kind 23 (book ! n) ≡ true) where
  abbrev r : Record
  r = book ! n

  -- the record of the alias, and the alias
  finished : (c₀ : code.State) (k₀ : Names) (s₀ : State) (root : ℕ) (c : code.State) (t : Resolved) (k : Names)
      (s : State) → Stands lent book c₀ k₀ s₀
      → alias_of k₀ r.a ≡ none → Stands lent book c k s → Roots k₀ s₀.results root t k s.results
      → Does lent book (λ (u v : Unit {0}) k' rs. OneAlias r.a k₀ k') (plain.finish_alias r c₀.results.count root c)
      (emit (record { kind = 40; sub = 0; a = r.a; b = t.root; c = 0; v = 0; span = r.span }) >> change
      (with_alias r.a t.type)) k s
  unfolding with_alias alias_of
  finished c₀ k₀ s₀ root c t k s h₀ free h v =
      let new : Record = record { kind = 40; sub = 0; a = r.a; b = root; c = 0; v = 0; span = r.span } in
      let first : c₀.results.count ≡ length s₀.results = ap (λ (w : Written). w.count) h₀.results_are in
      let p : Place = record { first = c₀.results.count; root = root } in
      subst (λ (i : ℕ). Does lent book (λ (u v : Unit {0}) k' rs. OneAlias r.a k₀ k')
      (plain.finish_alias r c₀.results.count root c)
      (emit (record { kind = 40; sub = 0; a = r.a; b = i; c = 0; v = 0; span = r.span }) >> change
      (with_alias r.a t.type)) k s) v.root_is
      (does_next lent book _ (λ (u v : Unit {0}) k' rs. OneAlias r.a k₀ k') (code.emit new c) (emit new)
      (λ i d. code.done (tt {0}) (plain.with_alias r c₀.results.count root d)) (change (with_alias r.a t.type)) k s
      (does_emit lent book c k s h new)
      (λ i c₁ m k₁ s₁ st grown w.
      let there : s₁.results ≡ s₀.results ++ (type_records (length s₀.results) t.type ++ new ∷ []) =
      w.3 ∙ ap (λ (x : List Record). x ++ new ∷ []) v.adds
      ∙ append_assoc s₀.results (type_records (length s₀.results) t.type) (new ∷ []) in
      let stands : StandsAt s₁.results p.first p.root t.type =
      subst (λ (i : ℕ). StandsAt s₁.results i root t.type) (sym first)
      (subst (λ (i : ℕ). StandsAt s₁.results (length s₀.results) i t.type) (sym (v.root_is ∙ v.root_at))
      (standing s₁.results s₀.results (new ∷ []) (length s₀.results) t.type there refl)) in
      let same : k₁.aliases ≡ k₀.aliases = ap (λ (x : Names). x.aliases) w.2 ∙ v.aliases_same in
      does_change lent book (λ (u v : Unit {0}) k' rs. OneAlias r.a k₀ k') (tt {0}) c₁ (aliased c₁.names r.a p)
      (with_alias r.a t.type) k₁ s₁ st
      (knows_alias book c₁.names k₁ s₁.results st.knows r.a p t.type (st.knows.alias_names_below n is_alias)
      (ap (entry r.a) same ∙ free) stands)
      (record { type = t.type; aliases_are = ap (λ (l : List (ℕ × ResolvedType)). l ++ (r.a, t.type) ∷ []) same })))

  -- the code lowers the alias at record n as the definitions do
  pub does_alias : (c : code.State) (k : Names) (s : State) → Stands lent book c k s → alias_of k r.a ≡ none
      → Does lent book (λ (u v : Unit {0}) k' rs. OneAlias r.a k k') (plain.lower_alias n c) (lower_alias book n) k s
  unfolding plain.lower_alias lower_alias resolve_type
  does_alias c k s h free =
      let c' : code.State = plain.placed n c in
      let s' : State = moved n s in
      let h' : Stands lent book c' k s' = stands_moved lent book n c k s h in
      does_in lent book (λ (u v : Unit {0}) k' rs. OneAlias r.a k k')
      (λ b. code.next (walk.resolve 64 (b ! n).b (b ! (b ! n).b).span c')
      (λ root t. plain.finish_alias (b ! n) c.results.count root t)) (lower_alias book n) c k s h
      (does_at lent book (λ (u v : Unit {0}) k' rs. OneAlias r.a k k') n
      (code.next (walk.resolve 64 r.b (book ! r.b).span c')
      (λ root t. plain.finish_alias r c.results.count root t)) _ k s
      (does_then lent book (Roots k s'.results) (λ (u v : Unit {0}) k' rs. OneAlias r.a k k')
      (walk.resolve 64 r.b (book ! r.b).span c') (resolve_type book r.b)
      (λ root t. plain.finish_alias r c.results.count root t)
      (λ t. emit (record { kind = 40; sub = 0; a = r.a; b = t.root; c = 0; v = 0; span = r.span }) >> change
      (with_alias r.a t.type)) k s'
      (resolves lent book 64 (omega arith) r.b (book ! r.b).span c' k s' h')
      (λ root c₁ t k₁ s₁ st grown v. finished c k s root c₁ t k₁ s₁ h free st v)))

-- an alias without a type parameter, as the code tells it
abbrev absent : Option ℕ → Bool
absent None = true
absent (Some p) = false

data IsAnAlias (r : Record) (x : Result Kind UnknownKind) : Type 0 where
  it_is : is_kind 23 r ≡ true → ((p : Option ℕ) → is_plain x p ≡ absent p) → IsAnAlias r x
  it_is_not : is_kind 23 r ≡ false → ((p : Option ℕ) → is_plain x p ≡ false) → IsAnAlias r x

plain_if_absent : (p : Option ℕ) → is_plain (Ok kinds.Alias) p ≡ absent p
plain_if_absent None = refl
plain_if_absent (Some p) = refl

by_known : (r : Record) (k : Kind) → r.kind ≡ code_of k → IsAnAlias r (Ok k)
by_known r kinds.Alias e = it_is (rw e refl) plain_if_absent
by_known r kind e = it_is_not (rw e refl) (λ p. refl)

told_by : (r : Record) → IsAnAlias r (kind_from r.kind)
told_by r =
    by_kind (λ n. r.kind ≡ n → IsAnAlias r (kind_from n))
    (λ k e. subst (λ (x : Result Kind UnknownKind). IsAnAlias r x) (sym (code_of_kind k)) (by_known r k e))
    (λ n u is e.
    subst (λ (x : Result Kind UnknownKind). IsAnAlias r x) (sym is)
    (it_is_not (unknown_eqb r.kind u (subst (λ (m : ℕ). kind_from m ≡ Err u) (sym e) is) kinds.Alias) (λ p. refl)))
    r.kind refl

-- whether a declaration is a plain alias
abbrev is_plain_one : Book → ℕ → Bool
is_plain_one book n = is_kind 23 (book ! n) && not (is_generic book n)

plain_test : (book : Book) (n : ℕ) → plain.is_plain_alias book n ≡ is_plain_one book n
plain_test book n = by (kind_from (book ! n).kind) (told_by (book ! n)) (parameter_behind book n) refl
  where
    by : (x : Result Kind UnknownKind) → IsAnAlias (book ! n) x → (p : Option ℕ) → parameter_behind book n ≡ p
        → is_plain x p ≡ is_plain_one book n
    by x (it_is_not q f) p is = f p ∙ ap (λ (b : Bool). b && not (is_generic book n)) (sym q)
    by x (it_is q f) None is = f None ∙ ap not (sym (no_parameter book n is))
        ∙ ap (λ (b : Bool). b && not (is_generic book n)) (sym q)
    by x (it_is q f) (Some y) is = f (Some y) ∙ ap not (sym (a_parameter_is book n y is))
        ∙ ap (λ (b : Bool). b && not (is_generic book n)) (sym q)

first_so : (a b : Bool) → a && b ≡ true → a ≡ true
first_so true b e = refl
first_so false b e = cc

-- what passes both tests
keep_both : (p q : ℕ → Bool) (l : List ℕ) → keep (λ n. p n && q n) l ≡ keep q (keep p l)
unfolding keep
keep_both p q [] = refl
keep_both p q (n ∷ l) = go (p n) (keep_both p q l)
  where
    go : (b : Bool) → keep (λ n. p n && q n) l ≡ keep q (keep p l)
        → cond (b && q n) (n ∷ keep (λ n. p n && q n) l) (keep (λ n. p n && q n) l)
        ≡ keep q (cond b (n ∷ keep p l) (keep p l))
    go true e = ap (λ (m : List ℕ). cond (q n) (n ∷ m) m) e
    go false e = e

-- the plain aliases are those among the declarations
plain_among : (book : Book) → keep (is_plain_one book) (numbers_of is_declaration book) ≡ plain_aliases book
unfolding plain_aliases numbers_of
plain_among book =
    keep_keep (is_plain_one book) (λ n. is_declaration (book ! n))
    (λ n e. (alias_declares (book ! n) (first_so (is_kind 23 (book ! n)) (not (is_generic book n)) e)).0)
    (up_to (length book.records))
    ∙ keep_both (λ n. is_kind 23 (book ! n)) (λ n. not (is_generic book n)) (up_to (length book.records))

module _ (lent : Lent) (book : Book) where
  -- what is known while some plain aliases are left: their names are different, and none of them is lowered
  record Unlowered (ns : List ℕ) (k : Names) (rs : List Record) : Type 0 where
    pub apart : Distinct (names book ns)
    pub none_yet : (n : ℕ) → Memᴰ n ns → alias_of k (book ! n).a ≡ none

  abbrev step_of : ℕ → code.State → code.Outcome (Unit {0})
  step_of n c = plain.if_alias (plain.is_plain_alias c.book n) n c

  each_is : (ns : List ℕ) (c : code.State) → each (tt {0}) step_of ns c ≡ plain.lower_aliases ns c
  unfolding each plain.lower_aliases
  each_is [] c = refl
  each_is (n ∷ ns) c = λ i. code.next (step_of n c) (λ b t. each_is ns t i)

  one_more : (n : ℕ) (ns : List ℕ) (k k' : Names) (rs rs' : List Record) → Unlowered (n ∷ ns) k rs
      → OneAlias (book ! n).a k k' → Unlowered ns k' rs'
  unfolding alias_of
  one_more n ns k k' rs rs' h one = record {
    apart = h.apart.1;
    none_yet = λ m among.
        ap (λ (l : List (ℕ × ResolvedType)). entry (book ! m).a l) one.aliases_are
        ∙ entry_old (book ! m).a (book ! n).a k.aliases one.type (other m among)
        ∙ h.none_yet m (Memᴰ.tail among);
  }
    where
      other : (m : ℕ) → Memᴰ m ns → (book ! m).a ≡ (book ! n).a → ⊥
      other m among e =
          true≢false
          (sym (any-map (λ x. eqb x (book ! n).a) (λ j. (book ! j).a) ns
          ∙ mem_any (λ j. eqb (book ! j).a (book ! n).a) among (eq-eqb _ _ e)) ∙ h.apart.0)

  -- the code lowers all plain aliases as the definitions do
  pub does_aliases : (c : code.State) (k : Names) (s : State) → Stands lent book c k s
      → Distinct (names book (plain_aliases book)) → ((n : ℕ) → Memᴰ n (plain_aliases book)
      → alias_of k (book ! n).a ≡ none)
      → Does {A = Unit {0}} {B = Unit {0}} lent book Always (plain.lower_aliases (numbers_of is_declaration book) c)
      (for_each (lower_alias book) (plain_aliases book)) k s
  does_aliases c k s h apart none_yet =
      let ns : List ℕ = numbers_of is_declaration book in
      subst (λ (o : code.Outcome (Unit {0})). Does {A = Unit {0}} {B = Unit {0}} lent book Always o
      (for_each (lower_alias book) (plain_aliases book)) k s) (each_is ns c)
      (does_map lent book (λ (u v : Unit {0}) k' rs. Unlowered [] k' rs) Always (each (tt {0}) step_of ns c)
      (for_each (lower_alias book) (plain_aliases book)) k s (λ n a k' rs v. tt)
      (subst (λ (l : List ℕ). Does lent book (λ (u v : Unit {0}) k' rs. Unlowered [] k' rs) (each (tt {0}) step_of ns c)
      (for_each (lower_alias book) l) k s) (plain_among book)
      (does_each (tt {0}) lent book step_of (lower_alias book) (is_plain_one book) Unlowered one none_of ns c k s h
      (subst (λ (l : List ℕ). Unlowered l k s.results) (sym (plain_among book))
      (record { apart = apart; none_yet = none_yet })))))
    where
      one : (n : ℕ) (ns : List ℕ) → is_plain_one book n ≡ true → (c : code.State) (k : Names) (s : State)
          → Stands lent book c k s → Unlowered (n ∷ ns) k s.results
          → Does lent book (λ (b u : Unit {0}) k' rs. Unlowered ns k' rs) (step_of n c) (lower_alias book n) k s
      one n ns e c k s h i =
          let told : plain.is_plain_alias c.book n ≡ true = ap (λ (b : Book). plain.is_plain_alias b n) h.book_is
          ∙ plain_test book n ∙ e in
          subst (λ (b : Bool). Does lent book (λ (b u : Unit {0}) k' rs. Unlowered ns k' rs) (plain.if_alias b n c)
          (lower_alias book n) k s) (sym told)
          (does_map lent book (λ (u v : Unit {0}) k' rs. OneAlias (book ! n).a k k')
          (λ (u v : Unit {0}) k' rs. Unlowered ns k' rs) (plain.lower_alias n c) (lower_alias book n) k s
          (λ u v k' rs one. one_more n ns k k' s.results rs i one)
          (does_alias lent book n (first_so (is_kind 23 (book ! n)) (not (is_generic book n)) e) c k s h
          (i.none_yet n (Memᴰ.head refl))))

      none_of : (n : ℕ) → is_plain_one book n ≡ false → (c : code.State) (k : Names) (s : State)
          → Stands lent book c k s → step_of n c ≡ code.done (tt {0}) c
      none_of n e c k s h =
          let told : plain.is_plain_alias c.book n ≡ false = ap (λ (b : Book). plain.is_plain_alias b n) h.book_is
          ∙ plain_test book n ∙ e in
          ap (λ (b : Bool). plain.if_alias b n c) told
