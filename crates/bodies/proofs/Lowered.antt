-- The code lowers messages, unions, newtypes and constants as the definitions say.
-- Assumes nothing.
use Rattle.std.proofs.Common.{◌≡◌, ℕ, zero, suc, ◌+◌, ◌-◌, ◌<◌, ◌≤◌, Bool, true, false, not, cond, List, []}
use Rattle.std.proofs.Common.{◌∷◌, length, ltb, eqb, refl, sym, ap, ◌∙◌, subst, arith, true≢false}
use Rattle.std.proofs.lemmas.Bool.Decides.{nat_tests}
use Rattle.record.specs.declared.Record.{Record}
use Rattle.record.specs.Kind.{kind_from}
use Rattle.book.specs.Lists.{any, keep, keep_while, from}
use Rattle.book.specs.Faults.{is_declaration}
use Rattle.book.specs.Outline.{Book, ◌!◌, is_one_of, notes, items}
use Rattle.book.specs.Trees.{WellFormed}
use Rattle.types.specs.Lowering.{State, moved}
use Rattle.types.specs.Resolved.{Names}
use Rattle.types.specs.Step.{Step, ◌>>=◌, ◌>>◌, give, at, emit, for_each}
use Rattle.types.specs.Resolve.{resolve_type}
use Rattle.types.specs.Stands.{Lent, Stands, Does, Roots, Always, SameNumber}
use Rattle.types.specs.Code as code
use Rattle.types.specs.Walk.{walked}
use Rattle.types.proofs.Refining.{does_then, does_next, does_give, does_at, stands_moved}
use Rattle.types.proofs.Resolves.{does_resolve_type}
use Rattle.bodies.specs.Encoding.{has_annotation}
use Rattle.bodies.specs.Bodies.{carried, lower_field, lower_tombstone, lower_variant, lower_item, lower_message}
use Rattle.bodies.specs.Bodies.{lower_union, lower_newtype, lower_decl}
use Rattle.bodies.specs.Annotated.{no_annotations}
use Rattle.bodies.specs.Code as bodies
use Rattle.bodies.proofs.Looking.{one_of, declared, Item, a_field, a_tombstone, a_variant, a_declaration, neither}
use Rattle.bodies.proofs.Looking.{item_of, Declaration, a_message, a_union, a_newtype, another, declaration_of}
use Rattle.bodies.proofs.Annotating.{outside_from, notes_among, notes_are, delta_seen}
use Rattle.bodies.proofs.Constraints.{does_emits}
use Rattle.bodies.proofs.Members.{does_write, does_field, does_tombstone, does_variant}

-- the items among so many records from one on, up to the first declaration
abbrev items_from : Book → ℕ → ℕ → List ℕ
items_from book n m = keep (λ i. is_one_of (31 ∷ 32 ∷ 33 ∷ []) (book ! i))
    (keep_while (λ i. not (is_declaration (book ! i))) (from n m))

-- the messages, unions and newtypes among so many records from one on
abbrev pub types_from : Book → ℕ → ℕ → List ℕ
types_from book n m = keep (λ i. is_one_of (20 ∷ 21 ∷ 22 ∷ []) (book ! i)) (from n m)

-- a part of a tree is no item, and no declaration
small : (n : ℕ) → ltb 16 n ≡ false → n ≤ 16
small n e = grind (arith, nat_tests)

not_declared : (n : ℕ) → n ≤ 16 → declared n ≡ false
not_declared n e = grind (arith, nat_tests)

no_item : (n : ℕ) → n ≤ 16 → Item n → one_of (31 ∷ 32 ∷ 33 ∷ []) n ≡ false
no_item n e (a_field f) = absurd (omega arith)
no_item n e (a_tombstone f) = absurd (omega arith)
no_item n e (a_variant f) = absurd (omega arith)
no_item n e (a_declaration d f) = absurd (true≢false (sym d ∙ not_declared n e))
no_item n e (neither d f g) = f

no_type : (n : ℕ) → n ≤ 16 → Declaration n → one_of (20 ∷ 21 ∷ 22 ∷ []) n ≡ false
no_type n e (a_message f) = absurd (omega arith)
no_type n e (a_union f) = absurd (omega arith)
no_type n e (a_newtype f) = absurd (omega arith)
no_type n e (another f g) = f

module _ (lent : Lent) (book : Book) (sound : WellFormed book.records) where
  abbrev is_item : ℕ → Bool
  is_item i = is_one_of (31 ∷ 32 ∷ 33 ∷ []) (book ! i)

  abbrev is_type : ℕ → Bool
  is_type i = is_one_of (20 ∷ 21 ∷ 22 ∷ []) (book ! i)

  -- record n, and what stands behind it
  module _ (delta : Bool) (n : ℕ) (inside : n < length book.records) (behind : List ℕ)
      (noted : notes_among book behind ≡ notes book n) (rest : List ℕ)
      (later : (c : code.State) (k : Names) (s : State) → Stands lent book c k s
      → Does lent book Always (bodies.lower_items delta behind c)
      (for_each (lower_item book delta) (keep is_item rest)) k
      s) where
    Items : (o : code.Outcome Unit) (ns : List ℕ) (k : Names) (s : State) → Type 0
    Items o ns k s = Does lent book Always o (for_each (lower_item book delta) ns) k s

    on : code.State → code.Outcome Unit
    on t = bodies.lower_items delta behind t

    -- the item here, and those behind it
    first_item : (o : code.Outcome Unit) (c : code.State) (k : Names) (s : State)
        → Does lent book Always o (lower_item book delta n) k s
        → Items (code.next o (λ x t. on t)) (n ∷ keep is_item rest) k s
    unfolding Items on for_each
    first_item o c k s h =
        does_next lent book Always Always o (lower_item book delta n) (λ x t. on t)
        (for_each (lower_item book delta) (keep is_item rest)) k s h
        (λ x c₁ y k₁ s₁ st grown v. later c₁ k₁ s₁ st)

    -- the items from here on, by whether it is a declaration, and an item
    from_here : (d b : Bool) → declared (book ! n).kind ≡ d → is_item n ≡ b
        → keep is_item (cond (not (is_declaration (book ! n))) (n ∷ rest) [])
        ≡ cond d [] (cond b (n ∷ keep is_item rest) (keep is_item rest))
    unfolding keep
    from_here d b e f =
        ap (λ (v : Bool). keep is_item (cond (not v) (n ∷ rest) [])) e ∙ go d
      where
        go : (d : Bool) → keep is_item (cond (not d) (n ∷ rest) [])
            ≡ cond d [] (cond b (n ∷ keep is_item rest) (keep is_item rest))
        go true = refl
        go false = ap (λ (v : Bool). cond v (n ∷ keep is_item rest) (keep is_item rest)) f

    -- what an item is lowered by
    by_kind : (o : code.Outcome Unit) (k : Names) (s : State) (i : ℕ) → (book ! n).kind ≡ i
        → Does lent book Always o (at n >> cond (eqb i 31) (lower_field book delta n)
        (cond (eqb i 32) (lower_tombstone book n) (lower_variant book n))) k s
        → Does lent book Always o (lower_item book delta n) k s
    unfolding lower_item
    by_kind o k s i e h =
        subst (λ (j : ℕ). Does lent book Always o
        (at n >> cond (eqb j 31) (lower_field book delta n)
        (cond (eqb j 32) (lower_tombstone book n) (lower_variant book n))) k s) (sym e) h

    at_item : Item (book ! n).kind → (c : code.State) (k : Names) (s : State) → Stands lent book c k s
        → Items (bodies.item_by (kind_from (book ! n).kind) delta n behind c (λ t. on t))
        (keep is_item (cond (not (is_declaration (book ! n))) (n ∷ rest) [])) k s
    unfolding Items on any kind_from for_each
    at_item (a_field e) c k s h =
        subst (λ (ns : List ℕ). Items (bodies.item_by (kind_from (book ! n).kind) delta n behind c (λ t. on t)) ns k s)
        (sym (from_here false true (ap declared e) (ap (one_of (31 ∷ 32 ∷ 33 ∷ [])) e)))
        (subst (λ (i : ℕ). Items (bodies.item_by (kind_from i) delta n behind c (λ t. on t)) (n ∷ keep is_item rest) k
        s) (sym e)
        (first_item (bodies.lower_field delta n behind c) c k s
        (by_kind (bodies.lower_field delta n behind c) k s 31 e
        (does_field lent book sound n inside behind noted e delta c k s h))))
    at_item (a_tombstone e) c k s h =
        subst (λ (ns : List ℕ). Items (bodies.item_by (kind_from (book ! n).kind) delta n behind c (λ t. on t)) ns k s)
        (sym (from_here false true (ap declared e) (ap (one_of (31 ∷ 32 ∷ 33 ∷ [])) e)))
        (subst (λ (i : ℕ). Items (bodies.item_by (kind_from i) delta n behind c (λ t. on t)) (n ∷ keep is_item rest) k
        s) (sym e)
        (first_item (bodies.lower_tombstone n behind c) c k s
        (by_kind (bodies.lower_tombstone n behind c) k s 32 e
        (does_tombstone lent book sound n inside behind noted c k s h))))
    at_item (a_variant e) c k s h =
        subst (λ (ns : List ℕ). Items (bodies.item_by (kind_from (book ! n).kind) delta n behind c (λ t. on t)) ns k s)
        (sym (from_here false true (ap declared e) (ap (one_of (31 ∷ 32 ∷ 33 ∷ [])) e)))
        (subst (λ (i : ℕ). Items (bodies.item_by (kind_from i) delta n behind c (λ t. on t)) (n ∷ keep is_item rest) k
        s) (sym e)
        (first_item (bodies.lower_variant n c) c k s
        (by_kind (bodies.lower_variant n c) k s 33 e (does_variant lent book sound n inside behind noted c k s h))))
    at_item (a_declaration d f) c k s h =
        subst (λ (ns : List ℕ). Items (bodies.item_by (kind_from (book ! n).kind) delta n behind c (λ t. on t)) ns k s)
        (sym (from_here true (is_item n) d refl))
        (subst (λ (o : code.Outcome Unit). Items o [] k s) (sym (f delta n behind c (λ t. on t)))
        (does_give lent book Always (tt {0}) (tt {0}) c k s h tt))
    at_item (neither d f g) c k s h =
        subst (λ (ns : List ℕ). Items (bodies.item_by (kind_from (book ! n).kind) delta n behind c (λ t. on t)) ns k s)
        (sym (from_here false false d f))
        (subst (λ (o : code.Outcome Unit). Items o (keep is_item rest) k s) (sym (g delta n behind c (λ t. on t)))
        (later c k s h))

  items_step : (delta : Bool) (m n : ℕ) → n + suc m ≡ length book.records
      → ((c : code.State) (k : Names) (s : State) → Stands lent book c k s
      → Does lent book Always (bodies.lower_items delta (outside_from book (suc n) m) c)
      (for_each (lower_item book delta) (items_from book (suc n) m)) k s)
      → (b : Bool) → ltb 16 (book ! n).kind ≡ b → (c : code.State) (k : Names) (s : State) → Stands lent book c k s
      → Does lent book Always (bodies.lower_items delta
      (cond b (n ∷ outside_from book (suc n) m) (outside_from book (suc n) m)) c)
      (for_each (lower_item book delta)
      (keep is_item (cond (not (is_declaration (book ! n)))
      (n ∷ keep_while (λ i. not (is_declaration (book ! i))) (from (suc n) m)) []))) k s
  unfolding bodies.lower_items Items on
  items_step delta m n e later true t c k s h =
      subst (λ (d : Book). Does lent book Always
      (bodies.item_by (kind_from (d ! n).kind) delta n (outside_from book (suc n) m) c
      (λ t. bodies.lower_items delta (outside_from book (suc n) m) t))
      (for_each (lower_item book delta)
      (keep is_item (cond (not (is_declaration (book ! n)))
      (n ∷ keep_while (λ i. not (is_declaration (book ! i))) (from (suc n) m)) []))) k s) (sym h.book_is)
      (at_item delta n (omega arith) (outside_from book (suc n) m) (notes_are book n m (omega arith))
      (keep_while (λ i. not (is_declaration (book ! i))) (from (suc n) m)) later (item_of (book ! n).kind) c k s h)
  items_step delta m n e later false t c k s h =
      let less : (book ! n).kind ≤ 16 = small (book ! n).kind t in
      subst (λ (ns : List ℕ). Does lent book Always (bodies.lower_items delta (outside_from book (suc n) m) c)
      (for_each (lower_item book delta) ns) k s)
      (sym (from_here delta n (omega arith) (outside_from book (suc n) m) (notes_are book n m (omega arith))
      (keep_while (λ i. not (is_declaration (book ! i))) (from (suc n) m)) later false false
      (not_declared (book ! n).kind less) (no_item (book ! n).kind less (item_of (book ! n).kind))))
      (later c k s h)

  does_items : (delta : Bool) (m n : ℕ) → n + m ≡ length book.records → (c : code.State) (k : Names) (s : State)
      → Stands lent book c k s
      → Does lent book Always (bodies.lower_items delta (outside_from book n m) c)
      (for_each (lower_item book delta) (items_from book n m)) k s
  unfolding from keep keep_while bodies.lower_items for_each
  does_items delta zero n e c k s h = does_give lent book Always (tt {0}) (tt {0}) c k s h tt
  does_items delta (suc m) n e c k s h =
      items_step delta m n e (λ c k s h. does_items delta m (suc n) (omega arith) c k s h) (ltb 16 (book ! n).kind)
      refl c k s h

  -- record n is a message, a union or a newtype, and m records stand behind it
  module _ (n m : ℕ) (e : suc n + m ≡ length book.records) where
    behind_is : from (suc n) (length book.records - suc n) ≡ from (suc n) m
    behind_is = ap (from (suc n)) (omega arith)

    -- its own record, and its items
    does_body : (kind : ℕ) (delta : Bool) (c : code.State) (k : Names) (s : State) → Stands lent book c k s
        → Does lent book Always (bodies.lower_body kind n (outside_from book (suc n) m) delta c)
        (at n >> (emit (carried kind (book ! n).a 0 0 (book ! n)) >> for_each (lower_item book delta) (items book n)))
        k s
    unfolding bodies.lower_body items
    does_body kind delta c k s h =
        subst (λ (ns : List ℕ). Does lent book Always (bodies.lower_body kind n (outside_from book (suc n) m) delta c)
        (at n >> (emit (carried kind (book ! n).a 0 0 (book ! n)) >> for_each (lower_item book delta)
        (keep is_item (keep_while (λ i. not (is_declaration (book ! i))) ns)))) k s) (sym behind_is)
        (subst (λ (d : Book). Does lent book Always
        (code.next (code.emit (carried kind (d ! n).a 0 0 (d ! n)) (record c { place = n }))
        (λ i t. bodies.lower_items delta (outside_from book (suc n) m) t))
        (at n >> (emit (carried kind (book ! n).a 0 0 (book ! n)) >> for_each (lower_item book delta)
        (items_from book (suc n) m))) k s) (sym h.book_is)
        (let c' : code.State = record c { place = n } in
        let r : Record = carried kind (book ! n).a 0 0 (book ! n) in
        does_at lent book Always n (code.next (code.emit r c')
        (λ i t. bodies.lower_items delta (outside_from book (suc n) m) t))
        (emit r >> for_each (lower_item book delta) (items_from book (suc n) m)) k s
        (does_next lent book SameNumber Always (code.emit r c') (emit r)
        (λ i t. bodies.lower_items delta (outside_from book (suc n) m) t)
        (for_each (lower_item book delta) (items_from book (suc n) m)) k (moved n s)
        (does_emits lent book r c' k (moved n s) (stands_moved lent book n c k s h))
        (λ i c₁ j k₁ s₁ st grown v. does_items delta m (suc n) e c₁ k₁ s₁ st))))

    does_message : (c : code.State) (k : Names) (s : State) → Stands lent book c k s
        → Does lent book Always (bodies.lower_message n (outside_from book (suc n) m) c) (at n >> lower_message book n)
        k s
    unfolding lower_message
    does_message c k s h =
        subst (λ (b : Bool). Does lent book Always (bodies.lower_body 42 n (outside_from book (suc n) m) b c)
        (at n >> (emit (carried 42 (book ! n).a 0 0 (book ! n)) >> for_each
        (lower_item book (has_annotation 2 (notes book n))) (items book n))) k s)
        (sym (ap (λ (d : Book). (bodies.seen_behind d (outside_from book (suc n) m) no_annotations).delta) h.book_is
        ∙ delta_seen book (outside_from book (suc n) m) ∙ ap (has_annotation 2) (notes_are book n m e)))
        (does_body 42 (has_annotation 2 (notes book n)) c k s h)

    does_union : (c : code.State) (k : Names) (s : State) → Stands lent book c k s
        → Does lent book Always (bodies.lower_union n (outside_from book (suc n) m) c) (at n >> lower_union book n) k s
    unfolding lower_union
    does_union c k s h = does_body 43 false c k s h

    does_newtype : (c : code.State) (k : Names) (s : State) → Stands lent book c k s
        → Does lent book Always (bodies.lower_newtype n c) (at n >> lower_newtype book n) k s
    unfolding bodies.lower_newtype lower_newtype
    does_newtype c k s h =
        subst (λ (d : Book). Does lent book Always
        (code.next (walked (d ! n).b (record c { place = n }))
        (λ root t. bodies.write (carried 48 (d ! n).a root 0 (d ! n)) t)) (at n >> lower_newtype book n) k s)
        (sym h.book_is)
        (let c' : code.State = record c { place = n } in
        let g : ℕ → Step Unit = λ root. emit (carried 48 (book ! n).a root 0 (book ! n)) >> give (tt {0}) in
        does_at lent book Always n (code.next (walked (book ! n).b c')
        (λ root t. bodies.write (carried 48 (book ! n).a root 0 (book ! n)) t))
        (resolve_type book (book ! n).b >>= λ t. g t.root) k s
        (does_then lent book (Roots k s.results) Always (walked (book ! n).b c') (resolve_type book (book ! n).b)
        (λ root t. bodies.write (carried 48 (book ! n).a root 0 (book ! n)) t) (λ t. g t.root) k (moved n s)
        (does_resolve_type lent book (book ! n).b c' k (moved n s) (stands_moved lent book n c k s h))
        (λ root c₁ t k₁ s₁ st grown v.
        subst (λ (i : ℕ). Does lent book Always (bodies.write (carried 48 (book ! n).a root 0 (book ! n)) c₁) (g i) k₁
        s₁)
        v.root_is
        (does_write lent book (carried 48 (book ! n).a root 0 (book ! n)) c₁ k₁ s₁ st))))

    -- what a declaration is lowered by
    by_its_kind : (o : code.Outcome Unit) (k : Names) (s : State) (i : ℕ) → (book ! n).kind ≡ i
        → Does lent book Always o (at n >> cond (eqb i 20) (lower_message book n)
        (cond (eqb i 21) (lower_union book n) (lower_newtype book n))) k s
        → Does lent book Always o (lower_decl book n) k s
    unfolding lower_decl
    by_its_kind o k s i e h =
        subst (λ (j : ℕ). Does lent book Always o
        (at n >> cond (eqb j 20) (lower_message book n)
        (cond (eqb j 21) (lower_union book n) (lower_newtype book n))) k s) (sym e) h

    module _ (later : (c : code.State) (k : Names) (s : State) → Stands lent book c k s
        → Does lent book Always (bodies.lower_bodies (outside_from book (suc n) m) c)
        (for_each (lower_decl book) (types_from book (suc n) m)) k s) where
      Bodies : (o : code.Outcome Unit) (ns : List ℕ) (k : Names) (s : State) → Type 0
      Bodies o ns k s = Does lent book Always o (for_each (lower_decl book) ns) k s

      further : code.State → code.Outcome Unit
      further t = bodies.lower_bodies (outside_from book (suc n) m) t

      first_declaration : (o : code.Outcome Unit) (c : code.State) (k : Names) (s : State)
          → Does lent book Always o (lower_decl book n) k s
          → Bodies (code.next o (λ x t. further t)) (n ∷ types_from book (suc n) m) k s
      unfolding Bodies further for_each
      first_declaration o c k s h =
          does_next lent book Always Always o (lower_decl book n) (λ x t. further t)
          (for_each (lower_decl book) (types_from book (suc n) m)) k s h
          (λ x c₁ y k₁ s₁ st grown v. later c₁ k₁ s₁ st)

      at_declaration : Declaration (book ! n).kind → (c : code.State) (k : Names) (s : State) → Stands lent book c k s
          → Bodies (bodies.decl_by (kind_from (book ! n).kind) n (outside_from book (suc n) m) c (λ t. further t))
          (cond (is_type n) (n ∷ types_from book (suc n) m) (types_from book (suc n) m)) k s
      unfolding Bodies further any kind_from
      at_declaration (a_message e) c k s h =
          subst (λ (b : Bool). Bodies (bodies.decl_by (kind_from (book ! n).kind) n (outside_from book (suc n) m) c
          (λ t. further t)) (cond b (n ∷ types_from book (suc n) m) (types_from book (suc n) m)) k s)
          (sym (ap (one_of (20 ∷ 21 ∷ 22 ∷ [])) e))
          (subst (λ (i : ℕ). Bodies (bodies.decl_by (kind_from i) n (outside_from book (suc n) m) c (λ t. further t))
          (n ∷ types_from book (suc n) m) k s) (sym e)
          (first_declaration (bodies.lower_message n (outside_from book (suc n) m) c) c k s
          (by_its_kind (bodies.lower_message n (outside_from book (suc n) m) c) k s 20 e (does_message c k s h))))
      at_declaration (a_union e) c k s h =
          subst (λ (b : Bool). Bodies (bodies.decl_by (kind_from (book ! n).kind) n (outside_from book (suc n) m) c
          (λ t. further t)) (cond b (n ∷ types_from book (suc n) m) (types_from book (suc n) m)) k s)
          (sym (ap (one_of (20 ∷ 21 ∷ 22 ∷ [])) e))
          (subst (λ (i : ℕ). Bodies (bodies.decl_by (kind_from i) n (outside_from book (suc n) m) c (λ t. further t))
          (n ∷ types_from book (suc n) m) k s) (sym e)
          (first_declaration (bodies.lower_union n (outside_from book (suc n) m) c) c k s
          (by_its_kind (bodies.lower_union n (outside_from book (suc n) m) c) k s 21 e (does_union c k s h))))
      at_declaration (a_newtype e) c k s h =
          subst (λ (b : Bool). Bodies (bodies.decl_by (kind_from (book ! n).kind) n (outside_from book (suc n) m) c
          (λ t. further t)) (cond b (n ∷ types_from book (suc n) m) (types_from book (suc n) m)) k s)
          (sym (ap (one_of (20 ∷ 21 ∷ 22 ∷ [])) e))
          (subst (λ (i : ℕ). Bodies (bodies.decl_by (kind_from i) n (outside_from book (suc n) m) c (λ t. further t))
          (n ∷ types_from book (suc n) m) k s) (sym e)
          (first_declaration (bodies.lower_newtype n c) c k s
          (by_its_kind (bodies.lower_newtype n c) k s 22 e (does_newtype c k s h))))
      at_declaration (another f g) c k s h =
          subst (λ (b : Bool). Bodies (bodies.decl_by (kind_from (book ! n).kind) n (outside_from book (suc n) m) c
          (λ t. further t)) (cond b (n ∷ types_from book (suc n) m) (types_from book (suc n) m)) k s)
          (sym f)
          (subst (λ (o : code.Outcome Unit). Bodies o (types_from book (suc n) m) k s)
          (sym (g n (outside_from book (suc n) m) c (λ t. further t))) (later c k s h))

      bodies_step : (b : Bool) → ltb 16 (book ! n).kind ≡ b → (c : code.State) (k : Names) (s : State)
          → Stands lent book c k s
          → Does lent book Always (bodies.lower_bodies
          (cond b (n ∷ outside_from book (suc n) m) (outside_from book (suc n) m)) c)
          (for_each (lower_decl book) (cond (is_type n) (n ∷ types_from book (suc n) m) (types_from book (suc n) m))) k
          s
      unfolding bodies.lower_bodies Bodies further
      bodies_step true t c k s h =
          subst (λ (d : Book). Does lent book Always
          (bodies.decl_by (kind_from (d ! n).kind) n (outside_from book (suc n) m) c
          (λ t. bodies.lower_bodies (outside_from book (suc n) m) t))
          (for_each (lower_decl book) (cond (is_type n) (n ∷ types_from book (suc n) m) (types_from book (suc n) m))) k
          s) (sym h.book_is)
          (at_declaration (declaration_of (book ! n).kind) c k s h)
      bodies_step false t c k s h =
          let less : (book ! n).kind ≤ 16 = small (book ! n).kind t in
          subst (λ (b : Bool). Does lent book Always (bodies.lower_bodies (outside_from book (suc n) m) c)
          (for_each (lower_decl book) (cond b (n ∷ types_from book (suc n) m) (types_from book (suc n) m))) k s)
          (sym (no_type (book ! n).kind less (declaration_of (book ! n).kind))) (later c k s h)

  pub bodies_from : (m n : ℕ) → n + m ≡ length book.records → (c : code.State) (k : Names) (s : State)
      → Stands lent book c k s
      → Does lent book Always (bodies.lower_bodies (outside_from book n m) c)
      (for_each (lower_decl book) (types_from book n m)) k s
  unfolding from keep bodies.lower_bodies for_each
  bodies_from zero n e c k s h = does_give lent book Always (tt {0}) (tt {0}) c k s h tt
  bodies_from (suc m) n e c k s h =
      bodies_step n m (omega arith) (λ c k s h. bodies_from m (suc n) (omega arith) c k s h) (ltb 16 (book ! n).kind)
      refl c k s h
