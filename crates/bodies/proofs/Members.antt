-- The code lowers fields, tombstones and variants as the definitions say.
-- Assumes nothing.
use Rattle.std.proofs.Common.{◌≡◌, ℕ, ◌+◌, ◌<◌, Bool, true, false, List, [], ◌++◌, length}
use Rattle.std.proofs.Common.{eqb, refl, sym, ap, ◌∙◌, subst, arith, inl, Some, Option, append-nil, eq-eqb}
use Rattle.std.proofs.Common.{true≢false}
use Rattle.std.specs.Prelude.{slice_get}
use Rattle.record.specs.declared.Record.{Record}
use Rattle.record.specs.Reference.{reference, reference_number}
use Rattle.record.specs.Written.{Written, read_at}
use Rattle.book.specs.Outline.{Book, ◌!◌, notes}
use Rattle.book.specs.Lists.{keep}
use Rattle.book.specs.Shape.{table, row, item, name, child, type, child?, constraint, ordinal, child_in}
use Rattle.book.specs.Trees.{WellFormed, IsChild}
use Rattle.book.proofs.Soles.{children_by_row, child_there}
use Rattle.types.specs.Lowering.{State, moved}
use Rattle.types.specs.Resolved.{Names}
use Rattle.types.specs.Step.{Step, Resolved, ◌>>=◌, ◌>>◌, give, at, emit}
use Rattle.types.specs.Records.{below, type_records, StandsAt}
use Rattle.types.specs.Resolve.{resolve_type}
use Rattle.types.specs.Stands.{Lent, Stands, Does, Roots, Always, SameNumber}
use Rattle.types.specs.Code as code
use Rattle.types.specs.Walk.{walked}
use Rattle.types.proofs.TypeRecords.{root_record}
use Rattle.types.proofs.Placed.{standing, root_there}
use Rattle.types.proofs.Refining.{does_then, does_next, does_give, does_as, does_at, stands_moved}
use Rattle.types.proofs.Resolves.{does_resolve_type}
use Rattle.bodies.specs.Encoding.{FieldEncoding, compute_field_encoding, under_delta, encoding_record}
use Rattle.bodies.specs.Constraint.{lower_where_expr}
use Rattle.bodies.specs.Bodies.{carried, unless_none, first_string, lower_field, lower_tombstone, lower_variant}
use Rattle.bodies.specs.Annotated.{no_annotations, field_encoding_of, encoded, under_root}
use Rattle.bodies.specs.Code as bodies
use Rattle.bodies.proofs.Whole.{Of}
use Rattle.bodies.proofs.Annotating.{notes_among, strings_behind, encoding_seen, delta_same}
use Rattle.bodies.proofs.Constraints.{does_emits, does_where, SameReference, does_optional}

module _ (lent : Lent) (book : Book) where
  -- one result, whatever its number
  pub does_write : (r : Record) (c : code.State) (k : Names) (s : State) → Stands lent book c k s
      → Does lent book Always (bodies.write r c) (emit r >> give (tt {0})) k s
  unfolding bodies.write
  does_write r c k s h =
      does_next lent book SameNumber Always (code.emit r c) (emit r) (λ n t. code.done (tt {0}) t) (give (tt {0})) k s
      (does_emits lent book r c k s h)
      (λ n c₁ m k₁ s₁ st grown e. does_give lent book Always (tt {0}) (tt {0}) c₁ k₁ s₁ st tt)

  -- the type of a declaration or an item, by the number of its root
  pub does_root : (n : ℕ) (c : code.State) (k : Names) (s : State) → Stands lent book c k s
      → Does lent book SameNumber (walked n c) (resolve_type book n >>= λ t. give t.root) k s
  does_root n c k s h =
      does_as lent book (Roots k s.results) SameNumber (walked n c) (resolve_type book n) (λ (t : Resolved). t.root) k s
      (λ i t k' rs v. v.root_is) (does_resolve_type lent book n c k s h)

  -- the root of a type that was resolved is read among the results
  root_read : (rs : List Record) (n : ℕ) (c : code.State) (t : Resolved) (k₀ k : Names) (s : State)
      → Stands lent book c k s → Roots k₀ rs n t k s.results
      → read_at c.results n ≡ Some (root_record (length rs) t.type)
  unfolding read_at
  root_read rs n c t k₀ k s h v =
      let there : s.results ≡ rs ++ (type_records (length rs) t.type ++ []) =
      v.adds ∙ ap (λ (l : List Record). rs ++ l) (sym (append-nil (type_records (length rs) t.type))) in
      let stands : StandsAt s.results (length rs) (length rs + below t.type) t.type =
      standing s.results rs [] (length rs) t.type there refl in
      ap (λ (w : Written). slice_get w.records n) h.results_are
      ∙ ap (slice_get s.results) (v.root_is ∙ v.root_at)
      ∙ root_there s.results (length rs) (length rs + below t.type) t.type stands

module _ (lent : Lent) (book : Book) (sound : WellFormed book.records) (n : ℕ) (inside : n < length book.records)
    (behind : List ℕ) (noted : notes_among book behind ≡ notes book n) where
  -- what a field refers to as its constraint
  a_constraint : (book ! n).kind ≡ 31 → ((book ! n).c ≡ 65535 → ⊥)
      → ((book ! n).c < length book.records) × Of (book ! (book ! n).c)
  unfolding keep table child_in
  a_constraint kind there =
      let p = children_by_row book.records sound n inside
      (row item 31 0 0 name (child type) (child? constraint) ordinal) kind refl in
      let c : IsChild book.records n (record { group = constraint; number = (book ! n).c }) =
      child_there (IsChild book.records n) constraint (book ! n).c p.1 there in
      let less : (book ! n).c < n = c.earlier in
      (omega arith, inl c.of_group)

  missing : (i : ℕ) → eqb i 65535 ≡ false → i ≡ 65535 → ⊥
  missing i e f = let g : eqb i 65535 ≡ true = eq-eqb i 65535 f in absurd (true≢false (sym g ∙ e))

  does_constraint : (book ! n).kind ≡ 31 → (c : code.State) (k : Names) (s : State) → Stands lent book c k s
      → Does lent book (SameReference lent book) (bodies.lower_constraint (reference (book ! n).c) c)
      (unless_none (book ! n).c (lower_where_expr 64 book (book ! n).c)) k s
  does_constraint kind c k s h =
      does_optional lent book (book ! n).c (λ i t. bodies.lower_where_expr i t)
      (lower_where_expr 64 book (book ! n).c) c k s h
      (λ e. let q = a_constraint kind (missing (book ! n).c e) in
      does_where lent book sound (book ! n).c q.0 q.1 c k s h)

  -- the encoding of a field, by the root of its type
  encoding_same : (delta : Bool) (rs : List Record) (root : ℕ) (c : code.State) (t : Resolved) (k₀ k : Names)
      (s : State) → Stands lent book c k s → Roots k₀ rs root t k s.results
      → bodies.field_encoding delta root (bodies.seen_behind c.book behind no_annotations) c
      ≡ under_delta delta t.type (compute_field_encoding (notes book n))
  unfolding bodies.field_encoding
  encoding_same delta rs root c t k₀ k s h v =
      ap (λ (x : Option Record). under_root delta x
      (field_encoding_of (encoded (bodies.seen_behind c.book behind no_annotations))))
      (root_read lent book rs root c t k₀ k s h v)
      ∙ ap (λ (d : Book). under_root delta (Some (root_record (length rs) t.type))
      (field_encoding_of (encoded (bodies.seen_behind d behind no_annotations)))) h.book_is
      ∙ ap (under_root delta (Some (root_record (length rs) t.type)))
      (encoding_seen book behind ∙ ap compute_field_encoding noted)
      ∙ delta_same delta (length rs) t.type (compute_field_encoding (notes book n))

  -- what is left to do of a field when its type is resolved
  ending : Bool → ℕ → code.State → code.Outcome Unit
  ending delta root t =
      code.next (bodies.lower_constraint (reference (book ! n).c) t) (λ c u.
      code.next (code.emit (carried 45 (book ! n).a root (reference_number c) (book ! n)) u) (λ m v.
      bodies.write (encoding_record (bodies.field_encoding delta root (bodies.seen_behind t.book behind no_annotations)
      t)) v))

  ending' : Bool → Resolved → Step Unit
  ending' delta t =
      unless_none (book ! n).c (lower_where_expr 64 book (book ! n).c)
      >>= λ c.
      emit (carried 45 (book ! n).a t.root c (book ! n))
      >> (emit (encoding_record (under_delta delta t.type (compute_field_encoding (notes book n)))) >> give (tt {0}))

  does_ending : (book ! n).kind ≡ 31
      → (delta : Bool) (rs : List Record) (root : ℕ) (c : code.State) (t : Resolved) (k₀ k : Names) (s : State)
      → Stands lent book c k s
      → Roots k₀ rs root t k s.results → Does lent book Always (ending delta root c) (ending' delta t) k s
  unfolding ending ending'
  does_ending kind delta rs root c t k₀ k s h v =
      subst (λ (e : FieldEncoding). Does lent book Always (ending delta root c)
      (unless_none (book ! n).c (lower_where_expr 64 book (book ! n).c) >>= λ i. emit
      (carried 45 (book ! n).a t.root i (book ! n)) >> (emit (encoding_record e) >> give (tt {0}))) k s)
      (encoding_same delta rs root c t k₀ k s h v)
      (let e : FieldEncoding = bodies.field_encoding delta root (bodies.seen_behind c.book behind no_annotations) c in
      does_then lent book (SameReference lent book) Always (bodies.lower_constraint (reference (book ! n).c) c)
      (unless_none (book ! n).c (lower_where_expr 64 book (book ! n).c))
      (λ i u. code.next (code.emit (carried 45 (book ! n).a root (reference_number i) (book ! n)) u)
      (λ m w. bodies.write (encoding_record e) w))
      (λ i. emit (carried 45 (book ! n).a t.root i (book ! n)) >> (emit (encoding_record e) >> give (tt {0}))) k s
      (does_constraint kind c k s h)
      (λ i c₁ j k₁ s₁ st grown same.
      subst (λ (x : ℕ). Does lent book Always
      (code.next (code.emit (carried 45 (book ! n).a root (reference_number i) (book ! n)) c₁)
      (λ m w. bodies.write (encoding_record e) w))
      (emit (carried 45 (book ! n).a x j (book ! n)) >> (emit (encoding_record e) >> give (tt {0}))) k₁ s₁) v.root_is
      (subst (λ (x : ℕ). Does lent book Always
      (code.next (code.emit (carried 45 (book ! n).a root (reference_number i) (book ! n)) c₁)
      (λ m w. bodies.write (encoding_record e) w))
      (emit (carried 45 (book ! n).a root x (book ! n)) >> (emit (encoding_record e) >> give (tt {0}))) k₁ s₁) same
      (does_next lent book SameNumber Always
      (code.emit (carried 45 (book ! n).a root (reference_number i) (book ! n)) c₁)
      (emit (carried 45 (book ! n).a root (reference_number i) (book ! n)))
      (λ m w. bodies.write (encoding_record e) w) (emit (encoding_record e) >> give (tt {0})) k₁ s₁
      (does_emits lent book (carried 45 (book ! n).a root (reference_number i) (book ! n)) c₁ k₁ s₁ st)
      (λ m c₂ m' k₂ s₂ st₂ grown₂ e'. does_write lent book (encoding_record e) c₂ k₂ s₂ st₂)))))

  pub does_field : (book ! n).kind ≡ 31 → (delta : Bool) (c : code.State) (k : Names) (s : State)
      → Stands lent book c k s
      → Does lent book Always (bodies.lower_field delta n behind c) (at n >> lower_field book delta n) k s
  unfolding bodies.lower_field lower_field ending ending'
  does_field kind delta c k s h =
      subst (λ (d : Book). Does lent book Always
      (code.next (walked (d ! n).b (record c { place = n })) (λ root t.
      code.next (bodies.lower_constraint (reference (d ! n).c) t) (λ i u.
      code.next (code.emit (carried 45 (d ! n).a root (reference_number i) (d ! n)) u) (λ m v.
      bodies.write (encoding_record (bodies.field_encoding delta root (bodies.seen_behind t.book behind no_annotations)
      t)) v))))
      (at n >> lower_field book delta n) k s) (sym h.book_is)
      (let c' : code.State = record c { place = n } in
      does_at lent book Always n (code.next (walked (book ! n).b c') (λ root t. ending delta root t))
      (resolve_type book (book ! n).b >>= λ t. ending' delta t) k s
      (does_then lent book (Roots k s.results) Always (walked (book ! n).b c') (resolve_type book (book ! n).b)
      (λ root t. ending delta root t) (λ t. ending' delta t) k (moved n s)
      (does_resolve_type lent book (book ! n).b c' k (moved n s) (stands_moved lent book n c k s h))
      (λ root c₁ t k₁ s₁ st grown v. does_ending kind delta s.results root c₁ t k k₁ s₁ st v)))

  -- a tombstone
  pub does_tombstone : (c : code.State) (k : Names) (s : State) → Stands lent book c k s
      → Does lent book Always (bodies.lower_tombstone n behind c) (at n >> lower_tombstone book n) k s
  unfolding bodies.lower_tombstone lower_tombstone
  does_tombstone c k s h =
      subst (λ (d : Book). Does lent book Always
      (code.next (bodies.optional_type (reference (d ! n).c) (record c { place = n })) (λ i t.
      bodies.write (bodies.tombstone_record (bodies.first_string d 0 behind) (bodies.first_string d 1 behind) i
      (d ! n)) t))
      (at n >> lower_tombstone book n) k s) (sym h.book_is)
      (let c' : code.State = record c { place = n } in
      let st' : Stands lent book c' k (moved n s) = stands_moved lent book n c k s h in
      let reason : reference_number (bodies.first_string book 0 behind) ≡ first_string 0 (notes book n) =
      strings_behind 0 book behind ∙ ap (first_string 0) noted in
      let since : reference_number (bodies.first_string book 1 behind) ≡ first_string 1 (notes book n) =
      strings_behind 1 book behind ∙ ap (first_string 1) noted in
      let m : Step ℕ = unless_none (book ! n).c (resolve_type book (book ! n).c >>= λ t. give t.root) in
      let g : ℕ → Step Unit = λ i. emit
      (carried 47 (first_string 0 (notes book n)) (first_string 1 (notes book n)) i (book ! n)) >> give (tt {0}) in
      let r : Option ℕ → Record = λ i. bodies.tombstone_record (bodies.first_string book 0 behind)
      (bodies.first_string book 1 behind) i (book ! n) in
      does_at lent book Always n
      (code.next (bodies.optional_type (reference (book ! n).c) c') (λ i t. bodies.write (r i) t)) (m >>= g) k s
      (does_then lent book (SameReference lent book) Always (bodies.optional_type (reference (book ! n).c) c') m
      (λ i t. bodies.write (r i) t) g k (moved n s)
      (does_optional lent book (book ! n).c (λ i t. walked i t)
      (resolve_type book (book ! n).c >>= λ t. give t.root) c' k (moved n s) st'
      (λ e. does_root lent book (book ! n).c c' k (moved n s) st'))
      (λ i c₁ j k₁ s₁ st grown same.
      subst (λ (x : ℕ). Does lent book Always (bodies.write (r i) c₁) (g x) k₁ s₁) same
      (subst (λ (x : Record). Does lent book Always (bodies.write (r i) c₁) (emit x >> give (tt {0})) k₁ s₁)
      (λ z. carried 47 (reason z) (since z) (reference_number i) (book ! n))
      (does_write lent book (r i) c₁ k₁ s₁ st)))))

  -- a variant
  pub does_variant : (c : code.State) (k : Names) (s : State) → Stands lent book c k s
      → Does lent book Always (bodies.lower_variant n c) (at n >> lower_variant book n) k s
  unfolding bodies.lower_variant lower_variant
  does_variant c k s h =
      subst (λ (d : Book). Does lent book Always
      (bodies.write (carried 44 (d ! n).a 0 0 (d ! n)) (record c { place = n })) (at n >> lower_variant book n) k
      s) (sym h.book_is)
      (does_at lent book Always n (bodies.write (carried 44 (book ! n).a 0 0 (book ! n)) (record c { place = n }))
      (emit (carried 44 (book ! n).a 0 0 (book ! n)) >> give (tt {0})) k s
      (does_write lent book (carried 44 (book ! n).a 0 0 (book ! n)) (record c { place = n }) k (moved n s)
      (stands_moved lent book n c k s h)))
