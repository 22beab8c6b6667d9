-- The code lowers constraints as the definitions say.
-- Assumes nothing.
use Rattle.std.proofs.Common.{◌≡◌, ℕ, zero, suc, ◌+◌, ◌<◌, ◌≤◌, Bool, true, false, cond, List, length}
use Rattle.std.proofs.Common.{nat_lt, eqb, if◌then◌else◌, refl, sym, subst, arith, ◌⊎◌, inl, inr, Option, Some, None}
use Rattle.std.proofs.Common.{Result, Ok, Err}
use Rattle.std.proofs.lemmas.Bool.Decides.{nat_tests}
use Rattle.record.specs.declared.Record.{Record}
use Rattle.record.specs.declared.kind.Kind.TheVariants.{Logic, Comparison, Range}
use Rattle.record.specs.Kind.{kind_from}
use Rattle.record.specs.declared.refusal.Refusal.{Refusal}
use Rattle.record.specs.Reference.{reference, reference_number}
use Rattle.record.specs.Made.{bare_record}
use Rattle.book.specs.Lists.{All, keep}
use Rattle.book.specs.Shape.{Group, constraint, table, Child, child_in, children}
use Rattle.book.specs.Outline.{Book, ◌!◌}
use Rattle.book.specs.Trees.{WellFormed, IsChild}
use Rattle.book.proofs.Trees.{by_rows}
use Rattle.types.specs.Lowering.{Lowering, State, Out, finished, stopped, run}
use Rattle.types.specs.Resolved.{Names}
use Rattle.types.specs.Step.{Step, ◌>>=◌, give, emit, bare}
use Rattle.types.specs.Stands.{Lent, limits, Stands, Holds, Ends, Done, Does, SameNumber}
use Rattle.types.specs.Code as code
use Rattle.types.proofs.Refining.{does_then, does_give}
use Rattle.types.proofs.Emits.{does_emit_same}
use Rattle.bodies.specs.declared.constraint.WhereOperand.TheVariants as operands
use Rattle.bodies.specs.Annotated.{connective_from}
use Rattle.bodies.specs.Constraint.{and_or, negated, operand, where_expr, lower_where_by, lower_where_expr}
use Rattle.bodies.specs.Bodies.{unless_none}
use Rattle.bodies.specs.Code as bodies
use Rattle.bodies.proofs.Wherever.{enough}
use Rattle.bodies.proofs.Whole.{Of, whole_constraints}

-- one result
pub does_emits : (lent : Lent) (book : Book) (r : Record) (c : code.State) (k : Names) (s : State)
    → Stands lent book c k s → Does lent book SameNumber (code.emit r c) (emit r) k s
does_emits lent book r c k s h = does_emit_same lent book c k s h r

module _ (lent : Lent) (book : Book) where
  -- a child here and there
  abbrev Child_ok : (ℕ → code.State → code.Outcome ℕ) → (ℕ → Step ℕ) → ℕ → Type 0
  Child_ok child child' a = (c : code.State) (k : Names) (s : State) → Stands lent book c k s
      → Does lent book SameNumber (child a c) (child' a) k s

  -- a record over one child, and over two
  over_one : (child : ℕ → code.State → code.Outcome ℕ) (child' : ℕ → Step ℕ) (a : ℕ) (r : ℕ → Record)
      → Child_ok child child' a
      → (c : code.State) (k : Names) (s : State) → Stands lent book c k s
      → Does lent book SameNumber (code.next (child a c) (λ n t. code.emit (r n) t)) (child' a >>= λ m. emit (r m)) k s
  over_one child child' a r ok c k s h =
      does_then lent book SameNumber SameNumber (child a c) (child' a) (λ n t. code.emit (r n) t) (λ m. emit (r m)) k s
      (ok c k s h)
      (λ n c₁ m k₁ s₁ st grown e. subst (λ (i : ℕ). Does lent book SameNumber (code.emit (r n) c₁) (emit (r i)) k₁ s₁) e
      (does_emits lent book (r n) c₁ k₁ s₁ st))

  over_two : (child : ℕ → code.State → code.Outcome ℕ) (child' : ℕ → Step ℕ) (a b : ℕ) (r : ℕ → ℕ → Record)
      → Child_ok child child' a → Child_ok child child' b
      → (c : code.State) (k : Names) (s : State) → Stands lent book c k s
      → Does lent book SameNumber (code.next (child a c) (λ n t. code.next (child b t) (λ m u. code.emit (r n m) u)))
      (child' a >>= λ n. child' b >>= λ m. emit (r n m)) k s
  over_two child child' a b r ok ok' c k s h =
      does_then lent book SameNumber SameNumber (child a c) (child' a)
      (λ n t. code.next (child b t) (λ m u. code.emit (r n m) u))
      (λ n. child' b >>= λ m. emit (r n m)) k s (ok c k s h)
      (λ n c₁ m k₁ s₁ st grown e.
      subst (λ (i : ℕ). Does lent book SameNumber (code.next (child b c₁) (λ m u. code.emit (r n m) u))
      (child' b >>= λ m. emit (r i m)) k₁ s₁) e
      (over_one child child' b (r n) ok' c₁ k₁ s₁ st))

  module _ (child : ℕ → code.State → code.Outcome ℕ) (child' : ℕ → Step ℕ) (c : code.State) (k : Names) (s : State)
      (h₀ : Stands lent book c k s) where
    Lowers : Record → Type 0
    Lowers r = Does lent book SameNumber (bodies.where_by child r (kind_from r.kind) c)
        (lower_where_by child' (where_expr r)) k s

    -- And and Or, with two sides, and Not, with one
    Connected : ℕ → ℕ → ℕ → Type 0
    Connected a b sub = Does lent book SameNumber
        (code.next (child a c) (λ n t. bodies.logic child sub b n (connective_from sub) t))
        (lower_where_by child' (cond (eqb sub 2) (negated a) (and_or sub a b))) k s

    low : (n : ℕ) → n ≤ 1 → (0 ≡ n) ⊎ (1 ≡ n)
    low zero h = inl refl
    low (suc zero) h = inr refl
    low (suc (suc n)) h = absurd (omega arith)

    sides : (a b sub : ℕ) → Child_ok child child' a → Child_ok child child' b → sub ≤ 1 → Connected a b sub
    unfolding lower_where_by Connected
    sides a b sub ok ok' h = go (low sub h)
      where
        go : (0 ≡ sub) ⊎ (1 ≡ sub) → Connected a b sub
        go (inl e) = subst (Connected a b) e (over_two child child' a b (λ n m. bare_record Logic 0 n m 0) ok ok' c k s h₀)
        go (inr e) = subst (Connected a b) e (over_two child child' a b (λ n m. bare_record Logic 1 n m 0) ok ok' c k s h₀)

    negation : (a b sub : ℕ) → Child_ok child child' a → 2 ≡ sub → Connected a b sub
    unfolding lower_where_by Connected
    negation a b sub ok e =
        subst (Connected a b) e (over_one child child' a (λ n. bare_record Logic 2 n 0 0) ok c k s h₀)

    leaf : (b : Bool) (sub a v : ℕ)
        → Does lent book SameNumber (code.emit (bodies.operand_as (cond b operands.Value operands.Other) sub a v) c)
        (lower_where_by child' (cond b (operand 0 0 0) (operand sub a v))) k s
    unfolding lower_where_by
    leaf true sub a v = does_emits lent book (bare 16 0 0 0 0 0) c k s h₀
    leaf false sub a v = does_emits lent book (bare 16 sub a 0 0 v) c k s h₀

    -- by the rows: And and Or, Not, comparison, range; five of operands
    by_its_row : (P : Child → Type 0)
        → ((n : ℕ) → P (record { group = constraint; number = n }) → Child_ok child child' n)
        → ((n : ℕ) → P (record { group = Group.operand; number = n }) → Child_ok child child' n)
        → (r : Record) → Of r → All P (children r) → Lowers r
    unfolding Lowers Connected keep table child_in where_expr lower_where_by kind_from
    by_its_row P ok ok' r (inl is) =
        by_rows (λ r cs. All P cs → Lowers r) constraint r is (
          λ l u p. sides r.a r.b r.sub (ok _ p.0) (ok _ p.1.0) u,
          (
            λ l u p. negation r.a r.b r.sub (ok _ p.0) (omega arith),
            (
              λ l u p. over_one child child' r.a (λ n. record (bare_record Comparison r.sub n 0 0) { c = r.c })
                  (ok' _ p.0) c k s h₀,
              (
                λ l u p. over_two child child' r.a r.b (λ n m. record (bare_record Range r.sub n m 0) { c = r.c })
                    (ok' _ p.0) (ok' _ p.1.0) c k s h₀,
                tt,
              ),
            ),
          ),
        )
    by_its_row P ok ok' r (inr is) =
        let one = leaf (eqb r.sub 4) r.sub r.a r.v in
        by_rows (λ r cs. All P cs → Lowers r) Group.operand r is
        (λ l u p. one, (λ l u p. one, (λ l u p. one, (λ l u p. one, (λ l u p. one, tt)))))

  module _ (sound : WellFormed book.records) where
    below : (a n : ℕ) → a < n → nat_lt a n ≡ true
    below a n e = grind (arith, nat_tests)

    within : (left n : ℕ) → n < left → n < length book.records → Of (book ! n)
        → (c : code.State) (k : Names) (s : State) → Stands lent book c k s
        → Does lent book SameNumber (bodies.where_within left n c) (lower_where_expr left book n) k s
    unfolding bodies.where_within lower_where_expr Lowers
    within zero n less inside is c k s h = absurd (omega arith)
    within (suc left) n less inside is c k s h =
        let child : ℕ → code.State → code.Outcome ℕ = bodies.earlier (λ a t. bodies.where_within left a t) n in
        let child' : ℕ → Step ℕ = λ a t. lower_where_expr left book a t in
        let later : (a : ℕ) → a < n → Of (book ! a) → Child_ok child child' a = λ a few of c₁ k₁ s₁ st.
        subst (λ (b : Bool). Does lent book SameNumber (if b then bodies.where_within left a c₁ else code.done 0 c₁)
        (child' a) k₁ s₁) (sym (below a n few))
        (within left a (omega arith) (omega arith) of c₁ k₁ s₁ st) in
        subst (λ (d : Book). Does lent book SameNumber (bodies.where_by child (d ! n) (kind_from (d ! n).kind) c)
        (λ t. lower_where_by child' (where_expr (book ! n)) t) k s) (sym h.book_is)
        (by_its_row child child' c k s h (IsChild book.records n)
        (λ a e. later a e.earlier (inl e.of_group)) (λ a e. later a e.earlier (inr e.of_group))
        (book ! n) is (sound n inside).children_are)

    -- 64 levels are the whole tree
    pub does_where : (n : ℕ) → n < length book.records → Of (book ! n) → (c : code.State) (k : Names) (s : State)
        → Stands lent book c k s
        → Does lent book SameNumber (bodies.lower_where_expr n c) (lower_where_expr 64 book n) k s
    unfolding bodies.lower_where_expr
    does_where n inside is c k s h =
        subst (λ (l : Lowering (ℕ × Names)). Does lent book SameNumber (bodies.where_within (suc n) n c) (λ t. l) k s)
        (whole_constraints book sound n inside is n k)
        (subst (λ (o : code.Outcome ℕ). Does lent book SameNumber o (lower_where_expr (64 + n) book n) k s)
        (enough (64 + n) (suc n) n c (omega arith) (omega arith))
        (within (64 + n) n (omega arith) inside is c k s h))

  -- the code makes something of its answer, and the definitions nothing
  pub does_made :
      {A B C : Type 0} (V : Holds A B) (W : Holds C B) (o : code.Outcome A) (m : Step B) (g : A → C) (k : Names)
      (s : State) → ((n : A) (a : B) (k' : Names) (rs : List Record) → V n a k' rs → W (g n) a k' rs) →
      Does lent book V o m k s → Does lent book W (code.next o (λ n t. code.done (g n) t)) m k s
  does_made {A} {B} {C} V W o m g k s f h = go o.answer o.state (run (limits lent) (m k) s) h
    where
      go : (r : Result A Refusal) (c : code.State) (x : Out (B × Names)) → Ends lent (Done lent book s.results V) r c x
          → Ends lent (Done lent book s.results W) (code.after r c (λ n t. code.done (g n) t)).answer
          (code.after r c (λ n t. code.done (g n) t)).state x
      go (Ok n) c (finished a t) d = record {
        stands = d.stands;
        grown = d.grown;
        holds = f n a.0 a.1 t.results d.holds;
      }
      go (Err e) c (stopped y p) d = d
      go (Ok n) c (stopped y p) d = absurd d
      go (Err e) c (finished a t) d = absurd d

  -- what may be missing: under one number here and there, or none
  abbrev pub SameReference : Holds (Option ℕ) ℕ
  SameReference n m k rs = reference_number n ≡ m

  pub does_optional : (n : ℕ) (f : ℕ → code.State → code.Outcome ℕ) (m : Step ℕ) (c : code.State) (k : Names)
      (s : State) → Stands lent book c k s
      → (eqb n 65535 ≡ false → Does lent book SameNumber (f n c) m k s)
      → Does lent book SameReference (bodies.optional f (reference n) c) (unless_none n m) k s
  unfolding unless_none
  does_optional n f m c k s h there = go (eqb n 65535) there
    where
      go : (b : Bool) → (b ≡ false → Does lent book SameNumber (f n c) m k s)
          → Does lent book SameReference (bodies.optional f (if b then None else Some n) c)
          (λ t. elim b [ true ↦ give 65535 t | false ↦ m t ]) k s
      go true d = does_give lent book SameReference None 65535 c k s h refl
      go false d = does_made SameNumber SameReference (f n c) m (λ i. Some i) k s (λ i j k' rs e. e) (d refl)
