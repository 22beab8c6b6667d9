-- The code lowers constants as the definitions say, and then bodies.
-- Assumes nothing.
use Rattle.std.proofs.Common.{◌≡◌, ℕ, List, [], ◌∷◌, map, length, refl, sym, subst, arith, ℤ, Option, Some}
use Rattle.std.proofs.Common.{None}
use Rattle.std.proofs.Math.Option.{Option as Maybe, some, none}
use Rattle.record.specs.declared.Record.{Record}
use Rattle.arith.specs.Checked.{answer}
use Rattle.book.specs.Outline.{Book, ◌!◌, numbers_of}
use Rattle.book.specs.Noted.{is_outside}
use Rattle.book.specs.Trees.{WellFormed}
use Rattle.constants.specs.Order.{Settled}
use Rattle.constants.specs.Given.{answered, told}
use Rattle.types.specs.Lowering.{State, moved}
use Rattle.types.specs.Resolved.{Names}
use Rattle.types.specs.Step.{Step, ◌>>=◌, ◌>>◌, give, at, emit, tell, message}
use Rattle.types.specs.Numbers.{type_declarations}
use Rattle.types.specs.Resolve.{resolve_type}
use Rattle.types.specs.Stands.{Lent, Stands, Does, Roots, Always}
use Rattle.types.specs.Code as code
use Rattle.types.specs.Walk.{walked}
use Rattle.types.proofs.Refining.{does_then, does_next, does_give, does_at, stands_moved}
use Rattle.types.proofs.Emits.{does_tell}
use Rattle.types.proofs.Resolves.{does_resolve_type}
use Rattle.bodies.specs.Constant.{tell_unless, constant_record, lower_constant, lower_constants}
use Rattle.bodies.specs.Bodies.{lower_bodies}
use Rattle.bodies.specs.Agrees.{ConstantsAsDefined, BodiesAsDefined, LowersAsDefined}
use Rattle.bodies.specs.Code as bodies
use Rattle.bodies.proofs.Constraints.{does_made}
use Rattle.bodies.proofs.Members.{does_write}
use Rattle.bodies.proofs.Lowered.{bodies_from}

module _ (lent : Lent) (book : Book) where
  does_tell_unless : (v : Option ℤ) (n : ℕ) (c : code.State) (k : Names) (s : State) → Stands lent book c k s
      → Does lent book Always (bodies.tell_unless v (book ! n) c)
      (tell_unless (answer v) (message 5 (book ! n).a 0 2 (book ! (book ! n).c).span)) k s
  unfolding bodies.tell_unless tell_unless
  does_tell_unless (Some z) n c k s h = does_give lent book Always (tt {0}) (tt {0}) c k s h tt
  does_tell_unless None n c k s h =
      let r : Record = message 5 (book ! n).a 0 2 (book ! (book ! n).c).span in
      subst (λ (d : Book). Does lent book Always
      (code.next (code.tell (code.message 5 (book ! n).a 0 2 (d ! (book ! n).c).span) c)
      (λ i t. code.done (tt {0}) t)) (tell r) k s) (sym h.book_is)
      (does_made lent book (λ i u k' rs. (k' ≡ k) × (rs ≡ s.results)) Always (code.tell r c) (tell r) (λ i. tt {0}) k s
      (λ i u k' rs v. tt) (does_tell lent book c k s h r))

  -- a constant by its record number and its value
  constant' : ℕ → Maybe ℤ → Step Unit
  constant' n v =
      at n
      >> (resolve_type book (book ! n).b
      >>= λ t.
      tell_unless v (message 5 (book ! n).a 0 2 (book ! (book ! n).c).span)
      >> (emit (constant_record v (book ! n) t.root) >> give (tt {0})))

  first' : Maybe ℤ → ℕ → ℕ → Step Unit
  first' v n root = tell_unless v (message 5 (book ! n).a 0 2 (book ! (book ! n).c).span) >>
      (emit (constant_record v (book ! n) root) >> give (tt {0}))

  first : Option ℤ → ℕ → ℕ → code.State → code.Outcome Unit
  first v n root t = code.next (bodies.tell_unless v (book ! n) t)
      (λ u w. bodies.write (constant_record (answer v) (book ! n) root) w)

  does_first : (v : Option ℤ) (n root : ℕ) (c : code.State) (k : Names) (s : State) → Stands lent book c k s
      → Does lent book Always (first v n root c) (first' (answer v) n root) k s
  unfolding first first'
  does_first v n root c k s h =
      does_next lent book Always Always (bodies.tell_unless v (book ! n) c)
      (tell_unless (answer v) (message 5 (book ! n).a 0 2 (book ! (book ! n).c).span))
      (λ u w. bodies.write (constant_record (answer v) (book ! n) root) w)
      (emit (constant_record (answer v) (book ! n) root) >> give (tt {0})) k s
      (does_tell_unless v n c k s h)
      (λ u c₁ u' k₁ s₁ st grown w. does_write lent book (constant_record (answer v) (book ! n) root) c₁ k₁ s₁ st)

  -- a value as the code has it, and back
  and_back : (v : Maybe ℤ) → answer (answered v) ≡ v
  and_back (some z) = refl
  and_back none = refl

  does_constant : (x : Settled) (c : code.State) (k : Names) (s : State) → Stands lent book c k s
      → Does lent book Always (bodies.lower_constant (told x) c) (lower_constant book x) k s
  unfolding bodies.lower_constant lower_constant constant' first first'
  does_constant x c k s h =
      let n : ℕ = x.constant.place in
      let v : Option ℤ = answered x.value in
      let c' : code.State = record c { place = n } in
      subst (λ (y : Maybe ℤ). Does lent book Always (bodies.lower_constant (told x) c) (constant' n y) k s)
      (and_back x.value)
      (subst (λ (d : Book). Does lent book Always
      (code.next (walked (d ! n).b c') (λ root t.
      code.next (bodies.tell_unless v (d ! n) t) (λ u w. bodies.write (constant_record (answer v) (d ! n) root) w)))
      (constant' n (answer v)) k s) (sym h.book_is)
      (does_at lent book Always n (code.next (walked (book ! n).b c') (λ root t. first v n root t))
      (resolve_type book (book ! n).b >>= λ t. first' (answer v) n t.root) k s
      (does_then lent book (Roots k s.results) Always (walked (book ! n).b c') (resolve_type book (book ! n).b)
      (λ root t. first v n root t) (λ t. first' (answer v) n t.root) k (moved n s)
      (does_resolve_type lent book (book ! n).b c' k (moved n s) (stands_moved lent book n c k s h))
      (λ root c₁ t k₁ s₁ st grown w.
      subst (λ (i : ℕ). Does lent book Always (first v n root c₁) (first' (answer v) n i) k₁ s₁) w.root_is
      (does_first v n root c₁ k₁ s₁ st)))))

  does_constants : (xs : List Settled) (c : code.State) (k : Names) (s : State) → Stands lent book c k s
      → Does lent book Always (bodies.lower_constants (map told xs) c) (lower_constants book xs) k s
  unfolding bodies.lower_constants lower_constants
  does_constants [] c k s h = does_give lent book Always (tt {0}) (tt {0}) c k s h tt
  does_constants (x ∷ xs) c k s h =
      does_next lent book Always Always (bodies.lower_constant (told x) c) (lower_constant book x)
      (λ u t. bodies.lower_constants (map told xs) t) (lower_constants book xs) k s
      (does_constant x c k s h) (λ u c₁ u' k₁ s₁ st grown v. does_constants xs c₁ k₁ s₁ st)

  does_bodies : WellFormed book.records → (c : code.State) (k : Names) (s : State) → Stands lent book c k s
      → Does lent book Always (bodies.lower_bodies (numbers_of is_outside book) c) (lower_bodies book) k s
  unfolding numbers_of lower_bodies type_declarations
  does_bodies sound c k s h = bodies_from lent book sound (length book.records) 0 (omega arith) c k s h

pub constants_as_defined : ConstantsAsDefined
constants_as_defined book xs lent c k s h = does_constants lent book xs c k s h

pub bodies_as_defined : BodiesAsDefined
bodies_as_defined book sound lent c k s h = does_bodies lent book sound c k s h

pub lowers_as_defined : LowersAsDefined
lowers_as_defined book sound xs lent c k s h =
    does_next lent book Always Always (bodies.lower_constants (map told xs) c) (lower_constants book xs)
    (λ u t. bodies.lower_bodies (numbers_of is_outside book) t) (lower_bodies book) k s
    (does_constants lent book xs c k s h) (λ u c₁ u' k₁ s₁ st grown v. does_bodies lent book sound c₁ k₁ s₁ st)
