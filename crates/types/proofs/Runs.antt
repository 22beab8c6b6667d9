-- Lowerings that write records and nothing else, in closed form: a record, a whole type, one after the other.
-- Assumes nothing.
use Rattle.std.proofs.Common.{◌≡◌, ℕ, suc, ◌+◌, ◌≤◌, Bool, true, false, List, [], ◌∷◌, ◌++◌, length, nat_lt, refl, sym}
use Rattle.std.proofs.Common.{ap, ◌∙◌, arith, append_assoc, length-append, add-zero}
use Rattle.std.proofs.lemmas.Bool.Decides.{nat_tests}
use Rattle.record.specs.declared.Record.{Record}
use Rattle.types.specs.Lowering.{and_then, Limits, State, with_result, full, Out, finished, stopped, run}
use Rattle.types.specs.Events.{go_on}
use Rattle.types.specs.Resolved.{ResolvedType, primitive, sub_byte, semantic, named, one_child, two_children}
use Rattle.types.specs.Resolved.{inline_bits, Names}
use Rattle.types.specs.Step.{bare, emit, emit_type, whole}
use Rattle.types.specs.Records.{below, type_records}
use Rattle.types.proofs.Adds.{runs_in_turn}
use Rattle.types.proofs.TypeRecords.{type_has_records}

-- some records more
abbrev pub with_results : State → List Record → State
with_results s xs = record s { results = s.results ++ xs }

-- a value where there is room, and else a refusal
abbrev pub in_room : {A : Type 0} → Bool → A → State → ℕ → Out A
in_room true v s p = finished v s
in_room false v s p = stopped full p

-- so many records more are written, or there is no room for all of them
abbrev pub wrote : {A : Type 0} → Limits → State → List Record → A → Out A
wrote most s xs v = in_room (nat_lt (length s.results + length xs) (suc most.results)) v (with_results s xs) s.place

no_way : (n a b m : ℕ) → nat_lt (n + a) m ≡ false → nat_lt (n + b) m ≡ true → a ≤ b → ⊥
no_way n a b m p q h = grind (arith, nat_tests)

pub lt_more : (n m : ℕ) → nat_lt (n + 1) (suc m) ≡ nat_lt n m
lt_more n m = grind (arith, nat_tests)

-- one after the other
module _ {A B : Type 0} (most : Limits) (s : State) (xs : List Record) (ys : A → ℕ → List Record) (v : A) where
  both : (w : A → ℕ → B) (a b : Bool)
      → (nat_lt (length s.results + length xs) (suc most.results) ≡ a)
      → (nat_lt (length s.results + length (xs ++ ys v (length s.results + length xs))) (suc most.results) ≡ b)
      → go_on (in_room a v (with_results s xs) s.place)
      (λ a t. wrote most t (ys a (length t.results)) (w a (length t.results)))
      ≡ in_room b (w v (length s.results + length xs)) (with_results s
      (xs ++ ys v (length s.results + length xs))) s.place
  unfolding go_on
  both w true b p q =
      let long : length (s.results ++ xs) ≡ length s.results + length xs = length-append s.results xs in
      let zs : List Record = ys v (length s.results + length xs) in
      let same : nat_lt (length s.results + length xs + length zs) (suc most.results) ≡ b =
      ap (λ n. nat_lt n (suc most.results)) (omega (arith, length-append xs zs)) ∙ q in
      rw (long, same, append_assoc s.results xs zs) refl
  both w false true p q = absurd (no_way _ _ _ _ p q (omega
      (arith, length-append xs (ys v (length s.results + length xs)))))
  both w false false p q = refl

  pub wrote-wrote : (w : A → ℕ → B)
      → go_on (wrote most s xs v) (λ a t. wrote most t (ys a (length t.results)) (w a (length t.results)))
      ≡ wrote most s (xs ++ ys v (length s.results + length xs)) (w v (length s.results + length xs))
  wrote-wrote w = both w _ _ refl refl

step_room : {A : Type 0} (v : Bool) (a : A) (t : State) (p : ℕ)
    → (elim v [ true ↦ finished a t | false ↦ stopped full p ]) ≡ in_room v a t p
step_room true a t p = refl
step_room false a t p = refl

pub go-finished : {A B : Type 0} (b : Bool) (f : A → B) (v : A) (t : State) (p : ℕ)
    → go_on (in_room b v t p) (λ x u. finished (f x) u) ≡ in_room b (f v) t p
unfolding go_on
go-finished true f v t p = refl
go-finished false f v t p = refl

pub run-emit : (most : Limits) (r : Record) (k : Names) (s : State)
    → run most (emit r k) s ≡ wrote most s (r ∷ []) (length s.results, k)
unfolding run
run-emit most r k s =
    rw (lt_more (length s.results) most.results) (step_room (nat_lt (length s.results) most.results)
    (length s.results, k) (with_result r s) s.place)

pub go_on-same : {A B : Type 0} (o : Out A) (f g : A → State → Out B) → ((a : A) (t : State) → f a t ≡ g a t)
    → go_on o f ≡ go_on o g
unfolding go_on
go_on-same (finished a s) f g h = h a s
go_on-same (stopped c p) f g h = refl

pub RunsType : ResolvedType → Type 0
RunsType t = (most : Limits) (k : Names) (s : State)
    → run most (emit_type t k) s ≡ wrote most s (type_records (length s.results) t) (length s.results + below t, k)

leaf : (r : Record) (most : Limits) (k : Names) (s : State)
    → run most (emit r k) s ≡ wrote most s (r ∷ []) (length s.results + 0, k)
leaf r most k s = run-emit most r k s ∙ ap (λ n. wrote most s (r ∷ []) (n, k)) (sym (add-zero (length s.results)))

-- a record over the root of a type
pub run-over : (t : ResolvedType) → RunsType t → (r : ℕ → Record) (most : Limits) (k : Names) (s : State)
    → run most (and_then (emit_type t k) (λ x. emit (r x.0) x.1)) s
    ≡ wrote most s (type_records (length s.results) t ++ r (length s.results + below t) ∷ [])
    (length s.results + suc (below t), k)
unfolding RunsType
run-over t h r most k s =
    runs_in_turn _ _ most (emit_type t k) (λ x. emit (r x.0) x.1) s
    ∙ ap (λ o. go_on o (λ x u. run most (emit (r x.0) x.1) u)) (h most k s)
    ∙ go_on-same (wrote most s (type_records (length s.results) t) (length s.results + below t, k)) _
    (λ x u. wrote most u (r x.0 ∷ []) (length u.results, x.1)) (λ x u. run-emit most (r x.0) x.1 u)
    ∙ wrote-wrote most s (type_records (length s.results) t) (λ x n. r x.0 ∷ []) (length s.results + below t, k)
    (λ x n. (n, x.1))
    ∙ ap (λ n. wrote most s (type_records (length s.results) t ++ r (length s.results + below t) ∷ [])
    (length s.results + n, k)) (type_has_records (length s.results) t)

-- the records of a type are what emitting it writes
pub run-emit_type : (t : ResolvedType) → RunsType t
unfolding emit_type RunsType type_records below
run-emit_type (primitive p) = leaf _
run-emit_type (sub_byte p bits) = leaf _
run-emit_type (semantic p) = leaf _
run-emit_type (named n) = leaf _
run-emit_type (one_child p size t) = run-over t (run-emit_type t) (λ a. bare 7 p a 0 0 size)
run-emit_type (two_children p l r) = λ most k s.
    let n : ℕ = length s.results in
    let m : ℕ = suc (n + below l) in
    let last : ℕ → ℕ → Record = λ a b. bare 8 p a b 0 0 in
    let e : n + suc (below l) ≡ m = omega arith in
    let f : m + suc (below r) ≡ n + (suc (below l) + suc (below r)) = omega arith in
    runs_in_turn _ _ most (emit_type l k) _ s
    ∙ ap (λ o. go_on o (λ x u. run most (and_then (emit_type r x.1) (λ y. emit (last x.0 y.0) y.1)) u))
    (run-emit_type l most k s)
    ∙ go_on-same (wrote most s (type_records n l) (n + below l, k)) _
    (λ x u. wrote most u (type_records (length u.results) r ++ last x.0 (length u.results + below r) ∷ [])
    (length u.results + suc (below r), x.1))
    (λ x u. run-over r (run-emit_type r) (λ b. last x.0 b) most x.1 u)
    ∙ wrote-wrote most s (type_records n l)
    (λ x n. type_records n r ++ last x.0 (n + below r) ∷ []) (n + below l, k) (λ x n. (n + suc (below r), x.1))
    ∙ rw (
      type_has_records n l,
      e,
      f,
      append_assoc (type_records n l) (type_records m r)
          (last (n + below l) (m + below r) ∷ []),
    ) refl
run-emit_type (inline_bits n) = leaf _

-- and so of a type as a whole
pub run-whole : (t : ResolvedType) (most : Limits) (k : Names) (s : State)
    → run most (whole t k) s ≡ wrote most s (type_records (length s.results) t)
    (record { root = length s.results + below t; type = t }, k)
unfolding whole run RunsType
run-whole t most k s =
    runs_in_turn _ _ most (emit_type t k) _ s ∙ ap (λ o. go_on o
    (λ x u. finished (record { root = x.0; type = t }, x.1) u)) (run-emit_type t most k s)
    ∙ go-finished (nat_lt (length s.results + length (type_records (length s.results) t)) (suc most.results))
    (λ x. (record { root = x.0; type = t }, x.1)) (length s.results + below t, k)
    (with_results s (type_records (length s.results) t)) s.place
