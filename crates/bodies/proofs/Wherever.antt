-- One step of the code along a constraint: the records left below it do not matter, since children are earlier records.
use Rattle.std.proofs.Common.{◌≡◌, ℕ, zero, suc, ◌<◌, Bool, true, false, cond, nat_lt, eqb, if◌then◌else◌, refl}
use Rattle.std.proofs.Common.{ap, arith}
use Rattle.std.proofs.lemmas.Bool.Decides.{nat_tests}
use Rattle.record.specs.Kind.{kind_from}
use Rattle.book.specs.Outline.{◌!◌}
use Rattle.types.specs.Code.{State, Outcome, done}
use Rattle.bodies.specs.declared.constraint.Connective.TheVariants.{And, Or, Not}
use Rattle.bodies.specs.Annotated.{connective_from}
use Rattle.bodies.specs.Code.{where_by, earlier, where_within, lower_where_expr}

abbrev Child : Type 0
Child = ℕ → State → Outcome ℕ

-- functions that agree everywhere are the same
same_children : (f g : Child) → ((a : ℕ) (s : State) → f a s ≡ g a s) → f ≡ g
same_children f g h = λ i. λ a. λ s. h a s i

guarded : (b : Bool) (x y z : Outcome ℕ) → (b ≡ true → x ≡ y) → (if b then x else z) ≡ (if b then y else z)
guarded true x y z h = h refl
guarded false x y z h = refl

fewer : (a n m : ℕ) → nat_lt a n ≡ true → n < suc m → a < m
fewer a n m h k = grind (arith, nat_tests)

pub enough : (f g n : ℕ) (s : State) → n < f → n < g → where_within f n s ≡ where_within g n s
unfolding where_within
enough zero g n s p q = absurd (omega arith)
enough (suc f) zero n s p q = absurd (omega arith)
enough (suc f) (suc g) n s p q =
    ap (λ (c : Child). where_by c (s.book ! n) (kind_from (s.book ! n).kind) s)
    (same_children (earlier (λ a t. where_within f a t) n) (earlier (λ a t. where_within g a t) n)
    (λ a t. guarded (nat_lt a n) (where_within f a t) (where_within g a t) (done 0 t)
    (λ h. enough f g a t (fewer a n f h p) (fewer a n g h q))))

pub where-step : (n : ℕ) (s : State)
    → lower_where_expr n s ≡ where_by (earlier (λ a t. lower_where_expr a t) n) (s.book ! n)
    (kind_from (s.book ! n).kind) s
unfolding where_within lower_where_expr
where-step n s =
    ap (λ (c : Child). where_by c (s.book ! n) (kind_from (s.book ! n).kind) s)
    (same_children (earlier (λ a t. where_within n a t) n) (earlier (λ a t. where_within (suc a) a t) n)
    (λ a t. guarded (nat_lt a n) (where_within n a t) (where_within (suc a) a t) (done 0 t)
    (λ h. enough n (suc a) a t (below a n h) (omega arith))))
  where
    below : (a n : ℕ) → nat_lt a n ≡ true → a < n
    below a n h = grind (arith, nat_tests)

-- And and Or have the subs 0 and 1
module _ (sub : ℕ) where
  pub and_low : connective_from sub ≡ And → sub < 2
  and_low e = go (eqb sub 0) (eqb sub 1) refl refl e
    where
      go : (a b : Bool) → eqb sub 0 ≡ a → eqb sub 1 ≡ b → cond a And (cond b Or Not) ≡ And → sub < 2
      go true b p q e = grind (arith, nat_tests)
      go false true p q e = grind (arith, nat_tests)
      go false false p q e = cc

  pub or_low : connective_from sub ≡ Or → sub < 2
  or_low e = go (eqb sub 0) (eqb sub 1) refl refl e
    where
      go : (a b : Bool) → eqb sub 0 ≡ a → eqb sub 1 ≡ b → cond a And (cond b Or Not) ≡ Or → sub < 2
      go true b p q e = grind (arith, nat_tests)
      go false true p q e = grind (arith, nat_tests)
      go false false p q e = cc

pub ruleset steps = (where-step, and_low, or_low)
