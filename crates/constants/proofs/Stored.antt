-- What is settled with a value over the empty table is what is stored, told without an order.
-- Assumes nothing.
use Prim.Native.Nat.{ℕ}
use mathlib.Core.Bool.{Bool, true, false, cond}
use mathlib.Core.List.{List, Memᴰ}
use mathlib.Core.Option.{some, none, none-ne-some}
use mathlib.Core.Path.{◌≡◌, refl, sym, ◌∙◌, ap, subst}
use lib.IntN.{ℤ}
use Rattle.constants.specs.Expr.{refs}
use Rattle.constants.specs.Eval.{Table, empty, eval_const_expr}
use Rattle.constants.specs.Order.{Constant, Way, Reached, reached, has, declares}
use Rattle.constants.specs.Stored.{Stored, stored}
use Rattle.constants.specs.Theory.{Distinct, Stores, StoresTheStored}
use Rattle.constants.proofs.Tests.{mem_has, declares_mem}
use Rattle.constants.proofs.Eval.{eval_agree, eval_more, or_else_none}
use Rattle.constants.proofs.Carry.{undeclared}
use Rattle.constants.proofs.Final.{final, is_final, settles_if, final_has_the_stored}

-- a table, of the names that an expression names only
abbrev restricted : Table → List ℕ → Table
restricted t ns n = cond (has n ns) (t n) none

module _ (w : Way) (cs : List Constant) (distinct : Distinct cs) where
  abbrev F : Table
  F = final w empty cs

  own : (c : Constant) → Reached w cs c → F c.name ≡ eval_const_expr F c.expr
  own c r = (is_final w empty cs distinct).own c r ∙ or_else_none (eval_const_expr F c.expr)

  is_stored_lem : {c : Constant} → Reached w cs c → (z : ℤ) → eval_const_expr F c.expr ≡ some z → Stored w cs c.name z
  is_stored_lem {c} (reached m a named) z e =
      stored c (restricted F (refs c.expr)) refl (reached m a named)
      (λ n y q. over n y (has n (refs c.expr)) refl q (λ d k h. is_stored_lem (named d k h)))
      (eval_agree (restricted F (refs c.expr)) F c.expr (λ n k. rw (mem_has k) refl) ∙ e)
    where
      over :
          (n : ℕ) (y : ℤ) (b : Bool) → has n (refs c.expr) ≡ b → cond b (F n) none ≡ some y →
          ((d : Constant) → Memᴰ d cs → has d.name (refs c.expr) ≡ true →
          (y : ℤ) → eval_const_expr F d.expr ≡ some y → Stored w cs d.name y) →
          Stored w cs n y
      over n y false h q below = absurd (none-ne-some y q)
      over n y true h q below = go (declares cs n) refl
        where
          go : (b : Bool) → declares cs n ≡ b → Stored w cs n y
          go false k =
              absurd (none-ne-some y (sym (undeclared w empty cs F (is_final w empty cs distinct) n k) ∙ q))
          go true k =
              let x = declares_mem cs n k in
              let h' = subst (λ (j : ℕ). has j (refs c.expr) ≡ true) (sym x.2) h in
              subst (λ (j : ℕ). Stored w cs j y) x.2
              (below x.0 x.1 h' y (sym (own x.0 (named x.0 x.1 h')) ∙ ap F x.2 ∙ q))

  in_final : (n : ℕ) → ((z : ℤ) → Stores w empty cs n z → F n ≡ some z) × (((z : ℤ) → Stores w empty cs n z → ⊥) → F n ≡ none)
  in_final = final_has_the_stored w empty cs distinct F (is_final w empty cs distinct)

  is_settled : {n : ℕ} {z : ℤ} → Stored w cs n z → Stores w empty cs n z
  is_settled {n} {z} (stored c values e r over q) = (
    c,
    e,
    (settles_if w empty cs distinct c (some z)).1
        (r, eval_more values F c.expr z (λ m y h. (in_final m).0 y (is_settled (over m y h))) q),
  )

pub stores_the_stored : StoresTheStored
stores_the_stored w cs distinct n z = (
  λ s.
      let x = (settles_if w empty cs distinct s.0 (some z)).0 s.2 in
      subst (λ (j : ℕ). Stored w cs j z) s.1 (is_stored_lem w cs distinct x.0 z x.1),
  λ s. is_settled w cs distinct s,
)
