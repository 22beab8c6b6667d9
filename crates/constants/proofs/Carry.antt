-- What two lists of constants have in common they settle alike.
-- Assumes nothing.
use Prim.Native.Nat.{ℕ}
use mathlib.Core.Bool.{Bool, true, false, not, true≢false}
use mathlib.Core.List.{List, Memᴰ}
use mathlib.Core.Option.{or_else}
use mathlib.Core.Path.{◌≡◌, refl, sym, ◌∙◌, ap, subst}
use Rattle.book.specs.Lists.{keep}
use Rattle.book.proofs.Lists.{keep_agree}
use Rattle.constants.specs.Expr.{Expr, refs}
use Rattle.constants.specs.Eval.{Table, eval_const_expr}
use Rattle.constants.specs.Order.{Constant, Way, each, once, Reached, reached, has, declares, declared_refs, repeats, admits}
use Rattle.constants.specs.Theory.{Distinct, IsFinal}
use Rattle.constants.proofs.Tests.{mem_has, declares_mem, mem_declares}
use Rattle.book.proofs.Trees.{not_so}
use Rattle.constants.specs.Changes.{DeclaresAll}
use Rattle.constants.proofs.Order.{reached_declared, reached_admitted}
use Rattle.constants.proofs.Eval.{eval_agree}

-- a name that the larger of two lists has not, the other has not
pub has_not : (cs ds : List Constant) → DeclaresAll cs ds → (n : ℕ) → declares cs n ≡ false → declares ds n ≡ false
has_not cs ds all n e =
    not_so (declares ds n)
    (λ q.
    let x = declares_mem ds n q in
    let y = all x.0 x.1 in
    true≢false (sym (mem_declares n y.1 (y.2 ∙ x.2)) ∙ e))

-- a constant is admitted by what its expression names of the declared ones
pub admits_agree :
    (w : Way) (cs ds : List Constant) (c d : Constant) → d.expr ≡ c.expr →
    ((n : ℕ) → has n (refs c.expr) ≡ true → declares cs n ≡ declares ds n) →
    admits w cs c ≡ true → admits w ds d ≡ true
unfolding admits declared_refs
admits_agree each cs ds c d e h a =
    ap (λ (x : Expr). not (repeats (keep (declares ds) (refs x)))) e
    ∙ ap (λ (ns : List ℕ). not (repeats ns)) (sym (keep_agree (declares cs) (declares ds) (refs c.expr) (λ n m. h n (mem_has m))))
    ∙ a
admits_agree once cs ds c d e h a = refl

-- an undeclared name has what it had
pub undeclared :
    (w : Way) (t : Table) (cs : List Constant) (F : Table) → IsFinal w t cs F → (n : ℕ) → declares cs n ≡ false → F n ≡ t n
undeclared w t cs F f n e =
    f.other n (λ c r q. true≢false (sym (mem_declares n (reached_declared r) q) ∙ e))

-- Constants of cs with a property that what they name has too. Each is declared in ds with the same expression, and
-- what it names and cs does not declare is not declared in ds. Then each that is reached is reached in ds, and worth
-- the same.
module _
    (w : Way) (t : Table) (cs ds : List Constant) (ones : Distinct ds) (F G : Table) (f : IsFinal w t cs F) (g : IsFinal w t ds G)
    (P : Constant → Type 0)
    (closed : (c d : Constant) → P c → Memᴰ d cs → has d.name (refs c.expr) ≡ true → P d)
    (moved : (c : Constant) → P c → Memᴰ c cs → (d : Constant) × Memᴰ d ds × (d.name ≡ c.name) × (d.expr ≡ c.expr))
    (others : (c : Constant) → P c → (n : ℕ) → has n (refs c.expr) ≡ true → declares cs n ≡ false → declares ds n ≡ false)
  where
    pub record Carried (c : Constant) : Type 0 where
      pub to : Constant
      pub same_name : to.name ≡ c.name
      pub is_reached : Reached w ds to
      pub worth : eval_const_expr F c.expr ≡ eval_const_expr G to.expr
      pub has_value : F c.name ≡ G c.name

    -- one constant, when what it names is carried
    module _
        (c : Constant) (p : P c) (here : Reached w cs c)
        (below : (d : Constant) → Memᴰ d cs → has d.name (refs c.expr) ≡ true → Carried d)
      where
        named : (n : ℕ) → has n (refs c.expr) ≡ true → declares cs n ≡ true → (d : Constant) × (d.name ≡ n) × Carried d
        named n h e =
            let x = declares_mem cs n e in
            (x.0, x.2, below x.0 x.1 (subst (λ (j : ℕ). has j (refs c.expr) ≡ true) (sym x.2) h))

        declared_alike : (n : ℕ) → has n (refs c.expr) ≡ true → declares cs n ≡ declares ds n
        declared_alike n h = go (declares cs n) refl
          where
            go : (b : Bool) → declares cs n ≡ b → declares cs n ≡ declares ds n
            go true e =
                let x = named n h e in
                e ∙ sym (mem_declares n (reached_declared x.2.is_reached) (x.2.same_name ∙ x.1))
            go false e = e ∙ sym (others c p n h e)

        valued_alike : (n : ℕ) → has n (refs c.expr) ≡ true → F n ≡ G n
        valued_alike n h = go (declares cs n) refl
          where
            go : (b : Bool) → declares cs n ≡ b → F n ≡ G n
            go true e = let x = named n h e in sym (ap F x.1) ∙ x.2.has_value ∙ ap G x.1
            go false e = undeclared w t cs F f n e ∙ sym (undeclared w t ds G g n (others c p n h e))

        carry_one : Carried c
        carry_one =
            let x = moved c p (reached_declared here) in
            let there = reached x.1 (admits_agree w cs ds c x.0 x.3 declared_alike (reached_admitted here)) (reach x.0 x.3) in
            let same : eval_const_expr F c.expr ≡ eval_const_expr G x.0.expr =
            eval_agree F G c.expr (λ n m. valued_alike n (mem_has m)) ∙ ap (eval_const_expr G) (sym x.3) in
            record {
              to = x.0;
              same_name = x.2;
              is_reached = there;
              worth = same;
              has_value =
                  f.own c here
                  ∙ (λ i. or_else (same i) (t (sym x.2 i)))
                  ∙ sym (g.own x.0 there)
                  ∙ ap G x.2;
            }
          where
            reach :
                (to : Constant) → to.expr ≡ c.expr →
                (d : Constant) → Memᴰ d ds → has d.name (refs to.expr) ≡ true → Reached w ds d
            reach to e d k h =
                let q = subst (λ (x : Expr). has d.name (refs x) ≡ true) e h in
                let x = named d.name q (declared_alike d.name q ∙ mem_declares d.name k refl) in
                let y = x.2 in
                subst (Reached w ds) (ones y.to d (reached_declared y.is_reached) k (y.same_name ∙ x.1)) y.is_reached

    pub carry : {c : Constant} → Reached w cs c → P c → Carried c
    carry {c} (reached m a named) p = carry_one c p (reached m a named) (λ d k h. carry (named d k h) (closed c d p k h))
