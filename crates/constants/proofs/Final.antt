-- The final table: whatever the order, there is one, and each constant has the value of its expression over it.
-- Assumes nothing.
use Prim.Native.Nat.{ℕ}
use mathlib.Core.Bool.{Bool, true, false, true≢false}
use mathlib.Core.List.Memᴰ
use mathlib.Core.List.{List, [], ◌∷◌, Memᴰ}
use mathlib.Core.Logic.{◌↔◌, ⊎_elim}
use mathlib.Core.Option.{Option, some, none, or_else}
use mathlib.Core.Path.{◌≡◌, refl, sym, ◌∙◌, ap, subst}
use lib.IntN.{ℤ}
use Rattle.constants.specs.Eval.{Table, store, eval_const_expr}
use Rattle.constants.specs.Order.{Constant, Way, Settled, Reached, has, declares, order, settle, outcome}
use Rattle.constants.specs.Theory.{Distinct, InTurn, after, IsFinal, AnyOrderIsFinal}
use Rattle.constants.specs.Theory.{FinalIsOne, SettledOverFinal, SettlesAs, Stores, FinalHasTheStored}
use Rattle.constants.specs.Changes.{DeclaresAll, ReorderingLeavesTable}
use Rattle.constants.proofs.Tests.{mem_has, declares_mem, mem_declares, is-ready}
use Rattle.constants.proofs.Eval.{eval_agree, store_own, store_other}
use Rattle.constants.proofs.Carry.{has_not, carry}
use Rattle.constants.proofs.Order.{taken_declared, order_is_in_turn, in_turn_takes_reached, order_takes_reached, fresh}

-- a name that is not taken keeps what it had
pub stable : (taken : List Constant) (t : Table) (n : ℕ) → ((c : Constant) → Memᴰ c taken → c.name ≡ n → ⊥) → after t taken n ≡ t n
unfolding after
stable [] t n h = refl
stable (c ∷ taken) t n h =
    stable taken (store t c.name (eval_const_expr t c.expr)) n (λ d m. h d (Memᴰ.tail m))
    ∙ store_other t c.name (eval_const_expr t c.expr) n (h c (Memᴰ.head refl))

module _ (w : Way) (cs : List Constant) where
  -- the value of the next one is that over the table behind all
  next_value :
      (c : Constant) (taken : List Constant) (done : List ℕ) (t : Table) → InTurn w cs done (c ∷ taken) →
      eval_const_expr (after t (c ∷ taken)) c.expr ≡ eval_const_expr t c.expr
  next_value c taken done t r =
      eval_agree (after t (c ∷ taken)) t c.expr
      (λ n m. stable (c ∷ taken) t n
      (λ d k e. fresh w cs (c ∷ taken) done r d k
      (subst (λ (j : ℕ). has j done ≡ true) (sym e)
      ((is-ready w cs done c r.1).behind n (mem_has m) (mem_declares n (taken_declared w cs (c ∷ taken) done r d k) e)))))

  settled-taken :
      (taken : List Constant) (done : List ℕ) (t : Table) → InTurn w cs done taken → (x : Settled) → Memᴰ x (settle t taken) →
      Memᴰ x.constant taken × (eval_const_expr (after t taken) x.constant.expr ≡ x.value)
  unfolding settle after
  settled-taken [] done t r x m = absurd (Memᴰ.not-nil m)
  settled-taken (c ∷ taken) done t r x m =
      ⊎_elim
      (λ q. (
        Memᴰ.head (ap (λ (y : Settled). y.constant) q),
        ap (λ (y : Settled). eval_const_expr (after t (c ∷ taken)) y.constant.expr) q
            ∙ next_value c taken done t r
            ∙ ap (λ (y : Settled). y.value) (sym q),
      ))
      (λ k.
      let y = settled-taken taken (c.name ∷ done) (store t c.name (eval_const_expr t c.expr)) r.2 x k in
      (Memᴰ.tail y.0, y.1))
      (Memᴰ.cases_cons m)

  taken_settled :
      (taken : List Constant) (done : List ℕ) (t : Table) → InTurn w cs done taken → (c : Constant) → Memᴰ c taken →
      Memᴰ (record { constant = c; value = eval_const_expr (after t taken) c.expr }) (settle t taken)
  unfolding settle after
  taken_settled [] done t r x m = absurd (Memᴰ.not-nil m)
  taken_settled (c ∷ taken) done t r x m =
      ⊎_elim
      (λ q. Memᴰ.head (
      ap (λ (d : Constant). record { constant = d; value = eval_const_expr (after t (c ∷ taken)) d.expr }) q
      ∙ ap (λ (o : Option ℤ). record { constant = c; value = o }) (next_value c taken done t r)
      ))
      (λ k. Memᴰ.tail (taken_settled taken (c.name ∷ done) (store t c.name (eval_const_expr t c.expr)) r.2 x k))
      (Memᴰ.cases_cons m)

  -- what a taken one has behind all
  own_value :
      (taken : List Constant) (done : List ℕ) (t : Table) → InTurn w cs done taken → (c : Constant) → Memᴰ c taken →
      after t taken c.name ≡ or_else (eval_const_expr (after t taken) c.expr) (t c.name)
  unfolding after
  own_value [] done t r x m = absurd (Memᴰ.not-nil m)
  own_value (c ∷ taken) done t r x m =
      ⊎_elim
      (λ q. subst (λ (d : Constant). after t (c ∷ taken) d.name ≡ or_else (eval_const_expr (after t (c ∷ taken)) d.expr) (t d.name)) (sym q) first)
      (λ k.
      own_value taken (c.name ∷ done) (store t c.name (eval_const_expr t c.expr)) r.2 x k
      ∙ ap (or_else (eval_const_expr (after t (c ∷ taken)) x.expr))
      (store_other t c.name (eval_const_expr t c.expr) x.name (λ e. later x k (sym e))))
      (Memᴰ.cases_cons m)
    where
      later : (d : Constant) → Memᴰ d taken → d.name ≡ c.name → ⊥
      later d k e = fresh w cs taken (c.name ∷ done) r.2 d k (mem_has (Memᴰ.head e))

      first : after t (c ∷ taken) c.name ≡ or_else (eval_const_expr (after t (c ∷ taken)) c.expr) (t c.name)
      first =
          stable taken (store t c.name (eval_const_expr t c.expr)) c.name later
          ∙ store_own t c.name (eval_const_expr t c.expr)
          ∙ ap (λ (o : Option ℤ). or_else o (t c.name)) (sym (next_value c taken done t r))

pub any_order_is_final : AnyOrderIsFinal
any_order_is_final w t cs distinct taken r = record {
  own = λ c k. own_value w cs taken [] t r c ((in_turn_takes_reached w cs distinct taken r c).1 k);
  other = λ n h. stable taken t n (λ c m. h c ((in_turn_takes_reached w cs distinct taken r c).0 m));
}

-- two lists that declare the same, whatever their order, have one final table
pub same_table : ReorderingLeavesTable
same_table w t cs ds distinct ones all none_more one other f g n = go (declares (order w cs) n) refl
  where
    alike :
        (cs ds : List Constant) → Distinct ds → DeclaresAll ds cs → DeclaresAll cs ds →
        (F G : Table) → IsFinal w t cs F → IsFinal w t ds G → {c : Constant} → Reached w cs c →
        (d : Constant) × Reached w ds d × (d.name ≡ c.name) × (F c.name ≡ G c.name)
    alike cs ds ones all none_more F G f g r =
        let y =
        carry w t cs ds ones F G f g (λ c. Unit) (λ c d p m h. tt) (λ c p m. all c m) (λ c p m h e. has_not cs ds none_more m e) r tt in
        (y.to, y.is_reached, y.same_name, y.has_value)

    go : (b : Bool) → declares (order w cs) n ≡ b → one n ≡ other n
    go true e =
        let x = declares_mem (order w cs) n e in
        let y = alike cs ds ones all none_more one other f g ((order_takes_reached w cs distinct x.0).0 x.1) in
        sym (ap one x.2) ∙ y.3 ∙ ap other x.2
    go false e =
        f.other n out
        ∙ sym (g.other n (λ d r q. let y = alike ds cs distinct none_more all other one g f r in out y.0 y.1 (y.2 ∙ q)))
      where
        out : (c : Constant) → Reached w cs c → c.name ≡ n → ⊥
        out c r q = true≢false (sym (mem_declares n ((order_takes_reached w cs distinct c).1 r) q) ∙ e)

pub final_is_one : FinalIsOne
final_is_one w t cs distinct = same_table w t cs cs distinct distinct (λ c m. (c, m, refl, refl)) (λ c m. (c, m, refl, refl))

pub settled_over_final : SettledOverFinal
settled_over_final w t cs distinct taken r final f x = (
  λ m.
      let y = settled-taken w cs taken [] t r x m in
      ((in_turn_takes_reached w cs distinct taken r x.constant).0 y.0, alike ∙ y.1),
  λ h.
      Memᴰ.cast (λ i. record { constant = x.constant; value = (sym h.1 ∙ alike) i })
      (taken_settled w cs taken [] t r x.constant ((in_turn_takes_reached w cs distinct taken r x.constant).1 h.0)),
)
  where
    alike : eval_const_expr final x.constant.expr ≡ eval_const_expr (after t taken) x.constant.expr
    alike =
        eval_agree final (after t taken) x.constant.expr
        (λ n m. final_is_one w t cs distinct final (after t taken) f (any_order_is_final w t cs distinct taken r) n)

-- the table behind the constants in their order
abbrev pub final : Way → Table → List Constant → Table
final w t cs = after t (order w cs)

pub is_final : (w : Way) (t : Table) (cs : List Constant) → Distinct cs → IsFinal w t cs (final w t cs)
is_final w t cs distinct = any_order_is_final w t cs distinct (order w cs) (order_is_in_turn w cs)

-- a constant is settled so exactly if it is reached and worth that over the final table
pub settles_if :
    (w : Way) (t : Table) (cs : List Constant) → Distinct cs → (c : Constant) (o : Option ℤ) →
    SettlesAs w t cs c o ↔ (Reached w cs c × (eval_const_expr (final w t cs) c.expr ≡ o))
unfolding outcome
settles_if w t cs distinct c o =
    settled_over_final w t cs distinct (order w cs) (order_is_in_turn w cs) (final w t cs) (is_final w t cs distinct)
    (record { constant = c; value = o })

pub final_has_the_stored : FinalHasTheStored
unfolding or_else
final_has_the_stored w t cs distinct F f n = (λ z s. stored z s, λ unstored. go (declares (order w cs) n) refl unstored)
  where
    same : (c : Constant) → eval_const_expr F c.expr ≡ eval_const_expr (final w t cs) c.expr
    same c = eval_agree F (final w t cs) c.expr (λ m k. final_is_one w t cs distinct F (final w t cs) f (is_final w t cs distinct) m)

    own : (c : Constant) → Reached w cs c → c.name ≡ n → F n ≡ or_else (eval_const_expr (final w t cs) c.expr) (t n)
    own c r q = sym (ap F q) ∙ f.own c r ∙ (λ i. or_else (same c i) (t (q i)))

    stored : (z : ℤ) → Stores w t cs n z → F n ≡ some z
    stored z s =
        let x = (settles_if w t cs distinct s.0 (some z)).0 s.2 in
        own s.0 x.0 s.1 ∙ ap (λ (o : Option ℤ). or_else o (t n)) x.1

    at :
        (c : Constant) → Reached w cs c → c.name ≡ n → ((z : ℤ) → Stores w t cs n z → ⊥) →
        (o : Option ℤ) → eval_const_expr (final w t cs) c.expr ≡ o → F n ≡ t n
    at c r q unstored none e = own c r q ∙ ap (λ (o : Option ℤ). or_else o (t n)) e
    at c r q unstored (some z) e = absurd (unstored z (c, q, (settles_if w t cs distinct c (some z)).1 (r, e)))

    go : (b : Bool) → declares (order w cs) n ≡ b → ((z : ℤ) → Stores w t cs n z → ⊥) → F n ≡ t n
    go true e unstored =
        let x = declares_mem (order w cs) n e in
        at x.0 ((order_takes_reached w cs distinct x.0).0 x.1) x.2 unstored (eval_const_expr (final w t cs) x.0.expr) refl
    go false e unstored = f.other n (λ c r q. true≢false (sym (mem_declares n ((order_takes_reached w cs distinct c).1 r) q) ∙ e))
