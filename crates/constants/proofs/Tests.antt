-- What the tests of the order say: of members of a list, and of a constant that is ready.
-- Assumes nothing.
use Prim.Native.Nat.{ℕ}
use mathlib.Core.Bool.{Bool, true, false, not, true≢false}
use mathlib.Core.List.Memᴰ
use mathlib.Core.List.{List, Memᴰ}
use mathlib.Core.Path.{◌≡◌, refl, sym, ◌∙◌, ap}
use borrow.Author.Tests.{eqb-true, eq-eqb, not-true}
use lib.Dec.{eqb}
use Rattle.book.specs.Lists.{any, keep}
use Rattle.book.proofs.Members.{mem_keep, keep_mem, any_mem, mem_any}
use Rattle.book.proofs.Trees.{both_so}
use Rattle.constants.specs.Expr.{refs}
use Rattle.constants.specs.Order.{Constant, Way, has, declares, declared_refs, admits, ready}

-- a name among names; a name that is declared
pub has_mem : (n : ℕ) (ns : List ℕ) → has n ns ≡ true → Memᴰ n ns
has_mem n ns h = let x = any_mem (λ m. eqb m n) ns h in Memᴰ.cast (sym (eqb-true x.0 n x.2)) x.1

pub mem_has : {n : ℕ} {ns : List ℕ} → Memᴰ n ns → has n ns ≡ true
mem_has {n} m = mem_any (λ m. eqb m n) m (eq-eqb n n refl)

pub declares_mem : (cs : List Constant) (n : ℕ) → declares cs n ≡ true → (d : Constant) × Memᴰ d cs × (d.name ≡ n)
declares_mem cs n h = let x = any_mem (λ d. eqb d.name n) cs h in (x.0, x.1, eqb-true x.0.name n x.2)

pub mem_declares : {cs : List Constant} {d : Constant} (n : ℕ) → Memᴰ d cs → d.name ≡ n → declares cs n ≡ true
mem_declares {d} n m e = mem_any (λ d. eqb d.name n) m (eq-eqb d.name n e)

-- c is ready: not done, admitted, and what it names of the declared is done
pub record IsReady (w : Way) (cs : List Constant) (done : List ℕ) (c : Constant) : Type 0 where
  pub fresh : has c.name done ≡ false
  pub admitted : admits w cs c ≡ true
  pub behind : (n : ℕ) → has n (refs c.expr) ≡ true → declares cs n ≡ true → has n done ≡ true

pub is-ready : (w : Way) (cs : List Constant) (done : List ℕ) (c : Constant) → ready w cs done c ≡ true → IsReady w cs done c
unfolding ready declared_refs
is-ready w cs done c e =
    let x = both_so _ _ e in
    let y = both_so _ _ x.0 in
    record {
      fresh = not-true _ y.0;
      admitted = y.1;
      behind = λ n h d. go n (keep_mem (declares cs) (has_mem n _ h) d) (has n done) refl (not-true _ x.1);
    }
  where
    go :
        (n : ℕ) → Memᴰ n (keep (declares cs) (refs c.expr)) → (b : Bool) → has n done ≡ b →
        any (λ m. not (has m done)) (keep (declares cs) (refs c.expr)) ≡ false → has n done ≡ true
    go n m true q e = q
    go n m false q e = absurd (true≢false (sym (mem_any (λ m. not (has m done)) m (ap not q)) ∙ e))

pub ready_if : (w : Way) (cs : List Constant) (done : List ℕ) (c : Constant) → IsReady w cs done c → ready w cs done c ≡ true
unfolding ready declared_refs
ready_if w cs done c r = rw (r.fresh, r.admitted) (go (any (λ m. not (has m done)) (keep (declares cs) (refs c.expr))) refl)
  where
    go : (b : Bool) → any (λ m. not (has m done)) (keep (declares cs) (refs c.expr)) ≡ b → not b ≡ true
    go false e = refl
    go true e =
        let x = any_mem (λ m. not (has m done)) _ e in
        let y = mem_keep (declares cs) _ x.1 in
        absurd (true≢false (sym (r.behind x.0 (mem_has y.0) y.1) ∙ not-true _ x.2))
