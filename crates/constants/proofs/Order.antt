-- The order: it goes on until nothing is ready, and any such order takes exactly the reached constants.
-- Assumes nothing.
use Prim.Native.Nat.{ℕ, zero, suc, ◌≤◌, ◌<◌}
use mathlib.Core.Bool.{Bool, true, false, not, true≢false, false≢true}
use mathlib.Core.List.Memᴰ
use mathlib.Core.List.{List, [], ◌∷◌, Memᴰ}
use mathlib.Core.List.{◌++◌, nil≢cons, head-eq_of_cons-eq, tail-eq_of_cons-eq, append-nil}
use mathlib.Core.Logic.{◌⊎◌, inl, inr, ⊎_elim}
use mathlib.Core.Option.{Option, some, none}
use mathlib.Core.Path.{◌≡◌, refl, sym, ◌∙◌, ap, subst}
use native.Mathlib.Omega.{arith}
use lib.Dec.{eqb}
use lib.ListN.{length}
use borrow.Author.Tests.{eqb-true, eq-eqb}
use Rattle.book.specs.Lists.{any, find, keep}
use Rattle.book.proofs.Lists.{keep-length, keep_less}
use Rattle.book.proofs.Members.{First, first_mem, Found, found}
use Rattle.book.proofs.Trees.{not_so}
use Rattle.constants.specs.Expr.{refs}
use Rattle.constants.specs.Order.{Constant, Way, Reached, reached, has, admits, ready, order_from, order}
use Rattle.constants.specs.Theory.{Distinct, InTurn, done_by, OrderIsInTurn, InTurnTakesReached, ReadyIsReached}
use Rattle.constants.specs.Theory.{OrderTakesReached, OrderTakesEarliest, ReachedIsLeast, NoNameTwice, InTurnTakesOnce}
use Rattle.constants.proofs.Tests.{has_mem, mem_has, declares_mem, mem_declares, is-ready, ready_if}

-- how many are not done
module _ (w : Way) (cs : List Constant) where
  abbrev undone : List ℕ → Constant → Bool
  undone done c = not (has c.name done)

  abbrev left : List ℕ → ℕ
  left done = length (keep (undone done) cs)

  one_done : (done : List ℕ) (c : Constant) → Memᴰ c cs → has c.name done ≡ false → left (c.name ∷ done) < left done
  unfolding any
  one_done done c m f =
      keep_less (undone done) (undone (c.name ∷ done)) later m (ap not f) (rw (eq-eqb c.name c.name refl, any) refl)
    where
      later : (x : Constant) → undone (c.name ∷ done) x ≡ true → undone done x ≡ true
      later x e = go (eqb c.name x.name) e
        where
          go : (b : Bool) → not (elim b [ true ↦ true | false ↦ has x.name done ]) ≡ true → undone done x ≡ true
          go true e = absurd (false≢true e)
          go false e = e

  from_in_turn : (most : ℕ) (done : List ℕ) → left done ≤ most → InTurn w cs done (order_from most w cs done)
  unfolding order_from
  from_in_turn zero done few = λ c m. not_so (ready w cs done c) (λ r. nobody c m (is-ready w cs done c r).fresh)
    where
      nobody : (c : Constant) → Memᴰ c cs → has c.name done ≡ false → ⊥
      nobody c m f = omega (arith, one_done done c m f, few)
  from_in_turn (suc most) done few =
      go (find (ready w cs done) cs) (found (ready w cs done) cs) (λ c. from_in_turn most (c.name ∷ done))
    where
      go :
          (o : Option Constant) → Found (ready w cs done) cs o →
          ((c : Constant) → left (c.name ∷ done) ≤ most → InTurn w cs (c.name ∷ done) (order_from most w cs (c.name ∷ done))) →
          InTurn w cs done (elim o [ none ↦ [] | some c ↦ c ∷ order_from most w cs (c.name ∷ done) ])
      go none f rest = f
      go (some c) f rest =
          let m = first_mem f in
          (m, f.passes, rest c (omega (arith, one_done done c m (is-ready w cs done c f.passes).fresh, few)))

pub order_is_in_turn : OrderIsInTurn
unfolding order
order_is_in_turn w cs = from_in_turn w cs (length cs) [] (keep-length _ cs)

-- Any order. A name that is put before others, and the names that are done
has_first : (n m : ℕ) (ns : List ℕ) → has n (m ∷ ns) ≡ true → (m ≡ n) ⊎ (has n ns ≡ true)
unfolding any
has_first n m ns e = go (eqb m n) refl e
  where
    go : (b : Bool) → eqb m n ≡ b → elim b [ true ↦ true | false ↦ has n ns ] ≡ true → (m ≡ n) ⊎ (has n ns ≡ true)
    go true q e = inl (eqb-true m n q)
    go false q e = inr e

pub has_later : (n m : ℕ) (ns : List ℕ) → has n ns ≡ true → has n (m ∷ ns) ≡ true
has_later n m ns h = mem_has (Memᴰ.tail (has_mem n ns h))

stays_done : (taken : List Constant) (done : List ℕ) (n : ℕ) → has n done ≡ true → has n (done_by taken done) ≡ true
stays_done [] done n h = h
stays_done (c ∷ taken) done n h = stays_done taken (c.name ∷ done) n (has_later n c.name done h)

taken-done : {c : Constant} {taken : List Constant} (done : List ℕ) → Memᴰ c taken → has c.name (done_by taken done) ≡ true
taken-done {c} done (Memᴰ.head {x = d} {xs = taken} e) =
    stays_done taken (d.name ∷ done) c.name (mem_has (Memᴰ.head (ap (λ (x : Constant). x.name) e)))
taken-done {c} done (Memᴰ.tail {x = d} m) = taken-done (d.name ∷ done) m

done-taken :
    (taken : List Constant) (done : List ℕ) (n : ℕ) → has n (done_by taken done) ≡ true →
    ((c : Constant) × Memᴰ c taken × (c.name ≡ n)) ⊎ (has n done ≡ true)
done-taken [] done n h = inr h
done-taken (c ∷ taken) done n h =
    ⊎_elim
    (λ x. inl (x.0, Memᴰ.tail x.1, x.2))
    (λ g. ⊎_elim (λ q. inl (c, Memᴰ.head refl, q)) (λ k. inr k) (has_first n c.name done g))
    (done-taken taken (c.name ∷ done) n h)

-- the parts of being reached
pub reached_declared : {w : Way} {cs : List Constant} {c : Constant} → Reached w cs c → Memᴰ c cs
reached_declared (reached m a named) = m

pub reached_admitted : {w : Way} {cs : List Constant} {c : Constant} → Reached w cs c → admits w cs c ≡ true
reached_admitted (reached m a named) = a

pub reached_names :
    {w : Way} {cs : List Constant} {c : Constant} → Reached w cs c →
    (d : Constant) → Memᴰ d cs → has d.name (refs c.expr) ≡ true → Reached w cs d
reached_names (reached m a named) = named

module _ (w : Way) (cs : List Constant) where
  pub taken_declared : (taken : List Constant) (done : List ℕ) → InTurn w cs done taken → (c : Constant) → Memᴰ c taken → Memᴰ c cs
  taken_declared [] done t x m = absurd (Memᴰ.not-nil m)
  taken_declared (c ∷ taken) done t x m =
      ⊎_elim (λ q. Memᴰ.cast q t.0) (taken_declared taken (c.name ∷ done) t.2 x) (Memᴰ.cases_cons m)

  none_left :
      (taken : List Constant) (done : List ℕ) → InTurn w cs done taken →
      (c : Constant) → Memᴰ c cs → ready w cs (done_by taken done) c ≡ false
  none_left [] done t = t
  none_left (c ∷ taken) done t = none_left taken (c.name ∷ done) t.2

  module _ (distinct : Distinct cs) where
    -- what is done is reached, and so is what is ready then
    abbrev AllReached : List ℕ → Type 0
    AllReached done = (d : Constant) → Memᴰ d cs → has d.name done ≡ true → Reached w cs d

    ready-reached : (done : List ℕ) → AllReached done → (c : Constant) → Memᴰ c cs → ready w cs done c ≡ true → Reached w cs c
    ready-reached done all c m e =
        let r = is-ready w cs done c e in
        reached m r.admitted (λ d k h. all d k (r.behind d.name h (mem_declares d.name k refl)))

    one_more_lem : (done : List ℕ) → AllReached done → (c : Constant) → Memᴰ c cs → Reached w cs c → AllReached (c.name ∷ done)
    one_more_lem done all c m r d k h =
        ⊎_elim (λ q. subst (Reached w cs) (distinct c d m k q) r) (all d k) (has_first d.name c.name done h)

    all_reached :
        (taken rest : List Constant) (done : List ℕ) → InTurn w cs done (taken ++ rest) → AllReached done → AllReached (done_by taken done)
    all_reached [] rest done t all = all
    all_reached (c ∷ taken) rest done t all =
        all_reached taken rest (c.name ∷ done) t.2 (one_more_lem done all c t.0 (ready-reached done all c t.0 t.1))

    -- some were taken from the start on
    module _ (taken rest : List Constant) (t : InTurn w cs [] (taken ++ rest)) where
      declared : (c : Constant) → Memᴰ c taken → Memᴰ c cs
      declared c m = taken_declared (taken ++ rest) [] t c (Memᴰ.append_left rest m)

      done_reached : AllReached (done_by taken [])
      done_reached = all_reached taken rest [] t (λ d k h. absurd (Memᴰ.not-nil (has_mem d.name [] h)))

      is_taken : (c : Constant) → Memᴰ c cs → has c.name (done_by taken []) ≡ true → Memᴰ c taken
      is_taken c m h =
          ⊎_elim
          (λ x. Memᴰ.cast (distinct c x.0 m (declared x.0 x.1) (sym x.2)) x.1)
          (λ h. absurd (Memᴰ.not-nil (has_mem c.name [] h)))
          (done-taken taken [] c.name h)

      is_ready_then :
          (c : Constant) → Reached w cs c → has c.name (done_by taken []) ≡ false →
          ((d : Constant) → Memᴰ d cs → has d.name (refs c.expr) ≡ true → Memᴰ d taken) →
          ready w cs (done_by taken []) c ≡ true
      is_ready_then c r e named =
          ready_if w cs (done_by taken []) c (
          record {
            fresh = e;
            admitted = reached_admitted r;
            behind =
                λ n h k.
                let x = declares_mem cs n k in
                subst (λ (j : ℕ). has j (done_by taken []) ≡ true) x.2
                (taken-done [] (named x.0 x.1 (subst (λ (j : ℕ). has j (refs c.expr) ≡ true) (sym x.2) h)));
          }
          )

    sound : (taken : List Constant) → InTurn w cs [] taken → (c : Constant) → Memᴰ c taken → Reached w cs c
    sound taken t c m =
        done_reached taken [] (subst (InTurn w cs []) (sym (append-nil taken)) t) c (taken_declared taken [] t c m) (taken-done [] m)

    complete : (taken : List Constant) → InTurn w cs [] taken → {c : Constant} → Reached w cs c → Memᴰ c taken
    complete taken t {c} (reached m a named) =
        go (has c.name (done_by taken [])) refl (λ d k h. complete taken t (named d k h))
      where
        all : InTurn w cs [] (taken ++ [])
        all = subst (InTurn w cs []) (sym (append-nil taken)) t

        go :
            (b : Bool) → has c.name (done_by taken []) ≡ b →
            ((d : Constant) → Memᴰ d cs → has d.name (refs c.expr) ≡ true → Memᴰ d taken) →
            Memᴰ c taken
        go true e below = is_taken taken [] all c m e
        go false e below =
            absurd (true≢false (sym (is_ready_then taken [] all c (reached m a named) e below) ∙ none_left taken [] t c m))

pub in_turn_takes_reached : InTurnTakesReached
in_turn_takes_reached w cs distinct taken t c = (sound w cs distinct taken t c, λ r. complete w cs distinct taken t r)

pub ready_is_reached : ReadyIsReached
ready_is_reached w cs distinct taken rest t c m = (
  λ e.
      let r = is-ready w cs (done_by taken []) c e in (
        ready-reached w cs distinct (done_by taken []) (done_reached w cs distinct taken rest t) c m e,
        λ k. true≢false (sym (taken-done [] k) ∙ r.fresh),
        λ d k h. is_taken w cs distinct taken rest t d k (r.behind d.name h (mem_declares d.name k refl)),
      ),
  λ h.
      is_ready_then w cs distinct taken rest t c h.0
      (not_so _ (λ e. h.1 (is_taken w cs distinct taken rest t c m e)))
      h.2,
)

pub order_takes_reached : OrderTakesReached
order_takes_reached w cs distinct = in_turn_takes_reached w cs distinct (order w cs) (order_is_in_turn w cs)

-- what is taken next is the first that is ready
from_earliest :
    (w : Way) (cs : List Constant) (most : ℕ) (taken rest : List Constant) (c : Constant) (done : List ℕ) →
    order_from most w cs done ≡ taken ++ (c ∷ rest) → First (ready w cs (done_by taken done)) cs c
unfolding order_from
from_earliest w cs zero [] rest c done e = absurd (nil≢cons e)
from_earliest w cs zero (d ∷ taken) rest c done e = absurd (nil≢cons e)
from_earliest w cs (suc most) [] rest c done e = go (find (ready w cs done) cs) (found (ready w cs done) cs) e
  where
    go :
        (o : Option Constant) → Found (ready w cs done) cs o →
        elim o [ none ↦ [] | some d ↦ d ∷ order_from most w cs (d.name ∷ done) ] ≡ c ∷ rest → First (ready w cs done) cs c
    go none f e = absurd (nil≢cons e)
    go (some d) f e = subst (First (ready w cs done) cs) (head-eq_of_cons-eq e) f
from_earliest w cs (suc most) (d ∷ taken) rest c done e =
    go (find (ready w cs done) cs) e (λ n. from_earliest w cs most taken rest c (n ∷ done))
  where
    go :
        (o : Option Constant) →
        elim o [ none ↦ [] | some x ↦ x ∷ order_from most w cs (x.name ∷ done) ] ≡ d ∷ (taken ++ (c ∷ rest)) →
        ((n : ℕ) → order_from most w cs (n ∷ done) ≡ taken ++ (c ∷ rest) → First (ready w cs (done_by taken (n ∷ done))) cs c) →
        First (ready w cs (done_by taken (d.name ∷ done))) cs c
    go none e next = absurd (nil≢cons e)
    go (some x) e next =
        subst (λ (y : Constant). First (ready w cs (done_by taken (y.name ∷ done))) cs c) (head-eq_of_cons-eq e) (next x.name (tail-eq_of_cons-eq e))

pub order_takes_earliest : OrderTakesEarliest
unfolding order
order_takes_earliest w cs taken rest c e =
    let f = from_earliest w cs (length cs) taken rest c [] e in
    (f.before, f.behind, f.there, f.none_before)

pub reached_is_least : ReachedIsLeast
reached_is_least w cs P step c (reached m a named) = step c m a (λ d k h. reached_is_least w cs P step d (named d k h))

-- what is taken was not done
pub fresh :
    (w : Way) (cs taken : List Constant) (done : List ℕ) → InTurn w cs done taken → (c : Constant) → Memᴰ c taken →
    has c.name done ≡ true → ⊥
fresh w cs [] done r x m h = Memᴰ.not-nil m
fresh w cs (c ∷ taken) done r x m h =
    ⊎_elim
    (λ q. true≢false (sym h ∙ ap (λ (d : Constant). has d.name done) q ∙ (is-ready w cs done c r.1).fresh))
    (λ k. fresh w cs taken (c.name ∷ done) r.2 x k (has_later x.name c.name done h))
    (Memᴰ.cases_cons m)

pub in_turn_takes_once : InTurnTakesOnce
in_turn_takes_once w cs taken r = go taken [] r
  where
    go : (taken : List Constant) (done : List ℕ) → InTurn w cs done taken → NoNameTwice taken
    go [] done r = tt
    go (c ∷ taken) done r =
        (λ d m e. fresh w cs taken (c.name ∷ done) r.2 d m (mem_has (Memᴰ.head e)), go taken (c.name ∷ done) r.2)
