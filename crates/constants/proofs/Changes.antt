-- Rings, and two lists of constants of which one has the other's.
-- Assumes nothing.
use Prim.Native.Nat.{ℕ}
use mathlib.Core.Bool.{Bool, true, false, true≢false}
use mathlib.Core.List.{List, Memᴰ}
use mathlib.Core.Logic.{⊎_elim}
use mathlib.Core.Option.{Option, some, none, none-ne-some, or_else}
use mathlib.Core.Path.{◌≡◌, refl, sym, ◌∙◌, ap, subst}
use lib.IntN.{ℤ}
use Rattle.constants.specs.Expr.{Expr, refs}
use Rattle.constants.specs.Eval.{Table, eval_const_expr}
use Rattle.constants.specs.Order.{Constant, Way, Reached, reached, has, declares}
use Rattle.constants.specs.Leads.{Leads, names, further, LiesOnRing}
use Rattle.constants.specs.Theory.{Distinct, SettlesAs, Settles, Stores}
use Rattle.constants.specs.Changes.{DeclaresAll, NoneBefore, RestsOnNoneKept, RingsAreUnreached}
use Rattle.constants.specs.Changes.{NothingOnRings, Extension, RestsOnStored, ExtensionKeeps}
use Rattle.constants.specs.Changes.{Reordering, ReorderingLeavesTable, RemovalKeeps, RemovalLoses, RemovalAddsNone}
use Rattle.book.proofs.Trees.{not_so}
use Rattle.constants.proofs.Tests.{has_mem, declares_mem, mem_declares}
use Rattle.constants.proofs.Eval.{eval_strict, or_else_none}
use Rattle.constants.proofs.Order.{reached_declared, reached_names}
use Rattle.constants.proofs.Carry.{has_not, undeclared, carry}
use Rattle.constants.proofs.Final.{final, is_final, same_table, settles_if}

-- Rings: what is reached leads to what is reached, and not to itself
module _ (w : Way) (cs : List Constant) where
  leads-reached : {c d : Constant} → Leads cs c d → Reached w cs c → Reached w cs d
  leads-reached (names {d = d} m h) r = reached_names r d m h
  leads-reached (further {d = d} m h l) r = leads-reached l (reached_names r d m h)

  leads_on : {c d e : Constant} → Leads cs c d → Leads cs d e → Leads cs c e
  leads_on (names m h) k = further m h k
  leads_on (further m h l) k = further m h (leads_on l k)

  no_ring : {c : Constant} → Reached w cs c → LiesOnRing cs c → ⊥
  no_ring {c} (reached m a named) l = go l refl (λ d k h. no_ring (named d k h))
    where
      go :
          {d : Constant} → Leads cs c d → d ≡ c →
          ((x : Constant) → Memᴰ x cs → has x.name (refs c.expr) ≡ true → LiesOnRing cs x → ⊥) → ⊥
      go (names {d = d} k h) q below = below d k h (subst (λ (x : Constant). Leads cs x d) (sym q) (names k h))
      go (further {d = d} k h l) q below = below d k h (leads_on (subst (Leads cs d) q l) (names k h))

pub rings_are_unreached : RingsAreUnreached
rings_are_unreached w cs c r ring = ⊎_elim (no_ring w cs r) (λ x. no_ring w cs (leads-reached w cs x.1 r) x.2) ring

pub nothing_on_rings : NothingOnRings
nothing_on_rings w t cs distinct c z s = rings_are_unreached w cs c ((settles_if w t cs distinct c (some z)).0 s).0

-- What a stored constant names has a value in the final table. A declared one is stored itself, unless its value was
-- kept from beforehand; any is, if it had none beforehand.
module _ (w : Way) (t : Table) (cs : List Constant) (distinct : Distinct cs) where
  valued :
      (c : Constant) (z : ℤ) → SettlesAs w t cs c (some z) →
      (n : ℕ) → has n (refs c.expr) ≡ true → (y : ℤ) × (final w t cs n ≡ some y)
  valued c z s n h =
      eval_strict (final w t cs) c.expr z ((settles_if w t cs distinct c (some z)).0 s).1 n (has_mem n (refs c.expr) h)

  names_stored :
      (c : Constant) (z : ℤ) → SettlesAs w t cs c (some z) →
      (d : Constant) → Memᴰ d cs → has d.name (refs c.expr) ≡ true →
      (SettlesAs w t cs d none → t d.name ≡ none) → (y : ℤ) × SettlesAs w t cs d (some y)
  names_stored c z s d m h unkept = at (eval_const_expr (final w t cs) d.expr) refl
    where
      r : Reached w cs d
      r = reached_names ((settles_if w t cs distinct c (some z)).0 s).0 d m h

      at : (o : Option ℤ) → eval_const_expr (final w t cs) d.expr ≡ o → (y : ℤ) × SettlesAs w t cs d (some y)
      at (some y) e = (y, (settles_if w t cs distinct d (some y)).1 (r, e))
      at none e =
          let x = valued c z s d.name h in
          let kept = unkept ((settles_if w t cs distinct d none).1 (r, e)) in
          absurd (none-ne-some x.0
          (sym ((is_final w t cs distinct).own d r ∙ (λ i. or_else (e i) (kept i)) ∙ or_else_none none) ∙ x.1))

  named_stored :
      (c : Constant) (z : ℤ) → SettlesAs w t cs c (some z) →
      (n : ℕ) → has n (refs c.expr) ≡ true → t n ≡ none → (y : ℤ) × Stores w t cs n y
  named_stored c z s n h before = go (declares cs n) refl
    where
      go : (b : Bool) → declares cs n ≡ b → (y : ℤ) × Stores w t cs n y
      go true e =
          let x = declares_mem cs n e in
          let named = subst (λ (j : ℕ). has j (refs c.expr) ≡ true) (sym x.2) h in
          let y = names_stored c z s x.0 x.1 named (λ k. ap t x.2 ∙ before) in
          (y.0, (x.0, x.2, y.1))
      go false e =
          let v = valued c z s n h in
          absurd (none-ne-some v.0
          (sym before ∙ sym (undeclared w t cs (final w t cs) (is_final w t cs distinct) n e) ∙ v.1))

pub rests_on_stored : RestsOnStored
rests_on_stored w t cs distinct c z s unkept d l = go l z s unkept
  where
    go :
        {c d : Constant} → Leads cs c d → (z : ℤ) → SettlesAs w t cs c (some z) → RestsOnNoneKept w t cs c →
        (y : ℤ) × SettlesAs w t cs d (some y)
    go (names {c = c} {d = d} m h) z s unkept = names_stored w t cs distinct c z s d m h (unkept d (names m h))
    go (further {c = c} {d = d} m h l) z s unkept =
        let x = names_stored w t cs distinct c z s d m h (unkept d (names m h)) in
        go l x.0 x.1 (λ e k. unkept e (further m h k))

-- what is carried from one list to another is settled there
module _
    (w : Way) (t : Table) (cs ds : List Constant) (distinct : Distinct cs) (ones : Distinct ds)
    (P : Constant → Type 0)
    (closed : (c d : Constant) → P c → Memᴰ d cs → has d.name (refs c.expr) ≡ true → P d)
    (moved : (c : Constant) → P c → Memᴰ c cs → (d : Constant) × Memᴰ d ds × (d.name ≡ c.name) × (d.expr ≡ c.expr))
    (others : (c : Constant) → P c → (n : ℕ) → has n (refs c.expr) ≡ true → declares cs n ≡ false → declares ds n ≡ false)
  where
    settles_too : (c : Constant) (o : Option ℤ) → SettlesAs w t cs c o → P c → Settles w t ds c.name o
    settles_too c o s p =
        let x = (settles_if w t cs distinct c o).0 s in
        let y =
        carry w t cs ds ones (final w t cs) (final w t ds) (is_final w t cs distinct) (is_final w t ds ones) P closed moved others
        x.0 p in
        (y.to, y.same_name, (settles_if w t ds ones y.to o).1 (y.is_reached, sym y.worth ∙ x.1))

-- no value beforehand, in what a list declares
none_had : (t : Table) (cs ds : List Constant) → DeclaresAll cs ds → NoneBefore t cs → NoneBefore t ds
none_had t cs ds all before d m = let x = all d m in ap t (sym x.2) ∙ before x.0 x.1

pub extension : Extension
extension w t cs ds distinct ones all added c z s unkept =
    settles_too w t cs ds distinct ones
    (λ c. ((y : ℤ) × SettlesAs w t cs c (some y)) × ((d : Constant) → Leads cs c d → (y : ℤ) × SettlesAs w t cs d (some y)))
    (λ c d p m h. (p.1 d (names m h), λ e l. p.1 e (further m h l)))
    (λ c p m. all c m)
    (λ c p n h e. not_so (declares ds n) (unadded c p.0.0 p.0.1 n h e))
    c (some z) s ((z, s), rests_on_stored w t cs distinct c z s unkept)
  where
    unadded :
        (c : Constant) (y : ℤ) → SettlesAs w t cs c (some y) → (n : ℕ) → has n (refs c.expr) ≡ true → declares cs n ≡ false →
        declares ds n ≡ true → ⊥
    unadded c y s n h e q =
        let x = declares_mem ds n q in
        let v = valued w t cs distinct c y s n h in
        let gone : t n ≡ none = ap t (sym x.2) ∙ added x.0 x.1 (ap (declares cs) x.2 ∙ e) in
        none-ne-some v.0 (sym gone ∙ sym (undeclared w t cs (final w t cs) (is_final w t cs distinct) n e) ∙ v.1)

pub extension_keeps : ExtensionKeeps
extension_keeps w t cs ds distinct ones all before n z s =
    let unkept : RestsOnNoneKept w t cs s.0 =
    λ d l k. none_had t ds cs all before d (reached_declared ((settles_if w t cs distinct d none).0 k).0) in
    let x = extension w t cs ds distinct ones all (λ d m e. before d m) s.0 z s.2 unkept in
    (x.0, x.1 ∙ s.1, x.2)

pub reordering : Reordering
reordering w t cs ds distinct ones all none_more n o = (go cs ds distinct ones all none_more, go ds cs ones distinct none_more all)
  where
    go : (cs ds : List Constant) → Distinct cs → Distinct ds → DeclaresAll ds cs → DeclaresAll cs ds → Settles w t cs n o → Settles w t ds n o
    go cs ds distinct ones all none_more s =
        let x =
        settles_too w t cs ds distinct ones (λ c. Unit) (λ c d p m h. tt) (λ c p m. all c m) (λ c p n h e. has_not cs ds none_more n e)
        s.0 o s.2 tt in
        (x.0, x.1 ∙ s.1, x.2)

pub reordering_leaves_table : ReorderingLeavesTable
reordering_leaves_table = same_table

-- the constant of the larger list that a name of the smaller one has
the_same :
    (cs ds : List Constant) → Distinct cs → DeclaresAll cs ds →
    (c : Constant) → Memᴰ c cs → (d : Constant) → Memᴰ d ds → d.name ≡ c.name → d.expr ≡ c.expr
the_same cs ds distinct all c m d k e =
    let x = all d k in
    sym x.3 ∙ ap (λ (y : Constant). y.expr) (distinct x.0 c x.1 m (x.2 ∙ e))

-- what avoids the removed names: from the larger list to the smaller one, and back
module _ (w : Way) (t : Table) (cs ds : List Constant) (distinct : Distinct cs) (ones : Distinct ds) (all : DeclaresAll cs ds) where
  abbrev Avoids : Constant → Type 0
  Avoids c = (d : Constant) → Leads cs c d → declares ds d.name ≡ true

  keeps_there :
      (c : Constant) (o : Option ℤ) → SettlesAs w t cs c o → declares ds c.name ≡ true → Avoids c → Settles w t ds c.name o
  keeps_there c o s stays avoids =
      settles_too w t cs ds distinct ones
      (λ c. (declares ds c.name ≡ true) × Avoids c)
      (λ c d p m h. (p.1 d (names m h), λ e l. p.1 e (further m h l)))
      (λ c p m. let x = declares_mem ds c.name p.0 in (x.0, x.1, x.2, the_same cs ds distinct all c m x.0 x.1 x.2))
      (λ c p n h e. has_not cs ds all n e)
      c o s (stays, avoids)

  -- a constant of the smaller list, by that of the larger one
  abbrev By : Constant → Type 0
  By d = (c : Constant) × Memᴰ c cs × (c.name ≡ d.name) × (c.expr ≡ d.expr) × Avoids c

  names_by_lem : (d : Constant) (p : By d) (e : Constant) → has e.name (refs d.expr) ≡ true → has e.name (refs p.0.expr) ≡ true
  names_by_lem d p e = subst (λ (x : Expr). has e.name (refs x) ≡ true) (sym p.3)

  keeps_back : (d : Constant) (o : Option ℤ) → SettlesAs w t ds d o → By d → Settles w t cs d.name o
  keeps_back d o s p =
      settles_too w t ds cs ones distinct By
      (λ d e p k h.
      let x = all e k in
      let named = names_by_lem d p x.0 (subst (λ (n : ℕ). has n (refs d.expr) ≡ true) (sym x.2) h) in
      (x.0, x.1, x.2, x.3, λ f l. p.4 f (further x.1 named l)))
      (λ d p k. (p.0, p.1, p.2, p.3))
      (λ d p n h e. not_so (declares cs n) (avoided d p n h e))
      d o s p
    where
      avoided : (d : Constant) → By d → (n : ℕ) → has n (refs d.expr) ≡ true → declares ds n ≡ false → declares cs n ≡ true → ⊥
      avoided d p n h e q =
          let x = declares_mem cs n q in
          let named = names_by_lem d p x.0 (subst (λ (j : ℕ). has j (refs d.expr) ≡ true) (sym x.2) h) in
          true≢false (sym (p.4 x.0 (names x.1 named)) ∙ ap (declares ds) x.2 ∙ e)

pub removal_keeps : RemovalKeeps
removal_keeps w t cs ds distinct ones all c m stays avoids o = (
  λ s.
      let k = reached_declared ((settles_if w t cs distinct s.0 o).0 s.2).0 in
      keeps_there w t cs ds distinct ones all c o
      (subst (λ (x : Constant). SettlesAs w t cs x o) (distinct s.0 c k m s.1) s.2) stays avoids,
  λ s.
      let k = reached_declared ((settles_if w t ds ones s.0 o).0 s.2).0 in
      let same = sym (the_same cs ds distinct all c m s.0 k s.1) in
      let x = keeps_back w t cs ds distinct ones all s.0 o s.2 (c, m, sym s.1, same, avoids) in
      (x.0, x.1 ∙ s.1, x.2),
)

-- what is stored in the smaller list names of the larger one only what is stored in the smaller
module _
    (w : Way) (t : Table) (cs ds : List Constant) (distinct : Distinct cs) (ones : Distinct ds) (all : DeclaresAll cs ds)
    (before : NoneBefore t cs)
  where
    names_left :
        (c : Constant) → Memᴰ c cs → (z : ℤ) → Stores w t ds c.name z →
        (d : Constant) → Memᴰ d cs → has d.name (refs c.expr) ≡ true → (y : ℤ) × Stores w t ds d.name y
    names_left c m z s d k h =
        let there = reached_declared ((settles_if w t ds ones s.0 (some z)).0 s.2).0 in
        named_stored w t ds ones s.0 z s.2 d.name
        (subst (λ (x : Expr). has d.name (refs x) ≡ true) (sym (the_same cs ds distinct all c m s.0 there s.1)) h)
        (before d k)

    leads_left :
        {c d : Constant} → Leads cs c d → Memᴰ c cs → (z : ℤ) → Stores w t ds c.name z → (y : ℤ) × Stores w t ds d.name y
    leads_left (names {c = c} {d = d} k h) m z s = names_left c m z s d k h
    leads_left (further {c = c} {d = d} k h l) m z s = let x = names_left c m z s d k h in leads_left l k x.0 x.1

pub removal_loses : RemovalLoses
removal_loses w t cs ds distinct ones all before c d m l gone z s =
    let x = leads_left w t cs ds distinct ones all before l m z s in
    let y = x.1 in
    let r = ((settles_if w t ds ones y.0 (some x.0)).0 y.2).0 in
    true≢false (sym (mem_declares d.name (reached_declared r) y.1) ∙ gone)

pub removal_adds_none : RemovalAddsNone
removal_adds_none w t cs ds distinct ones all before = extension_keeps w t ds cs ones distinct all before
