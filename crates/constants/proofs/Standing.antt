-- What the code keeps of the constants that are declared, when some names are done; and what that says of the ready
-- ones.
-- Assumes nothing.
use Rattle.std.specs.Prelude.{eqb, ◌||◌, ℕ, zero, suc, ◌+◌, ◌-◌, ◌≤◌, ◌<◌, Bool, true, false, not, cond, ◌&&◌, ◌≡◌, List, [], ◌∷◌, length, get_or, set, find, Option, Some, None}
use Rattle.std.specs.List.{range_with_len}
use Rattle.std.proofs.Common.{refl, sym, ap, ◌∙◌, subst, arith, length-set}
use Rattle.std.proofs.lemmas.Option.{slice_get-get_or}
use Rattle.std.proofs.Math.Seq.{get_or-set_same, get_or-set_other}
use mathlib.Core.Bool.{true≢false}
use native.Mathlib.Decide.{ℕ_discrete}
use Rattle.book.specs.Lists.{any, keep}
use Rattle.book.specs.Outline.{Book, ◌!◌}
use Rattle.book.proofs.Members.{mem_any}
use Rattle.book.proofs.Trees.{not_so}
use borrow.Author.Tests.{eqb-true}
use Rattle.constants.specs.Expr.{Expr, refs}
use Rattle.constants.specs.Order.{Constant, each, has, declares, declared_refs, admits, ready}
use Rattle.constants.specs.Tables.{constant_in, Names}
use Rattle.constants.specs.Tree.{tree}
use Rattle.constants.specs.declared.works.Named.{Named}
use Rattle.constants.specs.declared.works.Waits as code
use Rattle.constants.specs.declared.works.Waits.TheVariants.{NotAdmitted, Done, Names as Of, Name}
use Rattle.constants.specs.declared.works.Turn.{Turn}
use Rattle.constants.specs.Steps.{State, turn, nobody, named_at, turn_at, put_turn, names_undone, Told, told, stops, next_stop, own_stop, next_undone, next_of, still_waits, told_by_next, told_by, told_at, looked_on, looked_at, Found, found, ready_from}
use Rattle.constants.proofs.Tests.{has_mem, is-ready}

-- what a constant waits for, as the code keeps it
pub data Waits (cs : List Constant) (done : List ℕ) (c : Constant) : code.Waits → Type 0 where
  not_admitted : admits each cs c ≡ false → Waits cs done c NotAdmitted
  over : has c.name done ≡ true → Waits cs done c Done
  for : {next : ℕ} → has c.name done ≡ false → admits each cs c ≡ true → Waits cs done c (Of next)
  for_one : {n next : ℕ} → has c.name done ≡ false → admits each cs c ≡ true → Names c.expr n → Waits cs done c (Name n next)

-- what is listed as a name that a constant names is one
abbrev pub Owned : List Constant → List Named → Type 0
Owned cs named =
    (k i : ℕ) → i < length cs → (get_or named k nobody).by ≡ (constant_in cs i).place → Names (constant_in cs i).expr (get_or named k nobody).name

-- turn i, if there is one
abbrev pub no_turn : Turn
no_turn = turn 0 NotAdmitted

abbrev pub turn_in : ℕ → State → Turn
turn_in i s = get_or s.turns i no_turn

-- the names that are undone are those of declared constants that are not done
abbrev pub Open : List Constant → List ℕ → List Bool → Type 0
Open cs done undone = (n : ℕ) → get_or undone n false ≡ declares cs n && not (has n done)

-- some names are done
pub record Stands (cs : List Constant) (done : List ℕ) (s : State) : Type 0 where
  pub open_is : Open cs done s.undone
  pub long : length s.turns ≡ length cs
  pub placed : (i : ℕ) → i < length cs → (turn_in i s).place ≡ (constant_in cs i).place
  pub waits : (i : ℕ) → i < length cs → Waits cs done (constant_in cs i) (turn_in i s).waits
  pub owned : Owned cs s.named

-- the turn of each constant is there
pub turn_there : {cs : List Constant} {done : List ℕ} {s : State} → Stands cs done s → (i : ℕ) → i < length cs → turn_at i s ≡ Some (turn_in i s)
turn_there {s = s} x i less = slice_get-get_or s.turns i no_turn (omega (arith, x.long))

-- the book has these constants: each by its record
pub record IsOf (book : Book) (cs : List Constant) : Type 0 where
  pub expr_is : (i : ℕ) → i < length cs → tree book (book ! (constant_in cs i).place).c ≡ (constant_in cs i).expr
  pub name_is : (i : ℕ) → i < length cs → (book ! (constant_in cs i).place).a ≡ (constant_in cs i).name
  pub one_name : (i j : ℕ) → i < length cs → j < length cs → (constant_in cs i).name ≡ (constant_in cs j).name → i ≡ j
  pub ascend : (i j : ℕ) → i < j → j < length cs → (constant_in cs i).place < (constant_in cs j).place
  pub beyond_first : (i : ℕ) → i < length cs → 0 < (constant_in cs i).place

-- what holds of a turn that is put down, and of the others
pub each_put :
    (P : ℕ → Turn → Type 0) (l : List Turn) (i : ℕ) (t : Turn) (b : ℕ) → i < length l → P i t →
    ((j : ℕ) → j < b → (j ≡ i → ⊥) → P j (get_or l j no_turn)) → (j : ℕ) → j < b → P j (get_or (set l i t) j no_turn)
each_put P l i t b less here others j inside = go (ℕ_discrete j i)
  where
    go : Dec (j ≡ i) → P j (get_or (set l i t) j no_turn)
    go (yes e) = rw (e, get_or-set_same l i t no_turn less) here
    go (no ne) = rw (get_or-set_other l i j t no_turn ne) (others j inside ne)

pub stands_put :
    {cs : List Constant} {done : List ℕ} {s : State} → Stands cs done s → (i : ℕ) → i < length cs → (t : Turn) →
    t.place ≡ (constant_in cs i).place → Waits cs done (constant_in cs i) t.waits → Stands cs done (put_turn i t s)
stands_put {cs} {done} {s} x i less t place waits = record {
  open_is = x.open_is;
  long = length-set s.turns i t ∙ x.long;
  placed = each_put (λ j t. t.place ≡ (constant_in cs j).place) s.turns i t (length cs) (omega (arith, x.long)) place (λ j l _. x.placed j l);
  waits =
      each_put (λ j t. Waits cs done (constant_in cs j) t.waits) s.turns i t (length cs) (omega (arith, x.long)) waits
      (λ j l _. x.waits j l);
  owned = x.owned;
}

-- a test of those that are kept
any_keep : (p q : ℕ → Bool) (l : List ℕ) → any q (keep p l) ≡ any (λ n. p n && q n) l
unfolding any keep
any_keep p q [] = refl
any_keep p q (x ∷ l) = go (p x) (any_keep p q l)
  where
    go :
        (b : Bool) → any q (keep p l) ≡ any (λ n. p n && q n) l →
        any q (cond b (x ∷ keep p l) (keep p l)) ≡ elim (b && q x) [ true ↦ true | false ↦ any (λ n. p n && q n) l ]
    go true h = ap (λ t. elim (q x) [ true ↦ true | false ↦ t ]) h
    go false h = h

any_same : (p q : ℕ → Bool) (l : List ℕ) → ((n : ℕ) → p n ≡ q n) → any p l ≡ any q l
any_same p q l h = λ i. any (λ n. h n i) l

-- a constant that is not done and is admitted is ready if it names no undone name
pub ready_is :
    (cs : List Constant) (done : List ℕ) (undone : List Bool) → Open cs done undone → (c : Constant) → has c.name done ≡ false →
    admits each cs c ≡ true → ready each cs done c ≡ not (names_undone undone c.expr)
unfolding ready declared_refs names_undone
ready_is cs done undone open_is c fresh admitted =
    rw (fresh, admitted)
    (ap not
    (any_keep (declares cs) (λ n. not (has n done)) (refs c.expr)
    ∙ any_same (λ n. declares cs n && not (has n done)) (λ n. get_or undone n false) (refs c.expr) (λ n. sym (open_is n))))

-- one that names an undone name is not
pub names_one : (undone : List Bool) (e : Expr) (n : ℕ) → Names e n → get_or undone n false ≡ true → names_undone undone e ≡ true
unfolding names_undone
names_one undone e n names is = mem_any (λ n. get_or undone n false) (has_mem n (refs e) names) is

-- one that is done or not admitted is not
not_admitted_not : (cs : List Constant) (done : List ℕ) (c : Constant) → admits each cs c ≡ false → ready each cs done c ≡ false
not_admitted_not cs done c a = not_so _ (λ r. true≢false (sym (is-ready each cs done c r).admitted ∙ a))

over_not : (cs : List Constant) (done : List ℕ) (c : Constant) → has c.name done ≡ true → ready each cs done c ≡ false
over_not cs done c h = not_so _ (λ r. true≢false (sym h ∙ (is-ready each cs done c r).fresh))

-- what a search finds in a range
pub record InRange (test : ℕ → Bool) (a n x : ℕ) : Type 0 where
  pub from : a ≤ x
  pub before : x < a + n
  pub passes : test x ≡ true

pub find_range : (test : ℕ → Bool) (n a x : ℕ) → find test (range_with_len a n) ≡ Some x → InRange test a n x
find_range test zero a x e = cc
find_range test (suc n) a x e = go (test a) refl (find_range test n (a + 1) x) e
  where
    go :
        (b : Bool) → test a ≡ b → (find test (range_with_len (a + 1) n) ≡ Some x → InRange test (a + 1) n x) →
        cond b (Some a) (find test (range_with_len (a + 1) n)) ≡ Some x → InRange test a (suc n) x
    go true t h e =
        let same : a ≡ x = cc in
        record { from = omega arith; before = omega arith; passes = ap test (sym same) ∙ t }
    go false t h e = let r = h e in record { from = omega (arith, r.from); before = omega (arith, r.before); passes = r.passes }

-- a constant is looked at
module _ {book : Book} {cs : List Constant} (of : IsOf book cs) {done : List ℕ} {s : State} (x : Stands cs done s) (i : ℕ) (less : i < length cs) where
  abbrev c : Constant
  c = constant_in cs i

  abbrev t : Turn
  t = turn_in i s

  record Tells (u : Told) : Type 0 where
    ready_is_lem : u.ready ≡ ready each cs done c
    stands : Stands cs done u.state
    undone_same : u.state.undone ≡ s.undone

  tells_not : ready each cs done c ≡ false → Tells (told false s)
  tells_not e = record { ready_is_lem = sym e; stands = x; undone_same = refl }

  -- it names an undone name
  one_not : has c.name done ≡ false → admits each cs c ≡ true → (n : ℕ) → Names c.expr n → get_or s.undone n false ≡ true → ready each cs done c ≡ false
  one_not fresh admitted n names is = ready_is cs done s.undone x.open_is c fresh admitted ∙ ap not (names_one s.undone c.expr n names is)

  -- the name at its own stop is undone
  own_is : (o : Option ℕ) (j : ℕ) → own_stop t.place s o ≡ Some j → (o ≡ Some j) × (eqb (named_at j s).by t.place ≡ true)
  own_is None j e = cc
  own_is (Some k) j e = go (eqb (named_at k s).by t.place) refl e
    where
      go : (b : Bool) → eqb (named_at k s).by t.place ≡ b → cond b (Some k) None ≡ Some j → (Some k ≡ Some j) × (eqb (named_at j s).by t.place ≡ true)
      go true is e =
          let same : k ≡ j = cc in
          (e, ap (λ k. eqb (named_at k s).by t.place) (sym same) ∙ is)
      go false is e = cc

  undone_is : (own undone : Bool) → own ≡ true → not own || undone ≡ true → undone ≡ true
  undone_is true undone is e = e
  undone_is false undone is e = absurd (true≢false (sym is))

  tells_next :
      (next : ℕ) → has c.name done ≡ false → admits each cs c ≡ true → (o : Option ℕ) → next_undone t.place next s ≡ o →
      Tells (told_by_next book i t.place o s)
  tells_next next fresh admitted None e = record {
    ready_is_lem =
        ap (λ p. not (names_undone s.undone (tree book (book ! p).c))) (x.placed i less)
        ∙ ap (λ e. not (names_undone s.undone e)) (of.expr_is i less)
        ∙ sym (ready_is cs done s.undone x.open_is c fresh admitted);
    stands = x;
    undone_same = refl;
  }
  tells_next next fresh admitted (Some at) e =
      let (is, own) = own_is (next_stop t.place next s) at e in
      let r = find_range (stops t.place s) (s.end - next) next at is in
      let undone : get_or s.undone (named_at at s).name false ≡ true =
      undone_is (eqb (named_at at s).by t.place) (get_or s.undone (named_at at s).name false) own r.passes in
      let names : Names c.expr (named_at at s).name = x.owned at i less (eqb-true _ _ own ∙ x.placed i less) in
      record {
        ready_is_lem = sym (one_not fresh admitted (named_at at s).name names undone);
        stands = stands_put x i less (turn t.place (Name (named_at at s).name at)) (x.placed i less) (for_one fresh admitted names);
        undone_same = refl;
      }

  tells_by : (w : code.Waits) → Waits cs done c w → Tells (told_by book i t.place (next_of w) s)
  tells_by NotAdmitted (not_admitted a) = tells_not (not_admitted_not cs done c a)
  tells_by Done (over h) = tells_not (over_not cs done c h)
  tells_by (Of next) (for fresh admitted) = tells_next next fresh admitted (next_undone t.place next s) refl
  tells_by (Name n next) (for_one fresh admitted names) = tells_next next fresh admitted (next_undone t.place next s) refl

  tells_on : Tells (looked_on book i s)
  unfolding looked_on
  tells_on = subst (λ o. Tells (told_at book i o s)) (sym (turn_there x i less)) (tells_by t.waits (x.waits i less))

  -- while it waits still, it is not ready
  waits_not : (w : code.Waits) → Waits cs done c w → still_waits (Some (turn t.place w)) s ≡ true → ready each cs done c ≡ false
  waits_not NotAdmitted (not_admitted a) e = not_admitted_not cs done c a
  waits_not Done (over h) e = over_not cs done c h
  waits_not (Of next) v e = absurd (true≢false (sym e))
  waits_not (Name n next) (for_one fresh admitted names) e = one_not fresh admitted n names e

  tells : Tells (looked_at book i s)
  unfolding looked_at
  tells = by (still_waits (turn_at i s) s) refl
    where
      by : (b : Bool) → still_waits (turn_at i s) s ≡ b → Tells (cond b (told false s) (looked_on book i s))
      by true e = tells_not (waits_not t.waits (x.waits i less) (ap (λ o. still_waits o s) (sym (turn_there x i less)) ∙ e))
      by false e = tells_on

-- the first ready constant from a number on
abbrev pub IsFirst : List Constant → List ℕ → ℕ → Option ℕ → Type 0
IsFirst cs done low None = (j : ℕ) → low ≤ j → j < length cs → ready each cs done (constant_in cs j) ≡ false
IsFirst cs done low (Some k) =
    (low ≤ k) × ((k < length cs) × ((ready each cs done (constant_in cs k) ≡ true)
    × ((j : ℕ) → low ≤ j → j < k → ready each cs done (constant_in cs j) ≡ false)))

pub record Finds (cs : List Constant) (done : List ℕ) (low : ℕ) (undone : List Bool) (f : Found) : Type 0 where
  pub first : IsFirst cs done low f.number
  pub stands : Stands cs done f.state
  pub undone_same : f.state.undone ≡ undone

first_on : (cs : List Constant) (done : List ℕ) (low : ℕ) → ready each cs done (constant_in cs low) ≡ false → (o : Option ℕ) → IsFirst cs done (low + 1) o → IsFirst cs done low o
first_on cs done low here None h = λ j from less. go j from less (ℕ_discrete j low)
  where
    go : (j : ℕ) → low ≤ j → j < length cs → Dec (j ≡ low) → ready each cs done (constant_in cs j) ≡ false
    go j from less (yes e) = rw e here
    go j from less (no ne) = h j (omega arith) less
first_on cs done low here (Some k) (from', (less, (is, before))) = (omega arith, (less, (is, λ j from below. go j from below (ℕ_discrete j low))))
  where
    go : (j : ℕ) → low ≤ j → j < k → Dec (j ≡ low) → ready each cs done (constant_in cs j) ≡ false
    go j from below (yes e) = rw e here
    go j from below (no ne) = before j (omega arith) below

finds_turn :
    (cs : List Constant) (done : List ℕ) (low : ℕ) (undone : List Bool) (t : Told) (rest : Found) → t.ready ≡ ready each cs done (constant_in cs low) →
    Stands cs done t.state → t.state.undone ≡ undone → low < length cs → Finds cs done (low + 1) t.state.undone rest → (b : Bool) → t.ready ≡ b →
    Finds cs done low undone (cond b (found (Some low) t.state) rest)
finds_turn cs done low undone t rest is x same less f true e = record {
  first = (omega arith, (less, (sym is ∙ e, λ j from below. absurd (omega arith))));
  stands = x;
  undone_same = same;
}
finds_turn cs done low undone t rest is x same less f false e = record {
  first = first_on cs done low (sym is ∙ e) rest.number f.first;
  stands = f.stands;
  undone_same = f.undone_same ∙ same;
}

module _ {book : Book} {cs : List Constant} (of : IsOf book cs) {done : List ℕ} where
  pub finds : (left low : ℕ) (s : State) → Stands cs done s → low + left ≡ length cs → Finds cs done low s.undone (ready_from book left low s)
  unfolding ready_from
  finds zero low s x all = record { first = λ j from less. absurd (omega arith); stands = x; undone_same = refl }
  finds (suc left) low s x all =
      let less : low < length cs = omega arith in
      let t = tells of x low less in
      finds_turn cs done low s.undone (looked_at book low s) (ready_from book left (low + 1) (looked_at book low s).state) t.ready_is_lem t.stands
      t.undone_same less
      (finds left (low + 1) (looked_at book low s).state t.stands (omega arith)) (looked_at book low s).ready refl
