-- What each constant waits for at first.
-- Assumes nothing.
use Rattle.std.specs.Prelude.{ℕ, zero, suc, ◌+◌, ◌≤◌, ◌<◌, Bool, true, false, not, cond, ◌&&◌, ◌≡◌, eqb, ltb, List, [], ◌∷◌, ◌++◌, length, get_or, set}
use Rattle.std.proofs.Common.{refl, sym, ap, ◌∙◌, subst, arith, length-set}
use Rattle.std.proofs.lemmas.Option.{slice_get-get_or}
use mathlib.Core.Bool.{and-true, or-false}
use mathlib.Core.List.{append-nil}
use mathlib.Core.List.Memᴰ
use mathlib.Core.Logic.{◌⊎◌, inl, inr}
use native.Mathlib.Decide.{ℕ_discrete}
use Rattle.std.proofs.Math.Seq.{get_or-set_same, get_or-set_other}
use borrow.Author.Tests.{ne_eqb, ltb-true}
use Rattle.book.specs.Lists.{any, keep}
use Rattle.book.specs.Outline.{Book, ◌!◌}
use Rattle.book.proofs.Lists.{keep_agree}
use Rattle.book.proofs.Trees.{both_so}
use Rattle.constants.specs.Expr.{Expr, Op, literal, reference, operation, refs}
use Rattle.constants.specs.Order.{Constant, each, declares, declared_refs, repeats, admits}
use Rattle.constants.specs.Tables as kept
use Rattle.constants.specs.Tables.{constant_in, marked, Names}
use Rattle.constants.specs.Tree.{tree}
use Rattle.constants.specs.declared.works.Named.{Named}
use Rattle.constants.specs.declared.works.Waits as code
use Rattle.constants.specs.declared.works.Waits.TheVariants.{NotAdmitted, Names as Of}
use Rattle.constants.specs.declared.works.Turn.{Turn}
use Rattle.constants.specs.Steps.{State, turn, nobody, named_by, named_at, put_turn, Looked, seen_so, see, looked, named_then, listed, hinted, admitted_by, admitted_at, admitted, admitted_from}
use Rattle.constants.proofs.Marks.{marked_inside}
use Rattle.constants.proofs.Seen.{looked_none, looked_one, looked_both}
use Rattle.constants.proofs.Tests.{has_mem, mem_has}
use Rattle.constants.proofs.Turns.{has_own}
use Rattle.constants.proofs.Standing.{Waits, not_admitted, for, Owned, no_turn, turn_in, Open, Stands, IsOf, each_put}

-- names are looked at
record Looks (stamp : ℕ) (ns : List ℕ) (e : Expr) (s : State) (x : Looked) : Type 0 where
  looked_is : kept.Looked stamp (marked s.undone e) ns x.again x.state.seen
  rest : x.state ≡ record s { seen = x.state.seen }
  long : length x.state.seen ≡ length s.seen

see_one :
    (stamp : ℕ) (ns : List ℕ) (name : ℕ) (s : State) → length s.seen ≡ length s.undone → kept.Seen stamp ns s.seen → (b : Bool) →
    get_or s.undone name false ≡ b →
    kept.Looked stamp (cond b (name ∷ []) []) ns
    (cond b (seen_so (eqb (get_or s.seen name 0) stamp) (record s { seen = set s.seen name stamp })) (seen_so false s)).again
    (cond b (seen_so (eqb (get_or s.seen name 0) stamp) (record s { seen = set s.seen name stamp })) (seen_so false s)).state.seen
see_one stamp ns name s long seen true e = looked_one seen name (omega (arith, marked_inside s.undone name e))
see_one stamp ns name s long seen false e = looked_none seen

see_rest :
    (stamp name : ℕ) (s : State) (b : Bool) →
    (cond b (seen_so (eqb (get_or s.seen name 0) stamp) (record s { seen = set s.seen name stamp })) (seen_so false s)).state
    ≡ record s { seen = (cond b (seen_so (eqb (get_or s.seen name 0) stamp) (record s { seen = set s.seen name stamp })) (seen_so false s)).state.seen }
see_rest stamp name s true = refl
see_rest stamp name s false = refl

see_long :
    (stamp name : ℕ) (s : State) (b : Bool) →
    length (cond b (seen_so (eqb (get_or s.seen name 0) stamp) (record s { seen = set s.seen name stamp })) (seen_so false s)).state.seen ≡ length s.seen
see_long stamp name s true = length-set s.seen name stamp
see_long stamp name s false = refl

looks :
    (stamp : ℕ) (e : Expr) (ns : List ℕ) (s : State) → length s.seen ≡ length s.undone → kept.Seen stamp ns s.seen →
    Looks stamp ns e s (looked stamp e s)
unfolding looked refs keep see
looks stamp (literal l v) ns s long seen = record { looked_is = looked_none seen; rest = refl; long = refl }
looks stamp (reference name) ns s long seen = record {
  looked_is = see_one stamp ns name s long seen (get_or s.undone name false) refl;
  rest = see_rest stamp name s (get_or s.undone name false);
  long = see_long stamp name s (get_or s.undone name false);
}
looks stamp (operation o l r) ns s long seen =
    let u : State = (looked stamp r s).state in
    let y = looks stamp r ns s long seen in
    let undone : u.undone ≡ s.undone = ap (λ (w : State). w.undone) y.rest in
    let x = looks stamp l (marked s.undone r ++ ns) u (y.long ∙ long ∙ ap length (sym undone)) y.looked_is.seen_is in
    let v : State = (looked stamp l u).state in
    record {
      looked_is =
          looked_both (λ n. get_or s.undone n false) (refs l) (refs r) y.looked_is
          (subst (λ m. kept.Looked stamp (marked m l) (marked s.undone r ++ ns) (looked stamp l u).again v.seen) undone x.looked_is);
      rest = x.rest ∙ ap (λ (w : State). record w { seen = v.seen }) y.rest;
      long = x.long ∙ y.long;
    }

-- an operation names what its sides name
names_left : (o : Op) (l r : Expr) (n : ℕ) → Names l n → Names (operation o l r) n
unfolding refs
names_left o l r n h = mem_has (Memᴰ.append_left (refs r) (has_mem n (refs l) h))

names_right : (o : Op) (l r : Expr) (n : ℕ) → Names r n → Names (operation o l r) n
unfolding refs
names_right o l r n h = mem_has (Memᴰ.append_right (refs l) (has_mem n (refs r) h))

-- names are listed: an entry is what it was, or a name of the expression
abbrev Entry : ℕ → Expr → Named → Named → Type 0
Entry by e x y = (y ≡ x) ⊎ ((y.by ≡ by) × Names e y.name)

record Lists (by : ℕ) (e : Expr) (s t : State) : Type 0 where
  entries : (k : ℕ) → Entry by e (named_at k s) (named_at k t)
  rest : t ≡ record s { named = t.named; end = t.end }

lists : (by : ℕ) (e : Expr) (s : State) → Lists by e s (listed by e s)
unfolding listed named_then refs
lists by (literal l v) s = record { entries = λ k. inl refl; rest = refl }
lists by (reference name) s = go (ltb s.end (length s.named) && ltb s.end 65535) refl
  where
    go :
        (b : Bool) → ltb s.end (length s.named) && ltb s.end 65535 ≡ b →
        Lists by (reference name) s (cond b (record s { named = set s.named s.end (named_by by name); end = s.end + 1 }) s)
    go true e =
        let (less, few) = both_so (ltb s.end (length s.named)) (ltb s.end 65535) e in
        record { entries = λ k. at k (ltb-true s.end (length s.named) less) (ℕ_discrete k s.end); rest = refl }
      where
        at : (k : ℕ) → s.end < length s.named → Dec (k ≡ s.end) → Entry by (reference name) (named_at k s) (get_or (set s.named s.end (named_by by name)) k nobody)
        at k less (yes here) = rw (here, get_or-set_same s.named s.end (named_by by name) nobody less) (inr (refl, has_own name _))
        at k less (no other) = inl (get_or-set_other s.named s.end k (named_by by name) nobody other)
    go false e = record { entries = λ k. inl refl; rest = refl }
lists by (operation o l r) s =
    let t : State = listed by l s in
    let u : State = listed by r t in
    let x = lists by l s in
    let y = lists by r t in
    record {
      entries = λ k. both (named_at k s) (named_at k t) (named_at k u) (x.entries k) (y.entries k);
      rest = y.rest ∙ ap (λ (w : State). record w { named = u.named; end = u.end }) x.rest;
    }
  where
    both : (a b c : Named) → Entry by l a b → Entry by r b c → Entry by (operation o l r) a c
    both a b c (inl same) (inl then) = inl (then ∙ same)
    both a b c (inr (is, names)) (inl then) = subst (λ (c : Named). Entry by (operation o l r) a c) (sym then) (inr (is, names_left o l r b.name names))
    both a b c first (inr (is, names)) = inr (is, names_right o l r c.name names)

-- a constant with such an expression is admitted if it names no undone name twice, none being done
admission :
    (cs : List Constant) (undone : List Bool) (stamp : ℕ) (twice : Bool) (seen : List ℕ) → Open cs [] undone →
    (c : Constant) → kept.Looked stamp (marked undone c.expr) [] twice seen → admits each cs c ≡ not twice
unfolding admits declared_refs repeats any
admission cs undone stamp twice seen open_is c looked =
    let same : keep (declares cs) (refs c.expr) ≡ marked undone c.expr =
    keep_agree _ _ (refs c.expr) (λ n m. sym (open_is n ∙ and-true (declares cs n))) in
    ap not (ap repeats (same ∙ sym (append-nil (marked undone c.expr))) ∙ looked.again_is ∙ or-false twice)

-- those before i have what they wait for, the others are not admitted yet, and no name was stamped by i or a later one
pub record Admitting (cs : List Constant) (names i : ℕ) (s : State) : Type 0 where
  pub open_is : Open cs [] s.undone
  pub undone_long : length s.undone ≡ names
  pub long : length s.turns ≡ length cs
  pub placed : (j : ℕ) → j < length cs → (turn_in j s).place ≡ (constant_in cs j).place
  pub so_far : (j : ℕ) → j < i → Waits cs [] (constant_in cs j) (turn_in j s).waits
  pub later : (j : ℕ) → i ≤ j → j < length cs → (turn_in j s).waits ≡ NotAdmitted
  pub stamps : (n j : ℕ) → i ≤ j → j < length cs → get_or s.seen n 0 < (constant_in cs j).place
  pub seen_long : length s.seen ≡ length s.undone
  pub owned : Owned cs s.named

module _ {book : Book} {cs : List Constant} (of : IsOf book cs) where
  module _ {names i : ℕ} {s : State} (a : Admitting cs names i s) (less : i < length cs) where
    abbrev c : Constant
    c = constant_in cs i

    none_seen : kept.Seen c.place [] s.seen
    unfolding any
    none_seen = record {
      marks = λ n inside. ne_eqb (get_or s.seen n 0) c.place (λ e. omega (arith, a.stamps n i (omega arith) less));
      latest = λ n. omega (arith, a.stamps n i (omega arith) less);
    }

    looked_at_once : Looks c.place [] c.expr s (looked c.place c.expr s)
    looked_at_once = looks c.place c.expr [] s a.seen_long none_seen

    abbrev x : Looked
    x = looked c.place c.expr s

    stamps_then : (n j : ℕ) → i + 1 ≤ j → j < length cs → get_or x.state.seen n 0 < (constant_in cs j).place
    stamps_then n j from inside = omega (arith, looked_at_once.looked_is.seen_is.latest n, of.ascend i j (omega arith) inside)

    admits_is : admits each cs c ≡ not x.again
    admits_is = admission cs s.undone c.place x.again x.state.seen a.open_is c looked_at_once.looked_is

    -- it is not admitted
    not_then : x.again ≡ true → Admitting cs names (i + 1) (record s { seen = x.state.seen })
    not_then again = record {
      open_is = a.open_is;
      undone_long = a.undone_long;
      long = a.long;
      placed = a.placed;
      so_far = λ j below. go j below (ℕ_discrete j i);
      later = λ j from inside. a.later j (omega arith) inside;
      stamps = stamps_then;
      seen_long = looked_at_once.long ∙ a.seen_long;
      owned = a.owned;
    }
      where
        none_here : (w : code.Waits) → w ≡ NotAdmitted → Waits cs [] c w
        none_here w e = subst (Waits cs [] c) (sym e) (not_admitted (admits_is ∙ ap not again))

        go : (j : ℕ) → j < i + 1 → Dec (j ≡ i) → Waits cs [] (constant_in cs j) (turn_in j s).waits
        go j below (yes e) = rw e (none_here (turn_in i s).waits (a.later i (omega arith) less))
        go j below (no ne) = a.so_far j (omega arith)

    -- it is, and its names are listed
    abbrev listed_then : List Named → ℕ → State
    listed_then named end =
        record s {
          seen = x.state.seen;
          named = named;
          end = end;
          turns = set s.turns i (turn c.place (Of s.end));
        }

    is_then :
        x.again ≡ false → (named : List Named) (end : ℕ) → ((k : ℕ) → Entry c.place c.expr (get_or s.named k nobody) (get_or named k nobody)) →
        Admitting cs names (i + 1) (listed_then named end)
    unfolding any
    is_then again named end entries = record {
      open_is = a.open_is;
      undone_long = a.undone_long;
      long = length-set s.turns i here ∙ a.long;
      placed =
          each_put (λ j t. t.place ≡ (constant_in cs j).place) s.turns i here (length cs) (omega (arith, a.long)) refl (λ j l _. a.placed j l);
      so_far =
          each_put (λ j t. Waits cs [] (constant_in cs j) t.waits) s.turns i here (i + 1) (omega (arith, a.long))
          (for refl (admits_is ∙ ap not again)) (λ j below ne. a.so_far j (omega arith));
      later = λ j from inside. rw (get_or-set_other s.turns i j here no_turn (λ e. omega arith)) (a.later j (omega arith) inside);
      stamps = stamps_then;
      seen_long = looked_at_once.long ∙ a.seen_long;
      owned = λ k j inside is. own k j inside is (entries k);
    }
      where
        here : Turn
        here = turn c.place (Of s.end)

        same_number : (j : ℕ) → j < length cs → c.place ≡ (constant_in cs j).place → i ≡ j
        same_number j inside same =
            let up : ¬ (i < j) = λ first. omega (arith, same, of.ascend i j first inside) in
            let down : ¬ (j < i) = λ first. omega (arith, same, of.ascend j i first less) in
            omega arith

        own :
            (k j : ℕ) → j < length cs → (get_or named k nobody).by ≡ (constant_in cs j).place → Entry c.place c.expr (get_or s.named k nobody) (get_or named k nobody) →
            Names (constant_in cs j).expr (get_or named k nobody).name
        own k j inside is (inl same) =
            rw same (a.owned k j inside (ap (λ (x : Named). x.by) (sym same) ∙ is))
        own k j inside is (inr (by, named_is)) =
            subst (λ j. Names (constant_in cs j).expr (get_or named k nobody).name) (same_number j inside (sym by ∙ is)) named_is

    -- what the code does comes to one of these
    admitted_is : admitted book i s ≡ admitted_by i c.place c.expr x
    unfolding admitted
    admitted_is =
        ap (λ o. admitted_at book i o s) (slice_get-get_or s.turns i no_turn (omega (arith, a.long)))
        ∙ ap (λ p. admitted_by i p (tree book (book ! p).c) (looked p (tree book (book ! p).c) s)) (a.placed i less)
        ∙ ap (λ e. admitted_by i c.place e (looked c.place e s)) (of.expr_is i less)

    by_again : (b : Bool) → x.again ≡ b → Admitting cs names (i + 1) (cond b x.state (hinted i c.place x.state.end (listed c.place c.expr x.state)))
    by_again true again = subst (Admitting cs names (i + 1)) (sym looked_at_once.rest) (not_then again)
    by_again false again =
        let u : State = x.state in
        let t : State = listed c.place c.expr u in
        let r = looked_at_once.rest in
        let end : u.end ≡ s.end = ap (λ (w : State). w.end) r in
        let l = lists c.place c.expr u in
        let entries : (k : ℕ) → Entry c.place c.expr (get_or s.named k nobody) (get_or t.named k nobody) =
        λ k. subst (λ (w : State). Entry c.place c.expr (named_at k w) (named_at k t)) r (l.entries k) in
        let whole : t ≡ record s { seen = u.seen; named = t.named; end = t.end } =
        l.rest ∙ ap (λ (w : State). record w { named = t.named; end = t.end }) r in
        let same : hinted i c.place u.end t ≡ listed_then t.named t.end =
        ap (λ (w : State). put_turn i (turn c.place (Of u.end)) w) whole
        ∙ ap (λ n. put_turn i (turn c.place (Of n)) (record s { seen = u.seen; named = t.named; end = t.end })) end in
        subst (Admitting cs names (i + 1)) (sym same) (is_then again t.named t.end entries)

    pub admitting_next : Admitting cs names (i + 1) (admitted book i s)
    admitting_next = subst (Admitting cs names (i + 1)) (sym admitted_is) (by_again x.again refl)

  pub admits_all : (names left i : ℕ) (s : State) → Admitting cs names i s → i + left ≡ length cs → Admitting cs names (length cs) (admitted_from book left i s)
  unfolding admitted_from
  admits_all names zero i s a all = let e : i ≡ length cs = omega arith in subst (λ n. Admitting cs names n s) e a
  admits_all names (suc left) i s a all = admits_all names left (i + 1) (admitted book i s) (admitting_next a (omega arith)) (omega arith)

  -- then all have what they wait for
  pub stands_at_first : (names : ℕ) (s : State) → Admitting cs names (length cs) s → Stands cs [] s
  stands_at_first names s a = record {
    open_is = a.open_is;
    long = a.long;
    placed = a.placed;
    waits = a.so_far;
    owned = a.owned;
  }
