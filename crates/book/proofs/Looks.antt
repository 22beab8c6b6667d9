-- One record after the other: which fault of a record comes first, and what is known behind it if it has none.
-- Assumes nothing.
use Rattle.std.specs.Prelude.{Option, Some, Result, Ok, Err}
use Prim.Native.Nat.{ℕ, suc, ◌+◌, ◌<◌}
use mathlib.Core.Bool.{Bool, true, false, cond, not}
use mathlib.Core.List.{List, [], flat_map}
use mathlib.Core.Option as defined
use mathlib.Core.Option.{some, none, some-ne-none}
use mathlib.Core.Path.{◌≡◌, refl, sym, ap, ◌∙◌, subst}
use native.Mathlib.Numerals.{add-one}
use native.Mathlib.Omega.{arith}
use lib.Dec.{leb, ltb}
use lib.ListN.{length, set}
use borrow.Author.Tests.{leb-false, ltb-false, ltb-true, not-false, eq-eqb, le-leb, lt-leb}
use Rattle.record.specs.declared.Record.{Record}
use Rattle.record.specs.Layout.{record_at}
use Rattle.record.specs.declared.refusal.Cause as code_cause
use Rattle.record.specs.declared.refusal.Cause.TheVariants as code
use Rattle.record.specs.declared.refusal.Refusal as answered
use Rattle.book.specs.declared.shape.Group.{Group}
use Rattle.book.specs.declared.shape.Group.TheVariants as group
use Rattle.book.specs.declared.shape.Field.TheVariants.{Unused}
use Rattle.record.specs.declared.kind.Kind.TheVariants.{Primitive}
use Rattle.book.specs.declared.shape.Row as code_row
use Rattle.book.specs.declared.children.Tree.{Tree}
use Rattle.book.specs.declared.scan.Scan.{Scan}
use Rattle.book.specs.Lists.{All, find, up_to, any}
use Rattle.book.specs.Shape.{Child, row_of, fits, well_shaped, child_in, children_by, children, is_of, in_group}
use Rattle.book.specs.Blocks.{record_count, records}
use Rattle.book.specs.Faults.{record_of, shape_fault, child_fault, before, may_follow, follow_fault, name_fault, depth_fault, is_wrong, deeper_than}
use Rattle.book.specs.Refusal.{Cause, Refusal, shape, child, follow, name, depth, at, faulty, at_record, holds}
use Rattle.book.specs.Answer.{named, outcome}
use Rattle.book.specs.Rows.{group_from, row_from, is_outside_group, IsRow, is_plain}
use Rattle.book.specs.Tables.{following, set_bit, Trees, wrong, TakenAll, unless, too_deep, grown, grown_by, Names, Counted, Placed, standing_of, Known, Ready, Looked}
use Rattle.book.proofs.Trees.{both_not, none_passes}
use Rattle.book.proofs.Records.{records-length, record_here}
use Rattle.book.proofs.Scans.{Passed, scan_here, scan_on}
use Rattle.book.proofs.Cells.{inside_is, primitive_is}
use Rattle.book.proofs.Places.{before_next, not_item, placed_same}
use Rattle.book.proofs.Marks.{take_none, trees_next, child_fault_lem, deeper_at, depth_fault_lem}
use Rattle.book.proofs.Declares.{no_set, declares_none}
use Rattle.book.proofs.Answers.{err_not_ok}

-- what is answered unless something holds
pub unless_err : {e : answered.Refusal} (b : Bool) (c : code_cause.Cause) (n : ℕ) → Err e ≡ unless b c n → (b ≡ false) × (e ≡ record { cause = c; place = n })
unless_err true c n is = absurd (err_not_ok tt is)
unless_err false c n is = (refl, cc)

pub unless_ok : {x : Unit {0}} (b : Bool) (c : code_cause.Cause) (n : ℕ) → Ok x ≡ unless b c n → b ≡ true
unless_ok true c n is = refl
unless_ok {x} false c n is = absurd (err_not_ok x (sym is))

-- the tree that grows, or cause 8
err_no_tree : {e : answered.Refusal} {t : Tree} → ◌≡◌ {A = Result Tree answered.Refusal} (Err e) (Ok t) → ⊥
err_no_tree is = cc

pub grown_err : {e : answered.Refusal} (n : ℕ) (g : Group) (levels : ℕ) → Err e ≡ grown n g levels → (too_deep g levels ≡ true) × (e ≡ record { cause = code.Depth; place = n })
grown_err {e} n g levels is = go (too_deep g levels) is
  where
    go : (b : Bool) → Err e ≡ grown_by b n g levels → (b ≡ true) × (e ≡ record { cause = code.Depth; place = n })
    go true is = (refl, cc)
    go false is = absurd (err_no_tree is)

pub grown_ok : {t : Tree} (n : ℕ) (g : Group) (levels : ℕ) → Ok t ≡ grown n g levels → (too_deep g levels ≡ false) × (t ≡ record { group = g; levels = levels + 1 })
grown_ok {t} n g levels is = go (too_deep g levels) is
  where
    go : (b : Bool) → Ok t ≡ grown_by b n g levels → (b ≡ false) × (t ≡ record { group = g; levels = levels + 1 })
    go true is = absurd (err_no_tree (sym is))
    go false is = (refl, cc)

-- at least 64, or above 63
above : (levels : ℕ) → leb 64 levels ≡ ltb 63 levels
above levels = go (ltb 63 levels) refl
  where
    go : (b : Bool) → ltb 63 levels ≡ b → leb 64 levels ≡ b
    go true t = le-leb 64 levels (omega (arith, ltb-true 63 levels t))
    go false t = lt-leb 64 levels (omega (arith, ltb-false 63 levels t))

-- the first that holds of causes 4 to 8 at record n
first_of : ℕ → Bool → Bool → Bool → Bool → Bool → defined.Option Refusal
first_of n s c f m d =
    elim s [
      | true ↦ some (at shape n)
      | false ↦
          elim c [
            | true ↦ some (at child n)
            | false ↦
                elim f [
                  | true ↦ some (at follow n)
                  | false ↦ elim m [ true ↦ some (at name n) | false ↦ elim d [ true ↦ some (at depth n) | false ↦ none ] ]
                ]
          ]
    ]

module _ (book : List ℕ) (n : ℕ) where
  first_is_lem :
      {s c f m d : Bool} →
      shape_fault (records book) n ≡ s → child_fault (records book) n ≡ c → follow_fault (records book) n ≡ f →
      name_fault (records book) n ≡ m → depth_fault (records book) n ≡ d →
      find (holds book) (at_record n) ≡ first_of n s c f m d
  unfolding find faulty first_of
  first_is_lem s c f m d = λ i. first_of n (s i) (c i) (f i) (m i) (d i)

-- a fault that is the first is told
told :
    {book : List ℕ} {n : ℕ} {e : answered.Refusal} {s : Scan} (c : Cause) →
    e ≡ record { cause = named c; place = n } → find (holds book) (at_record n) ≡ some (at c n) → Looked book n (Err e) s
unfolding outcome
told c is first =
    record {
      answer_is = (λ i. let r : Result Unit answered.Refusal = Err (is i) in r) ∙ ap outcome (sym first);
      known = λ x. absurd (err_not_ok tt x);
    }

module _ {book : List ℕ} {n : ℕ} {r : Record} {s₀ : Scan} (ready : Ready book n r s₀) where
  abbrev rs : List Record
  rs = records book

  -- record n is one of the records
  pub less : n < length rs
  less = omega (arith, records-length book, ready.here.within)

  shaped_by : {b : Bool} → fits r (row_of r) ≡ b → shape_fault rs n ≡ not b
  unfolding shape_fault well_shaped
  shaped_by {b} e = ap not (subst (λ r. fits r (row_of r) ≡ b) ready.is e)

  pub not_shaped : {e : answered.Refusal} {s : Scan} → fits r (row_of r) ≡ false → e ≡ record { cause = code.Shape; place = n } → Looked book n (Err e) s
  unfolding first_of
  not_shaped off e = told shape e (first_is_lem book n (shaped_by off) refl refl refl refl)

  module _ {w : code_row.Row} (is : IsRow r w) where
    same_children : children_by r (some (row_from w)) ≡ children (record_of rs n)
    unfolding children
    same_children = ap (children_by r) (sym is.row_is) ∙ ap (λ r. children_by r (row_of r)) ready.is

    children_wrong : {b : Bool} → wrong rs n [] (children_by r (some (row_from w))) ≡ b → child_fault rs n ≡ b
    children_wrong {b} e = sym (child_fault_lem rs n) ∙ subst (λ cs. wrong rs n [] cs ≡ b) same_children e

    pub wrong_child :
        {e : answered.Refusal} {s : Scan} → wrong rs n [] (children_by r (some (row_from w))) ≡ true → e ≡ record { cause = code.Child; place = n } →
        Looked book n (Err e) s
    unfolding first_of
    wrong_child off e = told child e (first_is_lem book n (shaped_by is.fitting) (children_wrong off) refl refl refl)

    module _ {levels : ℕ} {trees : List (Option Tree)} (taken : TakenAll rs n [] (children_by r (some (row_from w))) levels trees) where
      follow_by : {b : Bool} → may_follow r (before rs n) ≡ b → follow_fault rs n ≡ not b
      unfolding follow_fault
      follow_by {b} e = ap not (subst (λ r. may_follow r (before rs n) ≡ b) ready.is e)

      pub not_following :
          {e : answered.Refusal} {s : Scan} → may_follow r (before rs n) ≡ false → e ≡ record { cause = code.Follow; place = n } → Looked book n (Err e) s
      unfolding first_of
      not_following off e = told follow e (first_is_lem book n (shaped_by is.fitting) (children_wrong taken.right) (follow_by off) refl refl)

      module _ (may : may_follow r (before rs n) ≡ true) where
        pub named_again :
            {e : answered.Refusal} {s : Scan} → not (name_fault rs n) ≡ false → e ≡ record { cause = code.Name; place = n } → Looked book n (Err e) s
        unfolding first_of
        named_again off e =
            told name e (first_is_lem book n (shaped_by is.fitting) (children_wrong taken.right) (follow_by may) (not-false (name_fault rs n) off) refl)

        module _ (new : name_fault rs n ≡ false) where
          deepest : (d : ℕ) → any (λ c. deeper_than d rs c.number) (children (record_of rs n)) ≡ ltb d levels
          deepest d = subst (λ cs. any (λ c. deeper_than d rs c.number) cs ≡ ltb d levels) same_children (taken.deepest d)

          -- too deep by the group, as by the kind
          deep_by : {b : Bool} → too_deep w.group levels ≡ b → depth_fault rs n ≡ b
          deep_by {b} e =
              depth_fault_lem rs n levels deepest
              ∙ ap (λ (r : Record). cond (ltb r.kind 20) (leb 64 levels) (ltb 64 levels)) (sym ready.is)
              ∙ ap (λ b. cond b (leb 64 levels) (ltb 64 levels)) (sym (inside_is is))
              ∙ go (is_outside_group w.group) e
            where
              go : (g : Bool) → cond g (ltb 64 levels) (ltb 63 levels) ≡ b → cond (not g) (leb 64 levels) (ltb 64 levels) ≡ b
              go true e = e
              go false e = above levels ∙ e

          pub too_deep_told : {e : answered.Refusal} {s : Scan} → too_deep w.group levels ≡ true → e ≡ record { cause = code.Depth; place = n } → Looked book n (Err e) s
          unfolding first_of
          too_deep_told off e =
              told depth e (first_is_lem book n (shaped_by is.fitting) (children_wrong taken.right) (follow_by may) new (deep_by off))

          earlier : All (λ (c : Child). c.number < n) (children (record_of rs n))
          unfolding child_fault
          earlier =
              none_passes (is_wrong rs n) (λ c e. leb-false n c.number (both_not _ _ (both_not _ _ e).0).0) (children (record_of rs n))
              (both_not _ _ (children_wrong taken.right)).0

          pub passed :
              {s : Scan} {x : Unit {0}} → too_deep w.group levels ≡ false → s.trees ≡ set trees n (Some (record { group = w.group; levels = levels + 1 })) →
              Names rs (suc n) s.names → Placed (following r (before rs n)) (standing_of s.standing) → Looked book n (Ok x) s
          unfolding first_of outcome is_of
          passed {s} {x} fine tree_is named placed =
              record {
                answer_is =
                    ap outcome
                    (sym (first_is_lem book n (shaped_by is.fitting) (children_wrong taken.right) (follow_by may) new (deep_by fine)));
                known = λ _. record {
                  trees_are =
                      subst (Trees rs (suc n) []) (sym tree_is)
                      (trees_next rs n trees (record { group = w.group; levels = levels + 1 }) (omega (arith, ready.here.within, ready.here.few)) earlier
                      (record {
                        of_group =
                            subst (λ r. in_group (group_from w.group) (row_of r) ≡ true) ready.is
                            (ap (in_group (group_from w.group)) is.row_is ∙ eq-eqb _ _ refl);
                        levels_are = deeper_at rs n levels deepest;
                      })
                      (subst (λ cs. Trees rs n cs trees) same_children taken.left));
                  names_are = named;
                  placed =
                      subst (λ bs. Placed bs (standing_of s.standing))
                      (ap (λ r. following r (before rs n)) ready.is ∙ sym (before_next rs n less)) placed;
                };
              }

-- a primitive type passes: it has no children, stands anywhere, and declares no name
abbrev first : code_row.Row
first = record { group = group.«Type»; kind = Primitive; low = 0; high = 13; a = Unused; b = Unused; c = Unused; v = Unused }

pub primitive_passes :
    {book : List ℕ} {n : ℕ} {r : Record} {s₀ : Scan} {x : Unit {0}} → Ready book n r s₀ → is_plain r ≡ true →
    Looked book n (Ok x) (record { trees = set s₀.trees n (Some (record { group = group.«Type»; levels = 1 })); names = s₀.names; standing = s₀.standing })
unfolding child_in
primitive_passes {book} {n} {r} {s₀} ready plain =
    let bs = before (records book) n in
    let known = primitive_is r plain in
    let is : IsRow r first = record { row_is = known.row_is; fitting = known.fitting } in
    let taken : TakenAll (records book) n [] (children_by r (some (row_from first))) 0 s₀.trees = take_none ready.known.trees_are in
    let none_declared = ap set_bit (sym (no_set r (λ low high. omega (arith, known.kind_is)))) in
    let (new, named) = declares_none ready.known.names_are (less ready) ready.is none_declared in
    passed ready is taken (not_item r bs (omega (arith, known.kind_is))) (sym new) refl refl named
    (placed_same r bs (standing_of s₀.standing) (omega (arith, known.kind_is)) ready.known.placed)

-- before record n is looked at
pub ready_at :
    {book : List ℕ} {count n : ℕ} {r : Record} {s : Scan} →
    Counted book count → n < count → r ≡ record_at book n → Known book n s → Ready book n r s
ready_at {book} {n = n} counted low is known =
    let here : n < record_count book = omega arith in
    record {
      here = record { within = here; few = omega arith };
      is = is ∙ sym (record_here book n here);
      known = known;
    }

-- the loop over the records: record n has the first fault
pub found_here :
    {book : List ℕ} {count n : ℕ} {e : answered.Refusal} {s : Scan} →
    Looked book n (Err e) s → n < count → Passed (holds book) at_record n count →
    Err e ≡ outcome (find (holds book) (flat_map at_record (up_to count)))
unfolding outcome
found_here {book} {count} {n} {e} looked low inv = go (find (holds book) (at_record n)) refl looked.answer_is
  where
    go : (o : defined.Option Refusal) → find (holds book) (at_record n) ≡ o → Err e ≡ outcome o → Err e ≡ outcome (find (holds book) (flat_map at_record (up_to count)))
    go none first is = absurd (err_not_ok tt is)
    go (some x) first is = is ∙ ap outcome (sym (inv.1 ∙ scan_here (holds book) at_record n count x low first))

-- or none, and the next one is at hand
pub gone_on :
    {book : List ℕ} {count n : ℕ} {x : Unit {0}} {s : Scan} →
    Looked book n (Ok x) s → n < count → Passed (holds book) at_record n count →
    Passed (holds book) at_record (n + 1) count × Known book (n + 1) s
unfolding outcome
gone_on {book} {count} {n} {x} {s} looked low inv = (
  (omega arith, inv.1 ∙ scan_on (holds book) at_record n count low (go (find (holds book) (at_record n)) looked.answer_is)),
  rw (add-one n) (looked.known refl),
)
  where
    go : (o : defined.Option Refusal) → Ok x ≡ outcome o → o ≡ none
    go none is = refl
    go (some y) is = absurd (err_not_ok x (sym is))
