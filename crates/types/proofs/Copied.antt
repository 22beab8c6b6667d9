-- Copies of the types of plain aliases.
-- Assumes nothing.
use Rattle.std.proofs.Common.{◌≡◌, ℕ, suc, ◌+◌, ◌-◌, ◌≤◌, min, Bool, false, List, [], ◌∷◌, ◌++◌, length, map, nat_lt}
use Rattle.std.proofs.Common.{refl, sym, ap, ◌∙◌, arith, subst, append_assoc, length-append, Option, Err}
use Rattle.std.specs.Prelude.{slice_get}
use Rattle.std.proofs.lemmas.List.{map-append}
use Rattle.std.proofs.lemmas.Bool.Decides.{nat_tests}
use Rattle.record.specs.declared.Record.{Record}
use Rattle.record.specs.declared.refusal.Cause.TheVariants.{Full}
use Rattle.record.specs.Kind.{kind_from}
use Rattle.record.specs.Written.{Written, read_at}
use Rattle.book.specs.Outline.{Book}
use Rattle.types.specs.declared.names.Place.{Place}
use Rattle.types.specs.Lowering.{Limits, State, with_result, full, Out, stopped}
use Rattle.types.specs.Resolved.{ResolvedType, primitive, sub_byte, semantic, named, one_child, two_children}
use Rattle.types.specs.Resolved.{inline_bits, Names}
use Rattle.types.specs.Step.{Resolved, whole}
use Rattle.types.specs.Records.{below, type_records, StandsAt}
use Rattle.types.specs.Stands.{Lent, limits, Stands, Ends, Done, Roots, Resolves}
use Rattle.types.specs.Code as code
use Rattle.types.proofs.TypeRecords.{type_has_records, root_record}
use Rattle.types.proofs.Runs.{lt_more, in_room, wrote, with_results, run-whole}
use Rattle.types.proofs.Refining.{left, ends_map}
use Rattle.types.proofs.Placed.{records_below, root_behind, length_below, Parts, parts, get_there}
use Rattle.types.proofs.Emits.{Emitted, it_is, no_room, emitted}

-- a record of a type, so much further on
abbrev pub shift : ℕ → Record → Record
shift by r = code.shifted by r (kind_from r.kind)

shift_root : (n by : ℕ) (t : ResolvedType) → n + by + below t ≤ 65535
    → shift by (root_record n t) ≡ root_record (n + by) t
unfolding kind_from root_record below
shift_root n by (primitive p) h = refl
shift_root n by (sub_byte p bits) h = refl
shift_root n by (semantic p) h = refl
shift_root n by (named k) h = refl
shift_root n by (one_child p size t) h = let e : min (n + below t + by) 65535 ≡ n + by + below t = omega arith
    in rw e refl
shift_root n by (two_children p l r) h =
    let e : min (n + below l + by) 65535 ≡ n + by + below l = omega arith in
    let f : min (suc (n + below l) + below r + by) 65535 ≡ suc (n + by + below l) + below r = omega arith in
    rw (e, f) refl
shift_root n by (inline_bits k) h = refl

shift_all : (n by : ℕ) (t : ResolvedType) → n + by + below t ≤ 65535
    → map (shift by) (records_below n t) ≡ records_below (n + by) t
    → map (shift by) (type_records n t) ≡ type_records (n + by) t
shift_all n by t h e =
    ap (λ (x : List Record). map (shift by) x) (root_behind n t)
    ∙ map-append (shift by) (records_below n t) (root_record n t ∷ [])
    ∙ ap (λ x. x ++ shift by (root_record n t) ∷ []) e
    ∙ ap (λ r. records_below (n + by) t ++ r ∷ []) (shift_root n by t h)
    ∙ sym (root_behind (n + by) t)

shift_below : (n by : ℕ) (t : ResolvedType) → n + by + below t ≤ 65535
    → map (shift by) (records_below n t) ≡ records_below (n + by) t
unfolding below
shift_below n by (primitive p) h = refl
shift_below n by (sub_byte p bits) h = refl
shift_below n by (semantic p) h = refl
shift_below n by (named k) h = refl
shift_below n by (one_child p size t) h = shift_all n by t (omega arith) (shift_below n by t (omega arith))
shift_below n by (two_children p l r) h =
    let m : ℕ = suc (n + below l) in
    let e : m + by ≡ suc (n + by + below l) = omega arith in
    map-append (shift by) (type_records n l) (type_records m r)
    ∙ ap (λ x. x ++ map (shift by) (type_records m r)) (shift_all n by l (omega arith)
    (shift_below n by l (omega arith)))
    ∙ ap (λ x. type_records (n + by) l ++ x)
    (shift_all m by r (omega arith) (shift_below m by r (omega arith)) ∙ ap (λ i. type_records i r) e)
shift_below n by (inline_bits k) h = refl

wrote_cons : {A : Type 0} (most : Limits) (s : State) (x : Record) (zs : List Record) (v : A)
    → wrote most s (x ∷ zs) v ≡ wrote most (with_result x s) zs v
wrote_cons most s x zs v =
    let e : length (s.results ++ x ∷ []) + length zs ≡ length s.results + suc (length zs) = omega
    (arith, length-append s.results (x ∷ [])) in
    rw (e, append_assoc s.results (x ∷ []) zs) refl

no_more : (n m k : ℕ) → nat_lt n m ≡ false → nat_lt (n + suc k) (suc m) ≡ false
no_more n m k h = grind (arith, nat_tests)

wrote_full : {A : Type 0} (most : Limits) (s : State) (x : Record) (zs : List Record) (v : A)
    → nat_lt (length s.results) most.results ≡ false → wrote most s (x ∷ zs) v ≡ stopped full s.place
wrote_full most s x zs v h = rw (no_more (length s.results) most.results (length zs) h) refl

-- what is come to: the number m, the value v and the state z
abbrev Comes : {A : Type 0} → Lent → Book → Names → ℕ → A → State → ℕ → code.State → A → State → Type 0
Comes lent book k m v z n c a s = (n ≡ m) × Stands lent book c k s × (a ≡ v) × (s ≡ z)

module _ {A : Type 0} (lent : Lent) (book : Book) (k : Names) (by root : ℕ) (y : Record) (v : A) where
  copied_at : (c : code.State) (s : State) (h : Stands lent book c k s) (before : List Record) (x : Record)
      (after : List Record) (at : ℕ)
      → s.results ≡ before ++ x ∷ after → length before ≡ at → code.copy_one at by c ≡ code.emit (shift by x) c
  unfolding code.copy_one read_at
  copied_at c s h before x after at e l =
      ap (λ (o : Option Record). code.copied by o c)
      (ap (λ (w : Written). slice_get w.records at) h.results_are ∙ ap (λ (rs : List Record). slice_get rs at) e
      ∙ get_there before x after at l)

  last_one : (c : code.State) (s : State) (h : Stands lent book c k s) (o : code.Outcome ℕ) (b : Bool)
      → Emitted lent book c k s (shift by y) o b
      → Ends lent (Comes lent book k (length s.results + 0) v (with_result (shift by y) s)) o.answer o.state
      (in_room b v (with_result (shift by y) s) s.place)
  last_one c s h _ _ (it_is c₁ same st) = (omega arith, st, refl, refl)
  last_one c s h _ _ no_room = (refl, left lent book c k s h)

  step : (c : code.State) (s : State) (h : Stands lent book c k s) (x : Record) (zs : List Record) (m : ℕ) (z : State)
      (f : ℕ → code.State → code.Outcome ℕ)
      → ((c₁ : code.State) → Stands lent book c₁ k (with_result x s)
      → Ends lent (Comes lent book k m v z) (f (length s.results) c₁).answer (f (length s.results) c₁).state
      (wrote (limits lent) (with_result x s) zs v))
      → (o : code.Outcome ℕ) (b : Bool) → (nat_lt (length s.results) (limits lent).results ≡ b)
      → Emitted lent book c k s x o b
      → Ends lent (Comes lent book k m v z) (code.next o f).answer (code.next o f).state
      (wrote (limits lent) s (x ∷ zs) v)
  step c s h x zs m z f ih _ _ e (it_is c₁ same st) =
      subst (λ (o : Out A). Ends lent (Comes lent book k m v z) (f (length s.results) c₁).answer
      (f (length s.results) c₁).state o) (sym (wrote_cons (limits lent) s x zs v)) (ih c₁ st)
  step c s h x zs m z f ih _ _ e no_room =
      subst (λ (o : Out A). Ends lent (Comes lent book k m v z) (Err (record { cause = Full; place = s.place })) c o)
      (sym (wrote_full (limits lent) s x zs v e)) (refl, left lent book c k s h)

  -- the records xs and then y are copied
  copies : (xs : List Record) (c : code.State) (s : State) (before after : List Record) (at : ℕ)
      → Stands lent book c k s → s.results ≡ before ++ (xs ++ y ∷ after) → length before ≡ at → root ≡ at + length xs
      → Ends lent (Comes lent book k (length s.results + length xs) v
      (with_results s (map (shift by) xs ++ shift by y ∷ [])))
      (code.copy_all (length xs) at by c (λ t. code.copy_one root by t)).answer
      (code.copy_all (length xs) at by c (λ t. code.copy_one root by t)).state
      (wrote (limits lent) s (map (shift by) xs ++ shift by y ∷ []) v)
  unfolding code.copy_all
  copies [] c s before after at h e l r =
      subst (λ (o : code.Outcome ℕ). Ends lent (Comes lent book k (length s.results + 0) v
      (with_result (shift by y) s)) o.answer o.state (wrote (limits lent) s (shift by y ∷ []) v))
      (sym (copied_at c s h before y after root e (omega arith)))
      (subst (λ (b : Bool). Ends lent (Comes lent book k (length s.results + 0) v (with_result (shift by y) s))
      (code.emit (shift by y) c).answer (code.emit (shift by y) c).state
      (in_room b v (with_result (shift by y) s) s.place))
      (sym (lt_more (length s.results) (limits lent).results))
      (last_one c s h (code.emit (shift by y) c) _ (emitted lent book c k s h (shift by y))))
  copies (x ∷ xs) c s before after at h e l r =
      let w : List Record = shift by x ∷ [] in
      let zs : List Record = map (shift by) xs ++ shift by y ∷ [] in
      let z : State = with_results s (shift by x ∷ zs) in
      let f : ℕ → code.State → code.Outcome ℕ = λ n t. code.copy_all (length xs) (at + 1) by t
      (λ t. code.copy_one root by t) in
      let there : s.results ++ w ≡ before ++ x ∷ [] ++ (xs ++ y ∷ (after ++ w)) = rw e (simp append_assoc) in
      let m : length (s.results ++ w) + length xs ≡ length s.results + suc (length xs) = omega
      (arith, length-append s.results w) in
      let same : with_results (with_results s w) zs ≡ z = ap (λ (x : List Record). record s { results = x })
      (append_assoc s.results w zs) in
      subst (λ (o : code.Outcome ℕ). Ends lent (Comes lent book k (length s.results + suc (length xs)) v z)
      (code.next o f).answer (code.next o f).state (wrote (limits lent) s (shift by x ∷ zs) v))
      (sym (copied_at c s h before x (xs ++ y ∷ after) at e l))
      (step c s h (shift by x) zs (length s.results + suc (length xs)) z f
      (λ c₁ st.
      ends_map lent (Comes lent book k (length (s.results ++ w) + length xs) v (with_results (with_results s w) zs))
      (Comes lent book k (length s.results + suc (length xs)) v z)
      (λ n c a s q. (q.0 ∙ m, q.1, q.2, q.3 ∙ same)) _ _ _
      (copies xs c₁ (with_results s w) (before ++ x ∷ []) (after ++ w) (at + 1) st there
      (omega (arith, length-append before (x ∷ []))) (omega arith)))
      (code.emit (shift by x) c) _ refl (emitted lent book c k s h (shift by x)))

copied_type : (lent : Lent) (book : Book) (k : Names) (rs : List Record) (t : ResolvedType) (m : ℕ) (z : State)
    → m ≡ length rs + below t → z.results ≡ rs ++ type_records (length rs) t
    → (n : ℕ) (c : code.State) (a : Resolved × Names) (s : State)
    → Comes lent book k m (record { root = length rs + below t; type = t }, k) z n c a s
    → Done lent book rs (Roots k rs) n c a s
copied_type lent book k rs t m z e g n c a s q =
    subst (λ (x : Resolved × Names). Done lent book rs (Roots k rs) n c x s) (sym q.2)
    (record {
      stands = q.1;
      grown = record { more = type_records (length rs) t; is = ap (λ (x : State). x.results) q.3 ∙ g };
      holds = record {
        root_is = q.0 ∙ e;
        root_at = refl;
        adds = ap (λ (x : State). x.results) q.3
            ∙ g;
        aliases_same = refl;
      };
    })

-- a copy of a type is its records
pub does_copy : (lent : Lent) (book : Book) (c : code.State) (k : Names) (s : State) → Stands lent book c k s
    → (p : Place) (t : ResolvedType)
    → StandsAt s.results p.first p.root t → Resolves lent book (code.copy_type p c) (whole t) k s
unfolding code.copy_type
does_copy lent book c k s h p t st =
    let by : ℕ = c.results.count - p.first in
    let v : Resolved × Names = (record { root = length s.results + below t; type = t }, k) in
    let xs : List Record = records_below p.first t in
    let y : Record = root_record p.first t in
    let q : Parts s.results p.first t = parts s.results p.first p.root t st in
    let long : c.results.count ≡ length s.results = ap (λ (w : Written). w.count) h.results_are in
    let all : length s.results ≡ length q.before + (suc (below t) + length q.after) =
    ap (λ (x : List Record). length x) q.there ∙ omega (
      arith,
      length-append q.before (type_records p.first t ++ q.after),
      length-append (type_records p.first t) q.after,
      type_has_records p.first t,
    ) in
    let few : p.first + by + below t ≤ 65535 = omega (arith, q.first_is, h.results_fit) in
    let first : p.first + by ≡ length s.results = omega (arith, q.first_is) in
    let listed : map (shift by) xs ++ shift by y ∷ [] ≡ type_records (length s.results) t =
    ap (λ x. x ++ shift by y ∷ []) (shift_below p.first by t few)
    ∙ ap (λ r. records_below (p.first + by) t ++ r ∷ []) (shift_root p.first by t few)
    ∙ sym (root_behind (p.first + by) t) ∙ ap (λ n. type_records n t) first in
    let count : length xs ≡ p.root - p.first = omega (arith, st.root_is, length_below p.first t) in
    let here : s.results ≡ q.before ++ (xs ++ y ∷ q.after) =
    q.there ∙ ap (λ x. q.before ++ (x ++ q.after)) (root_behind p.first t)
    ∙ ap (λ x. q.before ++ x) (append_assoc xs (y ∷ []) q.after) in
    let all_of_them : Ends lent (Comes lent book k (length s.results + length xs) v
    (with_results s (map (shift by) xs ++ shift by y ∷ [])))
    (code.copy_all (length xs) p.first by c (λ t. code.copy_one p.root by t)).answer
    (code.copy_all (length xs) p.first by c (λ t. code.copy_one p.root by t)).state
    (wrote (limits lent) s (map (shift by) xs ++ shift by y ∷ []) v) =
    copies lent book k by p.root y v xs c s q.before q.after p.first h here q.first_is
    (omega (arith, st.root_is, length_below p.first t)) in
    let fine : Ends lent (Done lent book s.results (Roots k s.results))
    (code.copy_all (length xs) p.first by c (λ t. code.copy_one p.root by t)).answer
    (code.copy_all (length xs) p.first by c (λ t. code.copy_one p.root by t)).state
    (wrote (limits lent) s (map (shift by) xs ++ shift by y ∷ []) v) =
    ends_map lent _ (Done lent book s.results (Roots k s.results))
    (copied_type lent book k s.results t _ _ (ap (λ i. length s.results + i) (length_below p.first t))
    (ap (λ x. s.results ++ x) listed))
    _ _ _ all_of_them in
    subst (λ (o : Out (Resolved × Names)). Ends lent (Done lent book s.results (Roots k s.results))
    (code.copy_all (p.root - p.first) p.first by c (λ t. code.copy_one p.root by t)).answer
    (code.copy_all (p.root - p.first) p.first by c (λ t. code.copy_one p.root by t)).state o)
    (ap (λ (x : List Record). wrote (limits lent) s x v) listed ∙ sym (run-whole t (limits lent) k s))
    (subst (λ (n : ℕ). Ends lent (Done lent book s.results (Roots k s.results))
    (code.copy_all n p.first by c (λ t. code.copy_one p.root by t)).answer
    (code.copy_all n p.first by c (λ t. code.copy_one p.root by t)).state
    (wrote (limits lent) s (map (shift by) xs ++ shift by y ∷ []) v)) count fine)
