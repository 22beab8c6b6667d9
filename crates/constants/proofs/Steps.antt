-- The steps of the code, one at a time.
-- Assumes nothing.
use Rattle.std.specs.Prelude.{ℕ, zero, suc, ◌-◌, Some, None, true, false, ◌+◌, ◌<◌, ◌≤◌, List, length, get_or, drop, ◌≡◌}
use Rattle.std.proofs.Common.{refl, sym, ap, ◌∙◌, arith, add-one, drop-cons}
use Rattle.std.proofs.lemmas.List.{drop_all}
use Rattle.book.specs.Outline.{Book}
use Rattle.constants.specs.Steps.{State, opened, opened_all, admitted, admitted_from, looked_at, found, ready_from, Run, run, first_from, next_low, settled, settled_from}

pub opens-next :
    (most : ℕ) (book : Book) (ns : List ℕ) (i : ℕ) (s : State) → i < length ns →
    opened_all most book (drop i ns) s ≡ opened_all most book (drop (i + 1) ns) (opened most book (get_or ns i 0) s)
unfolding opened_all
opens-next most book ns i s h =
    rw (drop-cons ns i 0 h, opened_all) (ap (λ l. opened_all most book l (opened most book (get_or ns i 0) s)) (ap (λ k. drop k ns) (sym (add-one i))))

pub opens-end : (most : ℕ) (book : Book) (ns : List ℕ) (i : ℕ) (s : State) → length ns ≤ i → opened_all most book (drop i ns) s ≡ s
unfolding opened_all
opens-end most book ns i s h = ap (λ l. opened_all most book l s) (drop_all i ns h)

pub ruleset opens = (opens-next, opens-end)

pub admits-next :
    (book : Book) (m i : ℕ) (s : State) → i < m → admitted_from book (m - i) i s ≡ admitted_from book (m - (i + 1)) (i + 1) (admitted book i s)
unfolding admitted_from
admits-next book m i s h = let e : m - i ≡ suc (m - (i + 1)) = omega arith in rw (e, admitted_from) refl

pub admits-end : (book : Book) (m i : ℕ) (s : State) → m ≤ i → admitted_from book (m - i) i s ≡ s
unfolding admitted_from
admits-end book m i s h = let e : m - i ≡ zero = omega arith in rw (e, admitted_from) refl

pub ruleset admits = (admits-next, admits-end)

pub readies-found :
    (book : Book) (m i : ℕ) (s : State) → i < m → (looked_at book i s).ready ≡ true →
    ready_from book (m - i) i s ≡ found (Some i) (looked_at book i s).state
unfolding ready_from
readies-found book m i s h e = let f : m - i ≡ suc (m - (i + 1)) = omega arith in rw (f, ready_from, e) refl

pub readies-next :
    (book : Book) (m i : ℕ) (s : State) → i < m → (looked_at book i s).ready ≡ false →
    ready_from book (m - i) i s ≡ ready_from book (m - (i + 1)) (i + 1) (looked_at book i s).state
unfolding ready_from
readies-next book m i s h e = let f : m - i ≡ suc (m - (i + 1)) = omega arith in rw (f, ready_from, e) refl

pub readies-end : (book : Book) (m i : ℕ) (s : State) → m ≤ i → ready_from book (m - i) i s ≡ found None s
unfolding ready_from
readies-end book m i s h = let f : m - i ≡ zero = omega arith in rw (f, ready_from) refl

pub ruleset readies = (readies-found, readies-next, readies-end)

module _ (most : ℕ) (book : Book) (m k low : ℕ) (t : Run) (more : k < m) where
  pub settles-none :
      (first_from book low t.works).number ≡ None →
      settled_from most book (m - k) low t ≡ record t { works = (first_from book low t.works).state }
  unfolding settled_from
  settles-none e = let f : m - k ≡ suc (m - (k + 1)) = omega arith in rw (f, settled_from, e) refl

  pub settles-next :
      (i : ℕ) → (first_from book low t.works).number ≡ Some i →
      settled_from most book (m - k) low t
      ≡ settled_from most book (m - (k + 1)) (next_low i low) (settled most book i (record t { works = (first_from book low t.works).state }))
  unfolding settled_from
  settles-next i e = let f : m - k ≡ suc (m - (k + 1)) = omega arith in rw (f, settled_from, e) refl

pub settles-end : (most : ℕ) (book : Book) (m k low : ℕ) (t : Run) → m ≤ k → settled_from most book (m - k) low t ≡ t
unfolding settled_from
settles-end most book m k low t h = let f : m - k ≡ zero = omega arith in rw (f, settled_from) refl

pub ruleset settles = (settles-none, settles-next, settles-end)

-- a turn leaves the same end
pub settles-turn :
    (most : ℕ) (book : Book) (m k low : ℕ) (t : Run) → k < m → (i : ℕ) → Some i ≡ (first_from book low t.works).number → (s : State) →
    s ≡ (first_from book low t.works).state → (u : Run) → u ≡ settled most book i (run s t.values t.order) → (low' : ℕ) → low' ≡ next_low i low →
    (end : Run) → settled_from most book (m - k) low t ≡ end → settled_from most book (m - (k + 1)) low' u ≡ end
settles-turn most book m k low t more i is s state u settled_is low' low_is end e =
    ap (settled_from most book (m - (k + 1)) low') settled_is
    ∙ ap (λ s. settled_from most book (m - (k + 1)) low' (settled most book i (run s t.values t.order))) state
    ∙ ap (λ l. settled_from most book (m - (k + 1)) l (settled most book i (run (first_from book low t.works).state t.values t.order))) low_is
    ∙ sym (settles-next most book m k low t more i (sym is))
    ∙ e
