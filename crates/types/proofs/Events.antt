-- Causes 9 and 10 are those of the first event that is over a limit.
-- Assumes nothing.
use Prim.Native.Nat.{ℕ, suc, ◌≤◌, ◌<◌}
use mathlib.Core.Bool.{Bool, true, false, true≢false, false≢true}
use mathlib.Core.List.{List, [], ◌∷◌, ◌++◌, append-nil, append_assoc, nil≢cons}
use mathlib.Core.Logic.{◌⊎◌, inl, inr}
use mathlib.Core.Option.{Option, some, none}
use mathlib.Core.Path.{◌≡◌, refl, sym, ap, ◌∙◌, subst}
use native.Mathlib.Numerals.{add-one}
use native.Mathlib.Omega.{arith}
use lib.Dec.{ltb, eqb}
use lib.ListN.{length, drop, get_or, length-append}
use borrow.Author.Tests.{ltb-true, ltb-false, eq-eqb, ne_eqb}
use Rattle.record.specs.declared.Record.{Record}
use Rattle.types.specs.Lowering.{Lowering, done, lowering, resolving, diagnostic, result, Limits, State, moved, with_result, with_diagnostic}
use Rattle.types.specs.Lowering.{Stop, too_deep, full, Out, finished, stopped, run}
use Rattle.types.specs.Events.{Event, lowers, resolves, tells, writes, events, answer, written, told, place_after, over, Fits, behind, StopsAt}
use Rattle.types.proofs.Run.{step_on, step_out, tell_on, tell_out, write_on, write_out}
use Rattle.types.specs.Events.{StoppedByTheFirst, FinishedIfAllFit}

pub written-append : (x y : List Event) → written (x ++ y) ≡ written x ++ written y
unfolding written
written-append [] y = refl
written-append (lowers p ∷ x) y = written-append x y
written-append (resolves d ∷ x) y = written-append x y
written-append (tells r ∷ x) y = written-append x y
written-append (writes r ∷ x) y = ap (λ l. r ∷ l) (written-append x y)

pub told-append : (x y : List Event) → told (x ++ y) ≡ told x ++ told y
unfolding told
told-append [] y = refl
told-append (lowers p ∷ x) y = told-append x y
told-append (resolves d ∷ x) y = told-append x y
told-append (tells r ∷ x) y = ap (λ l. r ∷ l) (told-append x y)
told-append (writes r ∷ x) y = told-append x y

pub place_append : (p : ℕ) (x y : List Event) → place_after p (x ++ y) ≡ place_after (place_after p x) y
unfolding place_after
place_append p [] y = refl
place_append p (lowers q ∷ x) y = place_append q x y
place_append p (resolves d ∷ x) y = place_append p x y
place_append p (tells r ∷ x) y = place_append p x y
place_append p (writes r ∷ x) y = place_append p x y

-- the state behind one event more
state_lowers : (b : List Event) (p : ℕ) → moved p (behind b) ≡ behind (b ++ (lowers p ∷ []))
unfolding written told place_after
state_lowers b p =
    rw (written-append b (lowers p ∷ []), told-append b (lowers p ∷ []), place_append 0 b (lowers p ∷ []), append-nil (written b), append-nil (told b))

state_resolves : (b : List Event) (d : ℕ) → behind b ≡ behind (b ++ (resolves d ∷ []))
unfolding written told place_after
state_resolves b d =
    rw (written-append b (resolves d ∷ []), told-append b (resolves d ∷ []), place_append 0 b (resolves d ∷ []), append-nil (written b), append-nil (told b))

state_tells : (b : List Event) (r : Record) → with_diagnostic r (behind b) ≡ behind (b ++ (tells r ∷ []))
unfolding written told place_after
state_tells b r =
    rw (written-append b (tells r ∷ []), told-append b (tells r ∷ []), place_append 0 b (tells r ∷ []), append-nil (written b))

state_writes : (b : List Event) (r : Record) → with_result r (behind b) ≡ behind (b ++ (writes r ∷ []))
unfolding written told place_after
state_writes b r =
    rw (written-append b (writes r ∷ []), told-append b (writes r ∷ []), place_append 0 b (writes r ∷ []), append-nil (told b))

-- where some events stop, behind b
unfoldable stop_of : Limits → List Event → List Event → Option (Stop × ℕ)
stop_of most b [] = none
stop_of most b (e ∷ es) =
    elim (over too_deep most b e) [
      | true ↦ some (too_deep, place_after 0 b)
      | false ↦
          elim (over full most b e) [
            | true ↦ some (full, place_after 0 b)
            | false ↦ stop_of most (b ++ (e ∷ [])) es
          ]
    ]

stop_deep :
    (most : Limits) (b : List Event) (e : Event) (es : List Event) → over too_deep most b e ≡ true →
    stop_of most b (e ∷ es) ≡ some (too_deep, place_after 0 b)
unfolding stop_of
stop_deep most b e es deep = rw (deep, stop_of)

stop_full :
    (most : Limits) (b : List Event) (e : Event) (es : List Event) → over too_deep most b e ≡ false →
    over full most b e ≡ true → stop_of most b (e ∷ es) ≡ some (full, place_after 0 b)
unfolding stop_of
stop_full most b e es not_deep is_full = rw (not_deep, is_full, stop_of)

stop_on :
    (most : Limits) (b : List Event) (e : Event) (es : List Event) → over too_deep most b e ≡ false →
    over full most b e ≡ false → stop_of most b (e ∷ es) ≡ stop_of most (b ++ (e ∷ [])) es
unfolding stop_of
stop_on most b e es not_deep not_full = rw (not_deep, not_full, stop_of)

abbrev out_of : {A : Type 0} → Option (Stop × ℕ) → A → State → Out A
out_of none a s = finished a s
out_of (some x) a s = stopped x.0 x.1

-- so far nothing is over a limit
record Within (most : Limits) (b : List Event) : Type 0 where
  results : length (written b) ≤ most.results
  diagnostics : length (told b) ≤ most.diagnostics

pub one_more_lem : {A : Type 0} (l : List A) (x : A) → length (l ++ (x ∷ [])) ≡ suc (length l)
one_more_lem l x = length-append l (x ∷ []) ∙ add-one (length l)

-- one record more: there is room below the limit, or the limit is met
data Room (n limit : ℕ) : Type 0 where
  room : ltb n limit ≡ true → eqb n limit ≡ false → suc n ≤ limit → Room n limit
  met : ltb n limit ≡ false → eqb n limit ≡ true → Room n limit

room_or_met : (n limit : ℕ) → n ≤ limit → Room n limit
room_or_met n limit h = by (ltb n limit) refl
  where
    by : (test : Bool) → ltb n limit ≡ test → Room n limit
    by true e =
        let lt : n < limit = ltb-true n limit e in
        room e (ne_eqb n limit (λ q. omega arith)) (omega arith)
    by false e =
        let ge : limit ≤ n = ltb-false n limit e in
        met e (eq-eqb n limit (omega arith))

-- within the limits behind one more event
module _ (most : Limits) (b : List Event) where
  within_by :
      (s : State) (c : List Event) → s ≡ behind c → length s.results ≤ most.results →
      length s.diagnostics ≤ most.diagnostics → Within most c
  within_by s c e f g =
      record {
        results = subst (λ (x : State). length x.results ≤ most.results) e f;
        diagnostics = subst (λ (x : State). length x.diagnostics ≤ most.diagnostics) e g;
      }

  within-lowers : (p : ℕ) → Within most b → Within most (b ++ (lowers p ∷ []))
  within-lowers p w = within_by (moved p (behind b)) (b ++ (lowers p ∷ [])) (state_lowers b p) w.results w.diagnostics

  within-resolves : (d : ℕ) → Within most b → Within most (b ++ (resolves d ∷ []))
  within-resolves d w = within_by (behind b) (b ++ (resolves d ∷ [])) (state_resolves b d) w.results w.diagnostics

  within-tells : (r : Record) → Within most b → suc (length (told b)) ≤ most.diagnostics → Within most (b ++ (tells r ∷ []))
  within-tells r w h = within_by (with_diagnostic r (behind b)) (b ++ (tells r ∷ [])) (state_tells b r) w.results (rw (one_more_lem (told b) r) h)

  within-writes : (r : Record) → Within most b → suc (length (written b)) ≤ most.results → Within most (b ++ (writes r ∷ []))
  within-writes r w h = within_by (with_result r (behind b)) (b ++ (writes r ∷ [])) (state_writes b r) (rw (one_more_lem (written b) r) h) w.diagnostics

module _ (A : Type 0) (most : Limits) where
  abbrev Agrees : Lowering A → Type 0
  Agrees t =
      (b : List Event) (n : ℕ) (s : State) (all : List Event) →
      s ≡ behind b →
      n ≡ length (written b) →
      all ≡ b ++ events t n →
      Within most b →
      run most t s ≡ out_of (stop_of most b (events t n)) (answer t n) (behind all)

  after : (b : List Event) (e : Event) (es all : List Event) → all ≡ b ++ (e ∷ es) → all ≡ (b ++ (e ∷ [])) ++ es
  after b e es all h = h ∙ sym (append_assoc b (e ∷ []) es)

  agrees-done : (a : A) → Agrees (done a)
  unfolding run events answer stop_of
  agrees-done a b n s all hs hn ha w = rw (hs, ha, append-nil b)

  agrees-lowering : (p : ℕ) (t : Lowering A) → Agrees t → Agrees (lowering p t)
  unfolding run events answer stop_of over
  agrees-lowering p t ih b n s all hs hn ha w =
      let e : moved p (behind b) ≡ behind (b ++ (lowers p ∷ [])) = state_lowers b p in
      ih
      (b ++ (lowers p ∷ []))
      n
      (moved p s)
      all
      (rw (hs, e))
      (hn ∙ ap (λ (x : State). length x.results) e)
      (after b (lowers p) (events t n) all ha)
      (within-lowers most b p w)

  agrees-resolving : (d : ℕ) (t : Lowering A) → Agrees t → Agrees (resolving d t)
  unfolding run events answer stop_of over
  agrees-resolving d t ih b n s all hs hn ha w = by (ltb 64 d) refl
    where
      e : behind b ≡ behind (b ++ (resolves d ∷ []))
      e = state_resolves b d

      rest : run most t s ≡ out_of (stop_of most (b ++ (resolves d ∷ [])) (events t n)) (answer t n) (behind all)
      rest =
          ih
          (b ++ (resolves d ∷ []))
          n
          s
          all
          (hs ∙ e)
          (hn ∙ ap (λ (x : State). length x.results) e)
          (after b (resolves d) (events t n) all ha)
          (within-resolves most b d w)

      by :
          (test : Bool) → ltb 64 d ≡ test →
          run most (resolving d t) s ≡ out_of (stop_of most b (resolves d ∷ events t n)) (answer t n) (behind all)
      by true deep = rw (stop_deep most b (resolves d) (events t n) deep) (step_out most s d t deep ∙ ap (λ (x : State). stopped too_deep x.place) hs)
      by false not_deep = rw (stop_on most b (resolves d) (events t n) not_deep refl) (step_on most s d t not_deep ∙ rest)

  agrees-diagnostic : (r : Record) (t : Lowering A) → Agrees t → Agrees (diagnostic r t)
  unfolding run events answer stop_of over
  agrees-diagnostic r t ih b n s all hs hn ha w = by (room_or_met (length (told b)) most.diagnostics w.diagnostics)
    where
      e : with_diagnostic r (behind b) ≡ behind (b ++ (tells r ∷ []))
      e = state_tells b r

      by :
          Room (length (told b)) most.diagnostics →
          run most (diagnostic r t) s ≡ out_of (stop_of most b (tells r ∷ events t n)) (answer t n) (behind all)
      by (met below_not is_met) = rw (hs, stop_full most b (tells r) (events t n) refl is_met) (tell_out most (behind b) r t below_not)
      by (room below not_met more) =
          rw (hs, stop_on most b (tells r) (events t n) refl not_met)
          (tell_on most (behind b) r t below
          ∙ ih
          (b ++ (tells r ∷ []))
          n
          (with_diagnostic r (behind b))
          all
          e
          (hn ∙ ap (λ (x : State). length x.results) e)
          (after b (tells r) (events t n) all ha)
          (within-tells most b r w more))

  agrees-result : (r : Record) (k : ℕ → Lowering A) → ((n : ℕ) → Agrees (k n)) → Agrees (result r k)
  unfolding run events answer stop_of over
  agrees-result r k ih b n s all hs hn ha w = by (room_or_met (length (written b)) most.results w.results)
    where
      e : with_result r (behind b) ≡ behind (b ++ (writes r ∷ []))
      e = state_writes b r

      by :
          Room (length (written b)) most.results →
          run most (result r k) s ≡ out_of (stop_of most b (writes r ∷ events (k n) (suc n))) (answer (k n) (suc n)) (behind all)
      by (met below_not is_met) = rw (hs, stop_full most b (writes r) (events (k n) (suc n)) refl is_met) (write_out most (behind b) r k below_not)
      by (room below not_met more) =
          rw (hs, stop_on most b (writes r) (events (k n) (suc n)) refl not_met)
          (write_on most (behind b) r k below
          ∙ ap (λ (m : ℕ). run most (k m) (with_result r (behind b))) (sym hn)
          ∙ ih
          n
          (b ++ (writes r ∷ []))
          (suc n)
          (with_result r (behind b))
          all
          e
          (ap suc hn ∙ sym (one_more_lem (written b) r) ∙ ap (λ (x : State). length x.results) e)
          (after b (writes r) (events (k n) (suc n)) all ha)
          (within-writes most b r w more))

  agrees : (t : Lowering A) → Agrees t
  agrees (done a) = agrees-done a
  agrees (lowering p t) = agrees-lowering p t (agrees t)
  agrees (resolving d t) = agrees-resolving d t (agrees t)
  agrees (diagnostic r t) = agrees-diagnostic r t (agrees t)
  agrees (result r k) = agrees-result r k (λ n. agrees (k n))

-- an event is over one limit only
not_both : (most : Limits) (b : List Event) (e : Event) → over full most b e ≡ true → over too_deep most b e ≡ false
unfolding over
not_both most b (lowers p) h = refl
not_both most b (resolves d) h = absurd (false≢true h)
not_both most b (tells r) h = refl
not_both most b (writes r) h = refl

is_false : (t : Bool) → (t ≡ true → ⊥) → t ≡ false
is_false true h = absurd (h refl)
is_false false h = refl

module _ (most : Limits) where
  -- the first event that is over a limit is where the events stop
  stop_here :
      (c : Stop) (b : List Event) (e : Event) (es : List Event) → over c most b e ≡ true →
      stop_of most b (e ∷ es) ≡ some (c, place_after 0 b)
  stop_here too_deep b e es h = stop_deep most b e es h
  stop_here full b e es h = stop_full most b e es (not_both most b e h) h

  stop_there :
      (c : Stop) (b before rest : List Event) (e : Event) → Fits most (b ++ before) →
      over c most (b ++ before) e ≡ true → stop_of most b (before ++ (e ∷ rest)) ≡ some (c, place_after 0 (b ++ before))
  stop_there c b [] rest e fits h =
      let same : b ++ [] ≡ b = append-nil b in
      rw same (stop_here c b e rest (subst (λ (l : List Event). over c most l e ≡ true) same h))
  stop_there c b (x ∷ xs) rest e fits h =
      let same : b ++ (x ∷ []) ++ xs ≡ b ++ (x ∷ xs) = append_assoc b (x ∷ []) xs in
      let free : (d : Stop) → over d most b x ≡ false = λ d. is_false (over d most b x) (fits d b xs x refl) in
      stop_on most b x (xs ++ (e ∷ rest)) (free too_deep) (free full)
      ∙ subst
      (λ (l : List Event). stop_of most (b ++ (x ∷ [])) (xs ++ (e ∷ rest)) ≡ some (c, place_after 0 l))
      same
      (stop_there c (b ++ (x ∷ [])) xs rest e (subst (Fits most) (sym same) fits) (subst (λ (l : List Event). over c most l e ≡ true) (sym same) h))

  stop_nowhere : (b es : List Event) → Fits most (b ++ es) → stop_of most b es ≡ none
  unfolding stop_of
  stop_nowhere b [] fits = refl
  stop_nowhere b (x ∷ xs) fits =
      let free : (d : Stop) → over d most b x ≡ false = λ d. is_false (over d most b x) (fits d b xs x refl) in
      stop_on most b x xs (free too_deep) (free full)
      ∙ stop_nowhere (b ++ (x ∷ [])) xs (subst (Fits most) (sym (append_assoc b (x ∷ []) xs)) fits)

-- where a list with one element behind it is taken apart: there, or before it
module _ {E : Type 0} where
  abbrev Parted : List E → E → List E → E → Type 0
  Parted b x before e = ((before ≡ b) × (e ≡ x)) ⊎ ((more : List E) × (b ≡ before ++ (e ∷ more)))

  parted : (b before rest : List E) (x e : E) → b ++ (x ∷ []) ≡ before ++ (e ∷ rest) → Parted b x before e
  parted [] [] rest x e h = inl (refl, sym (ap (λ l. get_or l 0 x) h))
  parted [] (y ∷ ys) rest x e h = absurd (nothing ys (ap (drop 1) h))
    where
      nothing : (l : List E) → [] ≡ l ++ (e ∷ rest) → ⊥
      nothing [] q = nil≢cons q
      nothing (z ∷ zs) q = nil≢cons q
  parted (z ∷ zs) [] rest x e h = inr (zs, ap (λ a. a ∷ zs) (ap (λ l. get_or l 0 z) h))
  parted (z ∷ zs) (y ∷ ys) rest x e h = further (parted zs ys rest x e (ap (drop 1) h))
    where
      same : z ≡ y
      same = ap (λ l. get_or l 0 z) h

      further : Parted zs x ys e → Parted (z ∷ zs) x (y ∷ ys) e
      further (inl q) = inl (cc (same, q.0), q.1)
      further (inr q) = inr (q.0, cc (same, q.1))

module _ (most : Limits) where
  pub fits_nothing : Fits most []
  fits_nothing c [] rest e h = absurd (nil≢cons h)
  fits_nothing c (y ∷ ys) rest e h = absurd (nil≢cons h)

  fits_one_more : (b : List Event) (x : Event) → Fits most b → ((c : Stop) → over c most b x ≡ false) → Fits most (b ++ (x ∷ []))
  fits_one_more b x fits free c before rest e h = by (parted b before rest x e h)
    where
      by : Parted b x before e → over c most before e ≡ true → ⊥
      by (inl q) is_over_lem = false≢true (sym (free c) ∙ sym (cc (q.0, q.1)) ∙ is_over_lem)
      by (inr q) is_over_lem = fits c before q.0 e q.1 is_over_lem

  -- what the events come to
  data Comes (b es : List Event) : Type 0 where
    through : stop_of most b es ≡ none → Fits most (b ++ es) → Comes b es
    stops :
        (c : Stop) (before rest : List Event) (e : Event) → es ≡ before ++ (e ∷ rest) →
        over c most (b ++ before) e ≡ true → Fits most (b ++ before) →
        stop_of most b es ≡ some (c, place_after 0 (b ++ before)) → Comes b es

  comes : (b es : List Event) → Fits most b → Comes b es
  unfolding stop_of
  comes b [] fits = through refl (rw (append-nil b) fits)
  comes b (x ∷ xs) fits = by (over too_deep most b x) (over full most b x) refl refl (λ f. comes (b ++ (x ∷ [])) xs f)
    where
      here : b ++ [] ≡ b
      here = append-nil b

      stopping : (c : Stop) → over c most b x ≡ true → Comes b (x ∷ xs)
      stopping c h = stops c [] xs x refl (rw here h) (rw here fits) (rw here (stop_here most c b x xs h))

      further : ((c : Stop) → over c most b x ≡ false) → Comes (b ++ (x ∷ [])) xs → Comes b (x ∷ xs)
      further free (through q f) =
          through (stop_on most b x xs (free too_deep) (free full) ∙ q) (subst (Fits most) (append_assoc b (x ∷ []) xs) f)
      further free (stops c before rest e q h f out) =
          let same : b ++ (x ∷ []) ++ before ≡ b ++ (x ∷ before) = append_assoc b (x ∷ []) before in
          stops
          c
          (x ∷ before)
          rest
          e
          (ap (λ l. x ∷ l) q)
          (subst (λ (l : List Event). over c most l e ≡ true) same h)
          (subst (Fits most) same f)
          (stop_on most b x xs (free too_deep) (free full)
          ∙ out
          ∙ ap (λ (l : List Event). some (c, place_after 0 l)) same)

      by :
          (deep more : Bool) →
          over too_deep most b x ≡ deep →
          over full most b x ≡ more →
          (Fits most (b ++ (x ∷ [])) → Comes (b ++ (x ∷ [])) xs) →
          Comes b (x ∷ xs)
      by true any d m next = stopping too_deep d
      by false true d m next = stopping full m
      by false false d m next = further free (next (fits_one_more b x fits free))
        where
          free : (c : Stop) → over c most b x ≡ false
          free too_deep = d
          free full = m

-- one event that is not over a limit
one_within : (most : Limits) (b : List Event) (e : Event) → Within most b → (over full most b e ≡ true → ⊥) → Within most (b ++ (e ∷ []))
unfolding over
one_within most b (lowers p) w free = within-lowers most b p w
one_within most b (resolves d) w free = within-resolves most b d w
one_within most b (tells r) w free = by (room_or_met (length (told b)) most.diagnostics w.diagnostics)
  where
    by : Room (length (told b)) most.diagnostics → Within most (b ++ (tells r ∷ []))
    by (met below_not is_met) = absurd (free is_met)
    by (room below not_met more) = within-tells most b r w more
one_within most b (writes r) w free = by (room_or_met (length (written b)) most.results w.results)
  where
    by : Room (length (written b)) most.results → Within most (b ++ (writes r ∷ []))
    by (met below_not is_met) = absurd (free is_met)
    by (room below not_met more) = within-writes most b r w more

all-within : (most : Limits) (b es : List Event) → Within most b → Fits most (b ++ es) → Within most (b ++ es)
all-within most b [] w f = rw (append-nil b) w
all-within most b (e ∷ es) w f =
    let same : b ++ (e ∷ []) ++ es ≡ b ++ (e ∷ es) = append_assoc b (e ∷ []) es in
    subst
    (Within most)
    same
    (all-within most (b ++ (e ∷ [])) es (one_within most b e w (f full b es e refl)) (subst (Fits most) (sym same) f))

fitting : (most : Limits) (es : List Event) → Fits most es → Within most es
unfolding written told
fitting most es fits = all-within most [] es (record { results = omega arith; diagnostics = omega arith }) fits

-- all records that fit are within the limits
pub fits_within :
    (most : Limits) (es : List Event) → Fits most es →
    (length (written es) ≤ most.results) × (length (told es) ≤ most.diagnostics)
fits_within most es fits = ((fitting most es fits).results, (fitting most es fits).diagnostics)

-- a lowering behind some events is what its own events come to
module _ (A : Type 0) (most : Limits) (b : List Event) (t : Lowering A) (fits : Fits most b) where
  abbrev own : List Event
  own = events t (length (written b))

  to : Option (Stop × ℕ) → Out A
  to o = out_of o (answer t (length (written b))) (behind (b ++ own))

  run_is : run most t (behind b) ≡ to (stop_of most b own)
  unfolding to
  run_is = agrees A most t b (length (written b)) (behind b) (b ++ own) refl refl refl (fitting most b fits)

abbrev is_stopped : {A : Type 0} → Out A → Bool
is_stopped (finished a s) = false
is_stopped (stopped c p) = true

abbrev cause_of : {A : Type 0} → Out A → Stop
cause_of (finished a s) = full
cause_of (stopped c p) = c

abbrev place_of : {A : Type 0} → Out A → ℕ
place_of (finished a s) = 0
place_of (stopped c p) = p

pub stopped_by_the_first : StoppedByTheFirst
unfolding to
stopped_by_the_first A most b t c p fits = (λ h. there h (comes most b es fits), back)
  where
    es : List Event
    es = events t (length (written b))

    is : run most t (behind b) ≡ to A most b t fits (stop_of most b (events t (length (written b))))
    is = run_is A most b t fits

    there : run most t (behind b) ≡ stopped c p → Comes most b es → StopsAt most b (events t (length (written b))) c p
    there h (through q f) = absurd (true≢false (ap is_stopped (sym h ∙ is ∙ ap (to A most b t fits) q)))
    there h (stops d before rest e q is_over_lem f out) =
        let same : Path (Out A) (stopped d (place_after 0 (b ++ before))) (stopped c p) = sym (is ∙ ap (to A most b t fits) out) ∙ h in
        record {
          before = before;
          event = e;
          rest = rest;
          split = q;
          holds = subst (λ (x : Stop). over x most (b ++ before) e ≡ true) (ap cause_of same) is_over_lem;
          first = f;
          place = ap place_of same;
        }

    back : StopsAt most b (events t (length (written b))) c p → run most t (behind b) ≡ stopped c p
    back x =
        is
        ∙ ap
        (to A most b t fits)
        (ap (stop_of most b) x.split ∙ stop_there most c b x.before x.rest x.event x.first x.holds)
        ∙ ap (λ q. stopped c q) x.place

abbrev final_of : {A : Type 0} → A → Out A → A
final_of d (finished a s) = a
final_of d (stopped c p) = d

abbrev final_state : {A : Type 0} → State → Out A → State
final_state d (finished a s) = s
final_state d (stopped c p) = d

pub finished_if_all_fit : FinishedIfAllFit
unfolding to
finished_if_all_fit A most b t a s fits = (λ h. there h (comes most b es fits), back)
  where
    es : List Event
    es = events t (length (written b))

    is : run most t (behind b) ≡ to A most b t fits (stop_of most b (events t (length (written b))))
    is = run_is A most b t fits

    there :
        run most t (behind b) ≡ finished a s →
        Comes most b es →
        Fits most (b ++ events t (length (written b)))
        × (answer t (length (written b)) ≡ a)
        × (s ≡ behind (b ++ events t (length (written b))))
    there h (through q f) =
        let same : Path (Out A) (finished (answer t (length (written b))) (behind (b ++ es))) (finished a s) = sym (is ∙ ap (to A most b t fits) q) ∙ h in
        (f, ap (final_of a) same, sym (ap (final_state s) same))
    there h (stops d before rest e q is_over_lem f out) = absurd (true≢false (ap is_stopped (sym (is ∙ ap (to A most b t fits) out) ∙ h)))

    back :
        Fits most (b ++ events t (length (written b)))
        × (answer t (length (written b)) ≡ a)
        × (s ≡ behind (b ++ events t (length (written b)))) →
        run most t (behind b) ≡ finished a s
    back x = is ∙ ap (to A most b t fits) (stop_nowhere most b es x.0) ∙ rw (x.1, x.2)
