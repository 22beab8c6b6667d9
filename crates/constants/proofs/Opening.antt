-- The constants of a book are opened, one after the other.
-- Assumes nothing.
use Rattle.std.specs.Prelude.{ℕ, ◌+◌, ◌≤◌, ◌<◌, Bool, true, false, cond, ◌&&◌, ◌||◌, ◌≡◌, eqb, leb, List, [], ◌∷◌, ◌++◌, map, length, get_or, set, replicate}
use Rattle.std.proofs.Common.{refl, sym, ap, ◌∙◌, subst, arith, length-set, length-append, append_assoc}
use Rattle.std.proofs.lemmas.List.{length-replicate, length-map}
use Rattle.std.proofs.Math.Seq.{get_or-set_same, get_or-set_other}
use mathlib.Core.Bool.{and-true, or-true, or-false, false≢true}
use mathlib.Core.List.{append-nil, map-append}
use native.Mathlib.Decide.{ℕ_discrete}
use borrow.Author.Tests.{eq-eqb, eqb-true, ne_eqb}
use Rattle.std.specs.Prelude.{Result, Ok}
use Rattle.record.specs.declared.kind.Kind.{Kind}
use Rattle.record.specs.declared.kind.Kind.TheVariants.{Constant}
use Rattle.record.specs.declared.kind.UnknownKind.{UnknownKind}
use Rattle.record.specs.Kind.{kind_from}
use Rattle.record.proofs.Codes.{kind_is}
use Rattle.book.specs.Lists.{All, any, keep, up_to}
use Rattle.book.specs.Faults.{is_kind, is_declaration}
use Rattle.book.specs.Outline.{Book, ◌!◌, numbers_of}
use Rattle.book.proofs.Lists.{any_more}
use Rattle.constants.specs.Order as order
use Rattle.constants.specs.Order.{has, declares}
use Rattle.constants.specs.OfBook.{constant_at}
use Rattle.constants.specs.declared.works.Waits.TheVariants.{NotAdmitted}
use Rattle.constants.specs.declared.works.Turn.{Turn}
use Rattle.constants.specs.Steps.{State, turn, nobody, started, opened_of, opened, opened_all}
use Rattle.constants.proofs.Kept.{pushed-room}
use Rattle.constants.proofs.Working.{all_alike}
use Rattle.constants.proofs.Standing.{Open}

-- one more name is open
open_more :
    (cs : List order.Constant) (undone : List Bool) → Open cs [] undone → (c : order.Constant) → c.name < length undone →
    Open (cs ++ (c ∷ [])) [] (set undone c.name true)
unfolding any
open_more cs undone u c inside n = go (ℕ_discrete n c.name) ∙ sym (and-true _ ∙ any_more (λ c. eqb c.name n) cs c)
  where
    go : Dec (n ≡ c.name) → get_or (set undone c.name true) n false ≡ declares cs n || eqb c.name n
    go (yes e) =
        rw (e, get_or-set_same undone c.name true false inside, eq-eqb c.name c.name refl) (sym (or-true (declares cs c.name)))
    go (no ne) =
        rw (get_or-set_other undone c.name n true false ne, ne_eqb c.name n (λ e. ne (sym e)), or-false (declares cs n))
        (u n ∙ and-true (declares cs n))

-- a constant that is not admitted yet
abbrev pub waiting_at : ℕ → Turn
waiting_at n = turn n NotAdmitted

-- the constants at some records are opened, with room for so many names and constants
pub record Opened (book : Book) (names most : ℕ) (ns : List ℕ) (s : State) : Type 0 where
  pub turns_are : s.turns ≡ map waiting_at ns
  pub undone_long : length s.undone ≡ names
  pub open_is : Open (map (constant_at book) ns) [] s.undone
  pub seen_is : s.seen ≡ replicate names 0
  pub named_is : s.named ≡ replicate most nobody

module _ (book : Book) (names most : ℕ) where
  -- the next record, which is a constant or not
  opened_next :
      (ns : List ℕ) (n : ℕ) (s : State) → Opened book names most ns s → length ns < most → (book ! n).a < names →
      is_kind 24 (book ! n) ≡ true → Opened book names most (ns ++ (n ∷ [])) (opened most book n s)
  unfolding opened constant_at kind_from
  opened_next ns n s x room below is =
      rw (ap kind_from (eqb-true (book ! n).kind 24 is)) (
      record {
        turns_are =
            pushed-room most s.turns (waiting_at n) (omega (arith, ap length x.turns_are, length-map ns waiting_at))
            ∙ ap (λ l. l ++ (waiting_at n ∷ [])) x.turns_are
            ∙ sym (map-append waiting_at ns (n ∷ []));
        undone_long = length-set s.undone (book ! n).a true ∙ x.undone_long;
        open_is =
            rw (map-append (constant_at book) ns (n ∷ []))
            (open_more (map (constant_at book) ns) s.undone x.open_is (constant_at book n) (omega (arith, x.undone_long)));
        seen_is = x.seen_is;
        named_is = x.named_is;
      }
      )

  opened_other :
      (n : ℕ) (s : State) → is_kind 24 (book ! n) ≡ false → opened most book n s ≡ s
  unfolding opened
  opened_other n s is = by (kind_from (book ! n).kind) refl
    where
      by : (k : Result Kind UnknownKind) → kind_from (book ! n).kind ≡ k → opened_of most n (book ! n) k s ≡ s
      by (Ok Constant) e = absurd (false≢true (sym is ∙ eq-eqb (book ! n).kind 24 (kind_is (book ! n).kind Constant e)))
      by k e = refl

  abbrev is : ℕ → Bool
  is n = is_kind 24 (book ! n)

  abbrev Below : ℕ → Type 0
  Below n = (book ! n).a < names

  abbrev AllOpened : List ℕ → Type 0
  AllOpened ds =
      (ns : List ℕ) (s : State) → Opened book names most ns s → length ns + length (keep is ds) ≤ most → All Below (keep is ds) →
      Opened book names most (ns ++ keep is ds) (opened_all most book ds s)

  opened_by :
      (ds : List ℕ) (d : ℕ) (ns : List ℕ) (s : State) → AllOpened ds → Opened book names most ns s → (b : Bool) → is d ≡ b →
      length ns + length (cond b (d ∷ keep is ds) (keep is ds)) ≤ most → All Below (cond b (d ∷ keep is ds) (keep is ds)) →
      Opened book names most (ns ++ cond b (d ∷ keep is ds) (keep is ds)) (opened_all most book ds (opened most book d s))
  opened_by ds d ns s rest x true e room below =
      subst (λ l. Opened book names most l (opened_all most book ds (opened most book d s))) (append_assoc ns (d ∷ []) (keep is ds))
      (rest (ns ++ (d ∷ [])) (opened most book d s) (opened_next ns d s x (omega arith) below.0 e) (omega (arith, length-append ns (d ∷ []))) below.1)
  opened_by ds d ns s rest x false e room below =
      rest ns (opened most book d s) (subst (Opened book names most ns) (sym (opened_other d s e)) x) room below

  pub opened_each : (ds : List ℕ) → AllOpened ds
  unfolding opened_all keep
  opened_each [] ns s x room below = rw (append-nil ns) x
  opened_each (d ∷ ds) ns s x room below = opened_by ds d ns s (opened_each ds) x (is d) refl room below

  -- at first none is
  opened_none : Opened book names most [] (started names most)
  unfolding any
  opened_none = record {
    turns_are = refl;
    undone_long = length-replicate names false;
    open_is = all_alike names false;
    seen_is = refl;
    named_is = refl;
  }

  -- those among the declarations are all
  keep_keep : {A : Type 0} (p q : A → Bool) (l : List A) → ((x : A) → p x ≡ true → q x ≡ true) → keep p (keep q l) ≡ keep p l
  unfolding keep
  keep_keep p q [] h = refl
  keep_keep {A} p q (x ∷ l) h = go (q x) refl (p x) refl (keep_keep p q l h)
    where
      go :
          (b : Bool) → q x ≡ b → (a : Bool) → p x ≡ a → keep p (keep q l) ≡ keep p l →
          keep p (cond b (x ∷ keep q l) (keep q l)) ≡ cond (p x) (x ∷ keep p l) (keep p l)
      go true e a f r = ap (λ t. cond (p x) (x ∷ t) t) r
      go false e true f r = absurd (false≢true (sym e ∙ h x f))
      go false e false f r = rw f r

  declared : (k : ℕ) → eqb k 24 ≡ true → leb 20 k && leb k 25 ≡ true
  declared k e = ap (λ k. leb 20 k && leb k 25) (eqb-true k 24 e)

  pub constants_kept : keep is (numbers_of is_declaration book) ≡ numbers_of (is_kind 24) book
  unfolding numbers_of
  constants_kept =
      keep_keep (λ n. is_kind 24 (book ! n)) (λ n. is_declaration (book ! n)) (up_to (length book.records)) (λ n e. declared (book ! n).kind e)

  -- so all constants of a book are opened
  pub all_opened :
      (ds : List ℕ) → ds ≡ numbers_of is_declaration book → length (numbers_of (is_kind 24) book) ≤ most →
      All Below (numbers_of (is_kind 24) book) → Opened book names most (numbers_of (is_kind 24) book) (opened_all most book ds (started names most))
  all_opened ds e room below =
      let kept : keep is ds ≡ numbers_of (is_kind 24) book = ap (keep is) e ∙ constants_kept in
      subst (λ l. Opened book names most l (opened_all most book ds (started names most))) kept
      (opened_each ds [] (started names most) opened_none (omega (arith, ap length kept)) (subst (All Below) (sym kept) below))
