-- Registering the declarations of a book: the tables then stand for the names that the definitions begin with.
-- Assumes nothing.
use Rattle.std.proofs.Common.{◌≡◌, ℕ, suc, ◌+◌, ◌≤◌, ◌<◌, Bool, true, false, ◌&&◌, ◌||◌, cond, List, [], ◌∷◌, ◌++◌}
use Rattle.std.proofs.Common.{length, map, nat_lt, refl, sym, ap, ◌∙◌, arith, subst, append_assoc, append-nil}
use Rattle.std.proofs.Common.{length-append, length-set, get_or-set_same, get_or-set_other, Some, None, Option, Result}
use Rattle.std.proofs.Common.{◌⊎◌, inl, inr, eqb}
use Rattle.std.proofs.lemmas.Bool.{cases_eq}
use Rattle.std.proofs.lemmas.Bool.Decides.{nat_tests}
use Rattle.std.proofs.lemmas.List.{map-append}
use lib.ListN.{length-map}
use mathlib.Core.Bool.{or-true, or-false}
use mathlib.Core.Option.{Option as Maybe, some}
use Rattle.record.specs.declared.kind.Kind.{Kind}
use Rattle.record.specs.declared.kind.UnknownKind.{UnknownKind}
use Rattle.record.specs.declared.type_id.TypeId.{TypeId}
use Rattle.record.specs.Kind.{kind_from}
use Rattle.book.specs.Lists.{any, keep}
use Rattle.book.specs.Faults.{is_kind, is_declaration}
use Rattle.book.specs.Outline.{Book, ◌!◌}
use Rattle.types.specs.declared.names.Generic as generics
use Rattle.types.specs.Resolved.{entry}
use Rattle.types.specs.Numbers.{Generic, generic_at}
use Rattle.types.specs.Tables.{Tables, type_id, number_in, is_marked, stubbed}
use Rattle.types.specs.Registry.{marked, with_generic, with_type, with_types, with_alias, with_aliases}
use Rattle.types.specs.Registry.{parameter_behind}
use Rattle.types.specs.Stands.{option_of, generic_of}
use Rattle.types.proofs.Declares.{is_type, Declares, a_type, an_alias, ambiguous, another, declares}
use Rattle.types.proofs.Stubbing.{entry_new, entry_old}
use Rattle.types.proofs.Distinct.{is_in, Distinct, distinct_before, entered, entered_more, entered_new}
use Rattle.types.proofs.Parametered.{is_generic, no_parameter, a_parameter_is, generic_entry}

abbrev own : Option TypeId → Maybe ℕ
own o = option_of (λ (i : TypeId). i.0) o

-- some names have the numbers from 0 on
pub record Named (c : Tables) (xs : List ℕ) : Type 0 where
  pub numbers_long : length c.numbers ≡ c.bound
  pub next_is : c.next ≡ length xs
  pub numbers_are : (m : ℕ) → own (number_in c m) ≡ entry m (entered 0 xs)

-- one name more has the next
pub named_more : (c : Tables) (xs : List ℕ) (x : ℕ) → Named c xs → x < c.bound → is_in x xs ≡ false
    → length xs < 4294967295 → Named (stubbed c x) (xs ++ x ∷ [])
named_more c xs x h low new few =
    record {
      numbers_long = rw (inside, length-set c.numbers x (Some (type_id c.next))) h.numbers_long;
      next_is = omega (arith, h.next_is, length-append xs (x ∷ []));
      numbers_are = λ m. number m (cases_eq m x);
    }
  where
    inside : nat_lt x c.bound ≡ true
    inside = grind (arith, nat_tests)

    long : x < length c.numbers
    long = omega (arith, h.numbers_long)

    list : entered 0 (xs ++ x ∷ []) ≡ entered 0 xs ++ (x, length xs) ∷ []
    list = entered_more 0 xs x ∙ (let e : 0 + length xs ≡ length xs = omega arith
        in ap (λ (i : ℕ). entered 0 xs ++ (x, i) ∷ []) e)

    here : own (number_in (stubbed c x) x) ≡ entry x (entered 0 (xs ++ x ∷ []))
    here =
        rw (inside, get_or-set_same c.numbers x (Some (type_id c.next)) None long)
        (ap some h.next_is ∙ sym (ap (entry x) list ∙ entry_new x (entered 0 xs) (length xs) (entered_new x 0 xs new)))

    number : (m : ℕ) → (m ≡ x) ⊎ (m ≡ x → ⊥) → own (number_in (stubbed c x) m) ≡ entry m (entered 0 (xs ++ x ∷ []))
    number m (inl e) = subst (λ (i : ℕ). own (number_in (stubbed c x) i) ≡ entry i (entered 0 (xs ++ x ∷ [])))
        (sym e) here
    number m (inr e) =
        rw (inside, get_or-set_other c.numbers x m (Some (type_id c.next)) None e)
        (h.numbers_are m ∙ sym (ap (entry m) list ∙ entry_old m x (entered 0 xs) (length xs) e))

-- one name more is marked
marked_more : (c : Tables) (x : ℕ) → x < c.bound → length c.ambiguous ≡ c.bound → (m : ℕ)
    → is_marked (marked c x) m ≡ is_marked c m || eqb x m
marked_more c x low long m = by (cases_eq m x)
  where
    inside : nat_lt x c.bound ≡ true
    inside = grind (arith, nat_tests)

    there : x < length c.ambiguous
    there = omega (arith, long)

    here : is_marked (marked c x) x ≡ is_marked c x || eqb x x
    here =
        let same : eqb x x ≡ true = grind (arith, nat_tests) in
        rw (inside, get_or-set_same c.ambiguous x true false there, same, or-true) refl

    by : (m ≡ x) ⊎ (m ≡ x → ⊥) → is_marked (marked c x) m ≡ is_marked c m || eqb x m
    by (inl e) = subst (λ (i : ℕ). is_marked (marked c x) i ≡ is_marked c i || eqb x i) (sym e) here
    by (inr e) =
        let other : eqb x m ≡ false = grind (arith, nat_tests) in
        rw (inside, get_or-set_other c.ambiguous x m true false e, other, or-false (is_marked c m)) refl

module _ (book : Book) where
  abbrev pub names : List ℕ → List ℕ
  names l = map (λ n. (book ! n).a) l

  abbrev pub types_among : List ℕ → List ℕ
  types_among ns = keep (λ n. is_type (book ! n)) ns

  abbrev pub generics_among : List ℕ → List ℕ
  generics_among ns = keep (is_generic book) (keep (λ n. is_kind 23 (book ! n)) ns)

  abbrev pub is_mark : ℕ → ℕ → Bool
  is_mark m n = is_kind 25 (book ! n) && eqb (book ! n).a m

  abbrev pub Below : ℕ → Type 0
  Below bound = (n : ℕ) → is_declaration (book ! n) ≡ true → (book ! n).a < bound

  -- messages, unions and newtypes among some declarations are numbered behind the names xs, and ambiguous names are
  -- marked
  pub record Types (c : Tables) (ns xs : List ℕ) (t : Tables) : Type 0 where
    pub named : Named t (xs ++ names (types_among ns))
    pub marks : (m : ℕ) → is_marked t m ≡ is_marked c m || any (is_mark m) ns
    pub ambiguous_long : length t.ambiguous ≡ t.bound
    pub only : t ≡ record c { next = t.next; numbers = t.numbers; ambiguous = t.ambiguous }

  or_first : (a b d : Bool) → (a || b) || d ≡ a || elim b [ true ↦ true | false ↦ d ]
  or_first true b d = refl
  or_first false true d = refl
  or_first false false d = refl

  abbrev Later : List ℕ → Type 0
  Later ns = (xs : List ℕ) (c : Tables) → Below c.bound → Named c xs → length c.ambiguous ≡ c.bound
      → Distinct (xs ++ names (types_among ns))
      → length (xs ++ names (types_among ns)) < 4294967295 → Types c ns xs (with_types book ns c)

  pub types_law : (ns : List ℕ) → Later ns
  unfolding with_types keep any
  types_law [] xs c below h long d few = record {
    named = subst (Named c) (sym (append-nil xs)) h;
    marks = λ m. sym (or-false (is_marked c m));
    ambiguous_long = long;
    only = refl;
  }
  types_law (n ∷ ns) xs c below h long d few =
      go (kind_from (book ! n).kind) (declares (book ! n))
      (λ xs c below h long d few. types_law ns xs c below h long d few)
    where
      x : ℕ
      x = (book ! n).a

      kept : (b : Bool) → is_type (book ! n) ≡ b → types_among (n ∷ ns) ≡ cond b (n ∷ types_among ns) (types_among ns)
      kept b e = ap (λ (b : Bool). cond b (n ∷ types_among ns) (types_among ns)) e

      unmarked : is_kind 25 (book ! n) ≡ false → (m : ℕ) → any (is_mark m) (n ∷ ns) ≡ any (is_mark m) ns
      unmarked e m = ap (λ (b : Bool). elim (b && eqb x m) [ true ↦ true | false ↦ any (is_mark m) ns ]) e

      -- the record changes nothing
      same : (k : Result Kind UnknownKind) → is_type (book ! n) ≡ false → is_kind 25 (book ! n) ≡ false
          → with_type (book ! n) k c ≡ c
          → Later ns → Types c (n ∷ ns) xs (with_types book ns (with_type (book ! n) k c))
      same k p r is later =
          let e : names (types_among (n ∷ ns)) ≡ names (types_among ns) = ap names (kept false p) in
          let t : Tables = with_types book ns c in
          let ih : Types c ns xs t = later xs c below h long (subst (λ (l : List ℕ). Distinct (xs ++ l)) e d)
          (subst (λ (l : List ℕ). length (xs ++ l) < 4294967295) e few) in
          subst (λ (s : Tables). Types c (n ∷ ns) xs (with_types book ns s)) (sym is)
          (record {
            named = subst (λ (l : List ℕ). Named t (xs ++ l)) (sym e) ih.named;
            marks = λ m. ih.marks m ∙ ap (λ (b : Bool). is_marked c m || b) (sym (unmarked r m));
            ambiguous_long = ih.ambiguous_long;
            only = ih.only;
          })

      go : (k : Result Kind UnknownKind) → Declares (book ! n) k → Later ns
          → Types c (n ∷ ns) xs (with_types book ns (with_type (book ! n) k c))
      go k (a_type p q r dec with_is alias_is) later =
          let e : names (types_among (n ∷ ns)) ≡ x ∷ names (types_among ns) = ap names (kept true p) in
          let d' : Distinct (xs ++ x ∷ names (types_among ns)) = subst (λ (l : List ℕ). Distinct (xs ++ l)) e d in
          let few' : length (xs ++ x ∷ names (types_among ns)) < 4294967295 = subst
          (λ (l : List ℕ). length (xs ++ l) < 4294967295) e few in
          let assoc : (xs ++ x ∷ []) ++ names (types_among ns)
          ≡ xs ++ x ∷ names (types_among ns) = append_assoc xs (x ∷ []) (names (types_among ns)) in
          let new : Named (stubbed c x) (xs ++ x ∷ []) =
          named_more c xs x h (below n dec) (distinct_before xs x (names (types_among ns)) d')
          (omega (arith, length-append xs (x ∷ names (types_among ns)))) in
          let t : Tables = with_types book ns (stubbed c x) in
          let ih : Types (stubbed c x) ns (xs ++ x ∷ []) t =
          later (xs ++ x ∷ []) (stubbed c x) below new long (subst Distinct (sym assoc) d')
          (subst (λ (l : List ℕ). length l < 4294967295) (sym assoc) few') in
          subst (λ (s : Tables). Types c (n ∷ ns) xs (with_types book ns s)) (sym (with_is c))
          (record {
            named = subst (Named t) (assoc ∙ ap (λ (l : List ℕ). xs ++ l) (sym e)) ih.named;
            marks = λ m. ih.marks m ∙ ap (λ (b : Bool). is_marked c m || b) (sym (unmarked r m));
            ambiguous_long = ih.ambiguous_long;
            only = ih.only;
          })
      go k (an_alias p q r dec with_is alias_is) later = same k p r (with_is c) later
      go k (another p q r with_is alias_is) later = same k p r (with_is c) later
      go k (ambiguous p q r dec with_is alias_is) later =
          let e : names (types_among (n ∷ ns)) ≡ names (types_among ns) = ap names (kept false p) in
          let t : Tables = with_types book ns (marked c x) in
          let inside : nat_lt x c.bound ≡ true = let low : x < c.bound = below n dec in grind (arith, nat_tests) in
          let long' : length (marked c x).ambiguous ≡ c.bound = rw (inside, length-set c.ambiguous x true) long in
          let ih : Types (marked c x) ns xs t =
          later xs (marked c x) below
          (record { numbers_long = h.numbers_long; next_is = h.next_is; numbers_are = h.numbers_are }) long'
          (subst (λ (l : List ℕ). Distinct (xs ++ l)) e d)
          (subst (λ (l : List ℕ). length (xs ++ l) < 4294967295) e few) in
          let here : (m : ℕ) → any (is_mark m) (n ∷ ns) ≡ elim (eqb x m) [ true ↦ true | false ↦ any (is_mark m) ns ] =
          λ m. ap (λ (b : Bool). elim (b && eqb x m) [ true ↦ true | false ↦ any (is_mark m) ns ]) r in
          subst (λ (s : Tables). Types c (n ∷ ns) xs (with_types book ns s)) (sym (with_is c))
          (record {
            named = subst (λ (l : List ℕ). Named t (xs ++ l)) (sym e) ih.named;
            marks = λ m.
                ih.marks m ∙ ap (λ (b : Bool). b || any (is_mark m) ns) (marked_more c x (below n dec) long m)
                ∙ or_first (is_marked c m) (eqb x m) (any (is_mark m) ns)
                ∙ ap (λ (b : Bool). is_marked c m || b) (sym (here m));
            ambiguous_long = ih.ambiguous_long;
            only = ih.only;
          })

  -- generic aliases among some declarations are numbered behind the names xs, and listed behind gs
  pub record Generics (c : Tables) (ns xs : List ℕ) (gs : List Generic) (t : Tables) : Type 0 where
    pub named : Named t (xs ++ names (generics_among ns))
    pub listed : map generic_of t.generics ≡ gs ++ map (generic_at book) (generics_among ns)
    pub only : t ≡ record c { next = t.next; numbers = t.numbers; generics = t.generics }

  abbrev GenericsLater : List ℕ → Type 0
  GenericsLater ns = (xs : List ℕ) (gs : List Generic) (c : Tables) → Below c.bound → Named c xs → map generic_of c.generics ≡ gs
      → Distinct (xs ++ names (generics_among ns))
      → length (xs ++ names (generics_among ns)) < 4294967295 → length gs + length (generics_among ns) ≤ c.room
      → Generics c ns xs gs (with_aliases book ns c)

  pub generics_law : (ns : List ℕ) → GenericsLater ns
  unfolding with_aliases keep
  generics_law [] xs gs c below h l d few room = record {
    named = subst (Named c) (sym (append-nil xs)) h;
    listed = l ∙ sym (append-nil gs);
    only = refl;
  }
  generics_law (n ∷ ns) xs gs c below h l d few room =
      go (kind_from (book ! n).kind) (declares (book ! n)) (parameter_behind book n) refl
      (λ xs gs c below h l d few room. generics_law ns xs gs c below h l d few room)
    where
      x : ℕ
      x = (book ! n).a

      kept : (a b : Bool) → is_kind 23 (book ! n) ≡ a → is_generic book n ≡ b
          → generics_among (n ∷ ns) ≡ cond a (cond b (n ∷ generics_among ns) (generics_among ns)) (generics_among ns)
      kept true b e f = ap (λ (v : Bool). keep (is_generic book)
          (cond v (n ∷ keep (λ n. is_kind 23 (book ! n)) ns) (keep (λ n. is_kind 23 (book ! n)) ns))) e
          ∙ ap (λ (v : Bool). cond v (n ∷ generics_among ns) (generics_among ns)) f
      kept false b e f = ap (λ (v : Bool). keep (is_generic book)
          (cond v (n ∷ keep (λ n. is_kind 23 (book ! n)) ns) (keep (λ n. is_kind 23 (book ! n)) ns))) e

      -- the record changes nothing
      same : (s : Tables) → generics_among (n ∷ ns) ≡ generics_among ns → s ≡ c → GenericsLater ns
          → Generics c (n ∷ ns) xs gs (with_aliases book ns s)
      same s e is later =
          let t : Tables = with_aliases book ns c in
          let ih : Generics c ns xs gs t =
          later xs gs c below h l (subst (λ (l : List ℕ). Distinct (xs ++ names l)) e d)
          (subst (λ (l : List ℕ). length (xs ++ names l) < 4294967295) e few)
          (subst (λ (l : List ℕ). length gs + length l ≤ c.room) e room) in
          subst (λ (s : Tables). Generics c (n ∷ ns) xs gs (with_aliases book ns s)) (sym is)
          (record {
            named = subst (λ (l : List ℕ). Named t (xs ++ names l)) (sym e) ih.named;
            listed = ih.listed ∙ ap (λ (l : List ℕ). gs ++ map (generic_at book) l) (sym e);
            only = ih.only;
          })

      one_more : is_declaration (book ! n) ≡ true → (p : ℕ) → generics_among (n ∷ ns) ≡ n ∷ generics_among ns
          → generic_at book n ≡ record { parameter = p; target = (book ! n).b }
          → GenericsLater ns → Generics c (n ∷ ns) xs gs
          (with_aliases book ns (with_generic c x (record { parameter = p; target = (book ! n).b })))
      one_more dec p e entry_is later =
          let g : generics.Generic = record { parameter = p; target = (book ! n).b } in
          let c' : Tables = with_generic c x g in
          let t : Tables = with_aliases book ns c' in
          let gs' : List Generic = gs ++ generic_of g ∷ [] in
          let d' : Distinct (xs ++ x ∷ names (generics_among ns)) = subst
          (λ (l : List ℕ). Distinct (xs ++ names l)) e d in
          let few' : length (xs ++ x ∷ names (generics_among ns)) < 4294967295 = subst
          (λ (l : List ℕ). length (xs ++ names l) < 4294967295) e few in
          let room' : length gs + suc (length (generics_among ns)) ≤ c.room = subst
          (λ (l : List ℕ). length gs + length l ≤ c.room) e room in
          let assoc : (xs ++ x ∷ []) ++ names (generics_among ns)
          ≡ xs ++ x ∷ names (generics_among ns) = append_assoc xs (x ∷ []) (names (generics_among ns)) in
          let named : Named (stubbed c x) (xs ++ x ∷ []) =
          named_more c xs x h (below n dec) (distinct_before xs x (names (generics_among ns)) d')
          (omega (arith, length-append xs (x ∷ names (generics_among ns)))) in
          let many : length c.generics ≡ length gs = sym (length-map c.generics generic_of)
          ∙ ap (λ (l : List Generic). length l) l in
          let inside : nat_lt (length c.generics) c.room
          ≡ true = let low : length c.generics < c.room = omega (arith, many)
          in grind (arith, nat_tests) in
          let listed : map generic_of c'.generics ≡ gs' =
          rw (inside, map-append generic_of c.generics (g ∷ [])) (ap (λ (l : List Generic). l ++ generic_of g ∷ []) l) in
          let ih : Generics c' ns (xs ++ x ∷ []) gs' t =
          later (xs ++ x ∷ []) gs' c' below
          (record { numbers_long = named.numbers_long; next_is = named.next_is; numbers_are = named.numbers_are }) listed
          (subst Distinct (sym assoc) d') (subst (λ (l : List ℕ). length l < 4294967295) (sym assoc) few')
          (omega (arith, room', length-append gs (generic_of g ∷ []))) in
          let one : generic_of g ≡ generic_at book n = sym entry_is in
          record {
            named = subst (Named t) (assoc ∙ ap (λ (l : List ℕ). xs ++ names l) (sym e)) ih.named;
            listed =
                ih.listed ∙ append_assoc gs (generic_of g ∷ []) (map (generic_at book) (generics_among ns))
                ∙ ap (λ (y : Generic). gs ++ y ∷ map (generic_at book) (generics_among ns)) one
                ∙ ap (λ (l : List ℕ). gs ++ map (generic_at book) l) (sym e);
            only = ih.only;
          }

      go : (k : Result Kind UnknownKind) → Declares (book ! n) k → (p : Option ℕ) → parameter_behind book n ≡ p
          → GenericsLater ns
          → Generics c (n ∷ ns) xs gs (with_aliases book ns (with_alias (book ! n) k p c))
      go k (a_type p q r dec with_is alias_is) o is later = same (with_alias (book ! n) k o c)
          (kept false (is_generic book n) q refl) (alias_is o c) later
      go k (ambiguous p q r dec with_is alias_is) o is later = same (with_alias (book ! n) k o c)
          (kept false (is_generic book n) q refl) (alias_is o c) later
      go k (another p q r with_is alias_is) o is later = same (with_alias (book ! n) k o c)
          (kept false (is_generic book n) q refl) (alias_is o c) later
      go k (an_alias p q r dec with_is alias_is) None is later =
          same (with_alias (book ! n) k None c) (kept true false q (no_parameter book n is)) (alias_is None c) later
      go k (an_alias p q r dec with_is alias_is) (Some y) is later =
          subst (λ (s : Tables). Generics c (n ∷ ns) xs gs (with_aliases book ns s)) (sym (alias_is (Some y) c))
          (one_more dec y (kept true true q (a_parameter_is book n y is)) (generic_entry book n y is) later)
