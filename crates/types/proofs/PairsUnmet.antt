-- The records whose pairs were not met: at least one fewer for each new pair, so that there is room for each where
-- there is room for all of them.
-- Assumes nothing.
use Rattle.std.proofs.Common.{◌≡◌, ℕ, zero, suc, ◌≤◌, Bool, true, false, not, ◌&&◌, ◌||◌, cond, List, [], ◌∷◌, ◌++◌, length}
use Rattle.std.proofs.Common.{refl, sym, ap, ◌∙◌, arith, subst, eqb, eq-eqb, true≢false}
use mathlib.Core.Option.{some, none, map}
use Rattle.record.specs.declared.Record.{Record}
use Rattle.book.specs.Lists.{any, find, keep}
use Rattle.book.specs.Faults.{record_of, is_kind}
use Rattle.book.specs.Outline.{Book, ◌!◌}
use Rattle.book.proofs.Lists.{any_append, any_one}
use Rattle.types.specs.Resolved.{Names, pair_number}
use Rattle.types.specs.Stands.{is_unmet}

module _ (f g : Record → Bool) (more : (r : Record) → f r ≡ true → g r ≡ true) where
  as_many : (rs : List Record) → length (keep f rs) ≤ length (keep g rs)
  unfolding keep
  as_many [] = omega arith
  as_many (r ∷ rs) = go (f r) (g r) (more r) (as_many rs)
    where
      go : (a b : Bool) → (a ≡ true → b ≡ true) → length (keep f rs) ≤ length (keep g rs)
          → length (cond a (r ∷ keep f rs) (keep f rs)) ≤ length (cond b (r ∷ keep g rs) (keep g rs))
      go true true h less = omega arith
      go true false h less = absurd (true≢false (sym (h refl)))
      go false true h less = omega arith
      go false false h less = less

  -- where one is kept that was not, there are more
  one_more : (rs : List Record) (m : ℕ) → (g (record_of [] m) ≡ true → ⊥) → f (record_of rs m) ≡ false → g (record_of rs m) ≡ true
      → suc (length (keep f rs)) ≤ length (keep g rs)
  unfolding keep record_of
  one_more [] m stands_not a b = absurd (stands_not b)
  one_more (r ∷ rs) zero stands_not a b = go (f r) (g r) a b (as_many rs)
    where
      go : (a b : Bool) → a ≡ false → b ≡ true → length (keep f rs) ≤ length (keep g rs)
          → suc (length (cond a (r ∷ keep f rs) (keep f rs))) ≤ length (cond b (r ∷ keep g rs) (keep g rs))
      go true b p q less = absurd (true≢false p)
      go false true p q less = omega arith
      go false false p q less = absurd (true≢false (sym q))
  one_more (r ∷ rs) (suc m) stands_not a b = go (f r) (g r) (more r) (one_more rs m stands_not a b)
    where
      go : (a b : Bool) → (a ≡ true → b ≡ true) → suc (length (keep f rs)) ≤ length (keep g rs)
          → suc (length (cond a (r ∷ keep f rs) (keep f rs))) ≤ length (cond b (r ∷ keep g rs) (keep g rs))
      go true true h less = omega arith
      go true false h less = absurd (true≢false (sym (h refl)))
      go false true h less = omega arith
      go false false h less = less

neither : (k a b : Bool) → k && not (a || b) ≡ true → k && not a ≡ true
neither true true b e = absurd (true≢false (sym e))
neither true false b e = refl
neither false a b e = absurd (true≢false (sym e))

-- what is unmet with a pair more was so before
unmet_before : (ps : List ((ℕ × ℕ) × ℕ)) (p : (ℕ × ℕ) × ℕ) (r : Record) → is_unmet (ps ++ p ∷ []) r ≡ true
    → is_unmet ps r ≡ true
unmet_before ps p r e =
    let test : (ℕ × ℕ) × ℕ → Bool = λ x. eqb x.0.0 r.a && eqb x.0.1 r.b in
    neither (is_kind 5 r) (any test ps) (any test (p ∷ []))
    (sym (ap (λ (b : Bool). is_kind 5 r && not b) (any_append test ps (p ∷ []))) ∙ e)

-- what is not found is not there
not_found : (test : (ℕ × ℕ) × ℕ → Bool) (ps : List ((ℕ × ℕ) × ℕ)) → map (λ (x : (ℕ × ℕ) × ℕ). x.1) (find test ps) ≡ none
    → any test ps ≡ false
unfolding find any
not_found test [] e = refl
not_found test (p ∷ ps) e = go (test p) (λ h. not_found test ps h) e
  where
    go : (b : Bool) → (map (λ (x : (ℕ × ℕ) × ℕ). x.1) (find test ps) ≡ none → any test ps ≡ false)
        → map (λ (x : (ℕ × ℕ) × ℕ). x.1) (elim b [ true ↦ some p | false ↦ find test ps ]) ≡ none
        → elim b [ true ↦ true | false ↦ any test ps ] ≡ false
    go true h e = cc
    go false h e = h e

-- record m is a qualified name with this pair
pub record IsPair (book : Book) (m space name : ℕ) : Type 0 where
  pub kind : is_kind 5 (book ! m) ≡ true
  pub space_is : (book ! m).a ≡ space
  pub name_is : (book ! m).b ≡ name

both : (a b : Bool) → a ≡ true → b ≡ true → a && b ≡ true
both true b p q = q
both false b p q = absurd (true≢false (sym p))

or_true : (b : Bool) → b || true ≡ true
or_true true = refl
or_true false = refl

module _ (book : Book) (k : Names) (m space name number : ℕ) (p : IsPair book m space name) where
  abbrev pair : (ℕ × ℕ) × ℕ
  pair = ((space, name), number)

  abbrev test : (ℕ × ℕ) × ℕ → Bool
  test x = eqb x.0.0 (book ! m).a && eqb x.0.1 (book ! m).b

  unmet_so_far : pair_number k space name ≡ none → is_unmet k.pairs (book ! m) ≡ true
  unfolding pair_number
  unmet_so_far free =
      ap (λ (b : Bool). b && not (any test k.pairs)) p.kind
      ∙ ap not
      (subst (λ (a : ℕ). any (λ (x : (ℕ × ℕ) × ℕ). eqb x.0.0 a && eqb x.0.1 (book ! m).b) k.pairs ≡ false) (sym p.space_is)
      (subst (λ (b : ℕ). any (λ (x : (ℕ × ℕ) × ℕ). eqb x.0.0 space && eqb x.0.1 b) k.pairs ≡ false) (sym p.name_is)
      (not_found (λ (x : (ℕ × ℕ) × ℕ). eqb x.0.0 space && eqb x.0.1 name) k.pairs free)))

  last_met : any test (pair ∷ []) ≡ true
  last_met =
      any_one test pair
      ∙ both (eqb space (book ! m).a) (eqb name (book ! m).b) (eq-eqb space (book ! m).a (sym p.space_is))
      (eq-eqb name (book ! m).b (sym p.name_is))

  met_behind : is_unmet (k.pairs ++ pair ∷ []) (book ! m) ≡ false
  met_behind =
      ap (λ (b : Bool). b && not (any test (k.pairs ++ pair ∷ []))) p.kind
      ∙ ap not
      (any_append test k.pairs (pair ∷ [])
      ∙ ap (λ (b : Bool). any test k.pairs || b) last_met
      ∙ or_true (any test k.pairs))

  no_record : is_unmet k.pairs (record_of [] m) ≡ true → ⊥
  unfolding record_of
  no_record e = true≢false (sym e)

  -- a pair that has no number, and is that of a record: with it there is a record fewer that is unmet
  pub one_unmet : pair_number k space name ≡ none
      → suc (length (keep (is_unmet (k.pairs ++ pair ∷ [])) book.records)) ≤ length (keep (is_unmet k.pairs) book.records)
  one_unmet free =
      one_more (is_unmet (k.pairs ++ pair ∷ [])) (is_unmet k.pairs) (unmet_before k.pairs pair) book.records m no_record
      met_behind (unmet_so_far free)
