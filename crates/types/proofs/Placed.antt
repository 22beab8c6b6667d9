-- The records of a type, and where they stand among the results.
-- Assumes nothing.
use Rattle.std.proofs.Common.{◌≡◌, ℕ, suc, ◌+◌, List, [], ◌∷◌, ◌++◌, length, take, drop, refl, sym, ap, ◌∙◌, arith}
use Rattle.std.proofs.Common.{subst, append_assoc, length-append, length-drop, take-append-drop, Some}
use Rattle.std.specs.Prelude.{slice_get}
use Rattle.std.proofs.lemmas.List.{take-append-le, drop-append-le, take_at, drop_at, length-take-le}
use Rattle.record.specs.declared.Record.{Record}
use Rattle.types.specs.Resolved.{ResolvedType, primitive, sub_byte, semantic, named, one_child, two_children}
use Rattle.types.specs.Resolved.{inline_bits}
use Rattle.types.specs.Records.{below, type_records, StandsAt}
use Rattle.types.proofs.TypeRecords.{type_has_records, root_record}

-- the records before the root
abbrev pub records_below : ℕ → ResolvedType → List Record
records_below n (primitive p) = []
records_below n (sub_byte p bits) = []
records_below n (semantic p) = []
records_below n (named k) = []
records_below n (one_child p size t) = type_records n t
records_below n (two_children p l r) = type_records n l ++ type_records (suc (n + below l)) r
records_below n (inline_bits k) = []

pub root_behind : (n : ℕ) (t : ResolvedType) → type_records n t ≡ records_below n t ++ root_record n t ∷ []
unfolding type_records root_record
root_behind n (primitive p) = refl
root_behind n (sub_byte p bits) = refl
root_behind n (semantic p) = refl
root_behind n (named k) = refl
root_behind n (one_child p size t) = refl
root_behind n (two_children p l r) = refl
root_behind n (inline_bits k) = refl

pub length_below : (n : ℕ) (t : ResolvedType) → length (records_below n t) ≡ below t
length_below n t =
    omega (
      arith,
      ap (λ (x : List Record). length x) (root_behind n t),
      length-append (records_below n t) (root_record n t ∷ []),
      type_has_records n t,
    )

-- what stands there, and what is before and behind it
pub record Parts (rs : List Record) (first : ℕ) (t : ResolvedType) : Type 0 where
  pub before : List Record
  pub after : List Record
  pub there : rs ≡ before ++ (type_records first t ++ after)
  pub first_is : length before ≡ first

pub parts : (rs : List Record) (first root : ℕ) (t : ResolvedType) → StandsAt rs first root t → Parts rs first t
parts rs first root t h = record {
  before = take first rs;
  after = drop (suc (below t)) (drop first rs);
  there =
      sym (take-append-drop first rs)
      ∙ ap (λ (x : List Record). take first rs ++ x)
      (sym (take-append-drop (suc (below t)) (drop first rs))
      ∙ ap (λ (x : List Record). x ++ drop (suc (below t)) (drop first rs)) h.there);
  first_is = length-take-le first rs (omega (arith, h.root_is, h.inside));
}

pub standing : (rs before after : List Record) (first : ℕ) (t : ResolvedType)
    → rs ≡ before ++ (type_records first t ++ after) → length before ≡ first
    → StandsAt rs first (first + below t) t
standing rs before after first t e f = record {
  root_is = refl;
  inside =
      omega (
        arith,
        f,
        ap (λ (x : List Record). length x) e,
        length-append before (type_records first t ++ after),
        length-append (type_records first t) after,
        type_has_records first t,
      );
  there =
      ap (λ (x : List Record). take (suc (below t)) (drop first x)) e
      ∙ ap (take (suc (below t))) (drop_at before (type_records first t ++ after) first f)
      ∙ take_at (type_records first t) after (suc (below t)) (type_has_records first t);
}

-- what stands among the results stays there
pub stands_on : (rs xs : List Record) (first root : ℕ) (t : ResolvedType) → StandsAt rs first root t
    → StandsAt (rs ++ xs) first root t
stands_on rs xs first root t h = record {
  root_is = h.root_is;
  inside = omega (arith, h.inside, length-append rs xs);
  there =
      ap (take (suc (below t))) (drop-append-le first rs xs (omega (arith, h.root_is, h.inside)))
      ∙ take-append-le (suc (below t)) (drop first rs) xs (omega (arith, length-drop first rs, h.root_is, h.inside))
      ∙ h.there;
}

pub get_there : (xs : List Record) (y : Record) (zs : List Record) (n : ℕ) → length xs ≡ n
    → slice_get (xs ++ y ∷ zs) n ≡ Some y
get_there xs y zs n h = subst (λ (m : ℕ). slice_get (xs ++ y ∷ zs) m ≡ Some y) h (here xs)
  where
    here : (xs : List Record) → slice_get (xs ++ y ∷ zs) (length xs) ≡ Some y
    here [] = refl
    here (x ∷ xs) = here xs

-- the root of a type that stands there
pub root_there : (rs : List Record) (first root : ℕ) (t : ResolvedType) → StandsAt rs first root t
    → slice_get rs root ≡ Some (root_record first t)
root_there rs first root t h =
    let p : Parts rs first t = parts rs first root t h in
    let here : rs ≡ (p.before ++ records_below first t) ++ root_record first t ∷ p.after =
    p.there ∙ ap (λ (x : List Record). p.before ++ (x ++ p.after)) (root_behind first t) ∙ simp append_assoc in
    ap (λ (x : List Record). slice_get x root) here
    ∙ get_there (p.before ++ records_below first t) (root_record first t) p.after root
    (omega (arith, p.first_is, h.root_is, length-append p.before (records_below first t), length_below first t))
