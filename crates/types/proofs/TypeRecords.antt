-- The result records of a resolved type: how many they are, a copy of them, and that of the root.
-- Assumes nothing.
use Rattle.std.proofs.Common.{◌≡◌, ℕ, suc, ◌+◌, [], ◌∷◌, ◌++◌, length, map, refl, sym, ap, ap₂, ◌∙◌, arith}
use Rattle.std.proofs.Common.{length-append}
use Rattle.std.proofs.lemmas.List.{map-append}
use Rattle.record.specs.declared.Record.{Record}
use Rattle.record.specs.Named.{named_record}
use Rattle.types.specs.Resolved.{ResolvedType, primitive, sub_byte, semantic, named, one_child, two_children}
use Rattle.types.specs.Resolved.{inline_bits}
use Rattle.types.specs.Step.{bare}
use Rattle.types.specs.Records.{below, type_records, shifted, TypeHasRecords, CopyIsShifted}

pub type_has_records : TypeHasRecords
unfolding type_records below
type_has_records n (primitive p) = refl
type_has_records n (sub_byte p bits) = refl
type_has_records n (semantic p) = refl
type_has_records n (named k) = refl
type_has_records n (one_child p size t) =
    let a : length (type_records n t) ≡ suc (below t) = type_has_records n t in
    length-append (type_records n t) _ ∙ omega arith
type_has_records n (two_children p l r) =
    let m : ℕ = suc (n + below l) in
    let a : length (type_records n l) ≡ suc (below l) = type_has_records n l in
    let b : length (type_records m r) ≡ suc (below r) = type_has_records m r in
    let both : length (type_records n l ++ type_records m r) ≡ length (type_records n l) + length (type_records m r) =
    length-append (type_records n l) (type_records m r) in
    length-append (type_records n l ++ type_records m r) _ ∙ omega arith
type_has_records n (inline_bits k) = refl

pub copy_is_shifted : CopyIsShifted
unfolding type_records shifted
copy_is_shifted n by (primitive p) = refl
copy_is_shifted n by (sub_byte p bits) = refl
copy_is_shifted n by (semantic p) = refl
copy_is_shifted n by (named k) = refl
copy_is_shifted n by (one_child p size t) =
    let e : n + by + below t ≡ n + below t + by = omega arith in
    ap₂ (λ l (a : ℕ). l ++ (bare 7 p a 0 0 size ∷ [])) (copy_is_shifted n by t) e
    ∙ sym (map-append (shifted by) (type_records n t) (bare 7 p (n + below t) 0 0 size ∷ []))
copy_is_shifted n by (two_children p l r) =
    let m : ℕ = suc (n + below l) in
    let e : n + by + below l ≡ n + below l + by = omega arith in
    let d : suc (n + by + below l) ≡ m + by = omega arith in
    let g : suc (n + by + below l) + below r ≡ m + below r + by = omega arith in
    (λ i. copy_is_shifted n by l i ++ type_records (d i) r ++ (bare 8 p (e i) (g i) 0 0 ∷ []))
    ∙ ap (λ t. map (shifted by) (type_records n l) ++ t ++ (bare 8 p (n + below l + by) (m + below r + by) 0 0 ∷ []))
    (copy_is_shifted m by r)
    ∙ ap (λ t. t ++ (bare 8 p (n + below l + by) (m + below r + by) 0 0 ∷ []))
    (sym (map-append (shifted by) (type_records n l) (type_records m r)))
    ∙ sym (map-append (shifted by) (type_records n l ++ type_records m r)
    (bare 8 p (n + below l) (m + below r) 0 0 ∷ []))
copy_is_shifted n by (inline_bits k) = refl

-- the record of a type's root, the first record of the type being record n
unfoldable pub root_record : ℕ → ResolvedType → Record
root_record n (primitive p) = bare 1 p 0 0 0 0
root_record n (sub_byte p bits) = bare 2 p bits 0 0 0
root_record n (semantic p) = bare 3 p 0 0 0 0
root_record n (named k) = named_record k
root_record n (one_child p size t) = bare 7 p (n + below t) 0 0 size
root_record n (two_children p l r) = bare 8 p (n + below l) (suc (n + below l) + below r) 0 0
root_record n (inline_bits k) = bare 9 0 k 0 0 0
