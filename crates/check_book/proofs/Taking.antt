-- What is read into the front of a room, of a reader whose bytes may be known.
use Rattle.std.proofs.Common.{◌≡◌, ℕ, ◌+◌, ◌<◌, ◌≤◌, List, [], ◌++◌, ◌∙◌, take, length, Option, Some, None, refl, sym, ap, subst, append-nil}
use Rattle.std.specs.Prelude.{IfSome}
use Rattle.std.specs.Io.KnownBytes.{Consumes, IsAtEnd}
use Rattle.std.proofs.KnownBytes.{Consumes-trans, Consumes-whole}
use Rattle.std.proofs.Math.Seq.{take-append-add, take-append_seam}
use lib.Seq.{take_at}
use Rattle.std.proofs.lemmas.List.{take_all, take-append-le}

-- one read more: the first n bytes of a part, behind those at the front
pub read_more :
    (a b c : Option (List ℕ)) (front part rest : List ℕ) (at n : ℕ) →
    length front ≡ at → n ≤ length part → Consumes a b front → Consumes b c (take n part) →
    Consumes a c (take (at + n) (front ++ (part ++ rest)))
read_more a b c front part rest at n long few p q =
    let read : take n (part ++ rest) ≡ take n part = take-append-le n part rest few in
    let seam : take (length front + n) (front ++ (part ++ rest)) ≡ front ++ take n part =
    take-append-add front (part ++ rest) n ∙ ap (λ (l : List ℕ). front ++ l) read in
    let e : take (at + n) (front ++ (part ++ rest)) ≡ front ++ take n part =
    subst (λ (k : ℕ). take (k + n) (front ++ (part ++ rest)) ≡ front ++ take n part) long seam in
    subst (Consumes a c) (sym e) (Consumes-trans a b c front (take n part) p q)

-- a reader that is at its end gave all
pub ended :
    (known left : Option (List ℕ)) (bytes : List ℕ) (most : ℕ) →
    Consumes known left bytes → IsAtEnd left → length bytes ≤ most → IfSome known (λ input. bytes ≡ take most input)
ended known left bytes most p q h =
    Consumes-whole known left bytes (λ (input : List ℕ). bytes ≡ take most input) p q (sym (take_all most bytes h))

-- a read that gave nothing into a part that is not empty: what stands at the front is all
pub stopped :
    (a b c : Option (List ℕ)) (front part rest : List ℕ) (at n most : ℕ) →
    length front ≡ at → n ≡ 0 → 0 < length part → at ≤ most → Consumes a b front → Consumes b c (take n part) →
    (n ≡ 0 → 0 < length part → IsAtEnd c) → IfSome a (λ input. take at (front ++ (part ++ rest)) ≡ take most input)
stopped a b c front part rest at n most long none room fits p q end =
    let gave : take n part ≡ [] = subst (λ (k : ℕ). take k part ≡ []) (sym none) refl in
    let all : Consumes a c front =
    subst (Consumes a c) (ap (λ (l : List ℕ). front ++ l) gave ∙ append-nil front) (Consumes-trans a b c front (take n part) p q) in
    let kept : take at (front ++ (part ++ rest)) ≡ front = take_at front (part ++ rest) at long in
    subst (λ (l : List ℕ). IfSome a (λ (input : List ℕ). l ≡ take most input)) (sym kept)
    (ended a c front most all (end none room) (subst (λ (k : ℕ). k ≤ most) (sym long) fits))

-- a full room holds as much as it can
pub filled :
    (known left : Option (List ℕ)) (bytes : List ℕ) (most : ℕ) →
    Consumes known left bytes → length bytes ≡ most → IfSome known (λ input. bytes ≡ take most input)
filled None left bytes most p h = tt
filled (Some x) None bytes most p h = absurd p
filled (Some x) (Some y) bytes most p h =
    subst (λ (k : ℕ). bytes ≡ take k x) h (sym (ap (take (length bytes)) p ∙ take-append_seam bytes y))
