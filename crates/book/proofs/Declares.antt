-- Which names are declared.
-- Assumes nothing.
use Prim.Native.Nat.{ℕ, zero, suc, ◌-◌, ◌^◌, ◌≤◌, ◌<◌}
use Rattle.std.specs.Prelude.{Option, Some, None, bit_and, bit_or}
use Rattle.std.proofs.lemmas.Nat.{and_or_self, and_or_apart, pow_apart, and_le_l}
use mathlib.Core.Bool.{Bool, true, false, cond, not, ◌&&◌, ◌||◌, false≢true, true≢false, and-true, or-true, or-false}
use mathlib.Core.List.{List, Memᴰ}
use mathlib.Core.Path.{◌≡◌, refl, sym, ap, ◌∙◌, subst}
use native.Mathlib.Decide.{ℕ_discrete}
use native.Mathlib.Nat.{one-le-pow}
use native.Mathlib.Omega.{arith}
use lib.Dec.{lit≤, leb, eqb, eqb-zero-suc, eqb-suc-zero}
use lib.ListN.{length, take, set, get_or, replicate, length-set, length-replicate, get_or-replicate}
use lib.Seq.{get_or-set_same, get_or-set_other}
use borrow.Author.Tests.{ltb-true, leb-true, eqb-true, le-leb, eq-eqb, ne_eqb}
use Rattle.record.specs.declared.Record.{Record}
use Rattle.record.specs.declared.kind.Kind.{Kind}
use Rattle.record.specs.declared.kind.Kind.TheVariants.{Message}
use Rattle.record.specs.Kind.{code_of}
use Rattle.book.specs.declared.names.NameSet.{NameSet}
use Rattle.book.specs.declared.names.NameSet.TheVariants as sets
use Rattle.book.specs.Lists.{All, any, keep}
use Rattle.book.specs.Shape.{table, name, allows, well_shaped}
use Rattle.book.specs.Faults.{record_of, name_set, name_fault}
use Rattle.book.specs.Tables.{set_bit, has_bit, set_of, bit_of, Names}
use Rattle.book.specs.Trees.{WellFormed}
use Rattle.book.proofs.Lists.{either}
use Rattle.book.proofs.Members.{keep_mem, mem_any, of_all, at_mem_take}
use Rattle.book.proofs.Trees.{both_so, not_so, shaped_row, with_kind}
use Rattle.book.proofs.Listed.{any_next}

-- the kind is that of a declaration
abbrev declares : ℕ → Bool
declares kind = leb 20 kind && leb kind 25

-- the set that a record declares in
module _ (r : Record) where
  pub shared_set : 20 ≤ r.kind → r.kind ≤ 23 → 1 ≡ name_set r
  unfolding name_set
  shared_set low high = rw (le-leb 20 r.kind low, le-leb r.kind 23 high)

  pub no_set : (20 ≤ r.kind → r.kind ≤ 25 → ⊥) → 0 ≡ name_set r
  unfolding name_set
  no_set out = rw (not_so (leb 20 r.kind && leb r.kind 23) shared, other 24 (omega arith) (omega arith), other 25 (omega arith) (omega arith))
    where
      shared : leb 20 r.kind && leb r.kind 23 ≡ true → ⊥
      shared b =
          let (low, high) = both_so (leb 20 r.kind) (leb r.kind 23) b in
          out (leb-true 20 r.kind low) (omega (arith, leb-true r.kind 23 high))

      other : (k : ℕ) → 20 ≤ k → k ≤ 25 → eqb r.kind k ≡ false
      other k low high = ne_eqb r.kind k (λ e. out (omega arith) (omega arith))

  few_sets : name_set r ≤ 3
  unfolding name_set
  few_sets =
      below (leb 20 r.kind && leb r.kind 23) (omega arith)
      (below (eqb r.kind 24) (omega arith) (below (eqb r.kind 25) (omega arith) (omega arith)))
    where
      below : (b : Bool) {x y : ℕ} → x ≤ 3 → y ≤ 3 → cond b x y ≤ 3
      below b = either (λ s. s ≤ 3) b

  set_declares : 0 < name_set r → declares r.kind ≡ true
  set_declares positive = go (declares r.kind) refl
    where
      go : (b : Bool) → declares r.kind ≡ b → b ≡ true
      go true e = refl
      go false e =
          let outside : 20 ≤ r.kind → r.kind ≤ 25 → ⊥ =
          λ low high. false≢true (sym e ∙ rw (le-leb 20 r.kind low) (le-leb r.kind 25 high)) in
          absurd (omega (arith, no_set outside))

-- the rows of declarations have a name in field a
named_rows : All (λ w. w.a ≡ name) (keep (λ w. declares w.kind) table)
unfolding keep table
named_rows = (refl, (refl, (refl, (refl, (refl, (refl, tt))))))

-- what declares a name has it in field a
pub shaped_name : (r : Record) → well_shaped r ≡ true → 0 < name_set r → r.a < 4096
unfolding allows
shaped_name r shaped positive =
    let (w, is) = shaped_row r shaped in
    let declared : declares w.kind ≡ true = ap declares (sym is.same_kind) ∙ set_declares r positive in
    let a-name : w.a ≡ name = of_all _ _ named_rows w (keep_mem _ is.in_table declared) in
    let inside : allows w.a r.a ≡ true = (both_so _ _ (both_so _ _ (both_so _ _ is.inside).0).0).0 in
    ltb-true r.a 4096 (rw a-name at inside)

-- the bits of a byte with the bit of set s
bit_more : (s t x : ℕ) → has_bit t (bit_or x (2 ^ s)) ≡ has_bit t x || eqb (suc s) (suc t)
bit_more s t x = go (ℕ_discrete s t)
  where
    go : Dec (s ≡ t) → has_bit t (bit_or x (2 ^ s)) ≡ has_bit t x || eqb (suc s) (suc t)
    go (yes same) =
        let some : 2 ^ s ≡ 0 → ⊥ = λ e. omega (arith, one-le-pow s 2 (lit≤ tt)) in
        rw (← same, and_or_self (2 ^ s) x, ne_eqb (2 ^ s) 0 some, eq-eqb (suc s) (suc s) refl) (sym (or-true (has_bit s x)))
    go (no other) =
        rw (and_or_apart (2 ^ t) x (2 ^ s) (pow_apart s t other), ne_eqb (suc s) (suc t) (λ e. other (omega arith)))
        (sym (or-false (has_bit t x)))

no_bits : (s : ℕ) → has_bit s 0 ≡ false
no_bits s = let none : bit_and 0 (2 ^ s) ≡ 0 = omega (arith, and_le_l 0 (2 ^ s)) in ap (λ n. not (eqb n 0)) none

-- a record with a bit declares in the set of that bit
module _ (r : Record) {bit : ℕ} (is : bit ≡ set_bit (name_set r)) (some : bit ≡ 0 → ⊥) where
  in_set : name_set r ≡ suc (name_set r - 1)
  in_set = let declares : name_set r ≡ 0 → ⊥ = λ e. some (is ∙ ap set_bit e) in omega arith

  bit_is : bit ≡ 2 ^ (name_set r - 1)
  bit_is = is ∙ ap set_bit in_set

  pub name_low : (0 < name_set r → r.a < 4096) → r.a < 4096
  name_low named = named (omega (arith, in_set))

-- the bit of a set, 0 where there is none
abbrev bit_or_0 : Option NameSet → ℕ
bit_or_0 None = 0
bit_or_0 (Some set) = bit_of set

bit_is_some : (set : NameSet) → bit_of set ≡ 0 → ⊥
bit_is_some sets.Types e = absurd (omega arith)
bit_is_some sets.Constants e = absurd (omega arith)
bit_is_some sets.Ambiguous e = absurd (omega arith)

-- the bit of the set of a kind
module _ (k : Kind) (r : Record) (is : r.kind ≡ code_of k) where
  bit_by_kind : bit_or_0 (set_of k) ≡ set_bit (name_set r)
  unfolding name_set
  bit_by_kind = subst (λ n. bit_or_0 (set_of k) ≡ set_bit (name_set (with_kind n r))) (sym is) (by k)
    where
      by : (k : Kind) → bit_or_0 (set_of k) ≡ set_bit (name_set (with_kind (code_of k) r))
      by Message = refl
      by _ = refl

  pub no_set_of : None ≡ set_of k → set_bit (name_set r) ≡ 0
  no_set_of none = sym (ap bit_or_0 none ∙ bit_by_kind)

  pub set_bit_of : (set : NameSet) {bit : ℕ} → Some set ≡ set_of k → bit ≡ bit_of set → (bit ≡ set_bit (name_set r)) × (bit ≡ 0 → ⊥)
  set_bit_of set {bit} some e = (e ∙ ap bit_or_0 some ∙ bit_by_kind, λ none. bit_is_some set (sym e ∙ none))

-- before record 0 nothing is declared
pub names_start : (rs : List Record) → Names rs 0 (replicate 4096 0)
unfolding any
names_start rs =
    record {
      long = length-replicate {A = ℕ} 4096 0;
      marks = λ s k low high. ap (has_bit s) (get_or-replicate 4096 k 0 0 high) ∙ no_bits s;
    }

-- a record declares name k in set s, counted from 0
abbrev names_it : ℕ → ℕ → Record → Bool
names_it s k x = eqb (name_set x) (suc s) && eqb x.a k

-- what is so already stays
stays : (b c : Bool) → (c ≡ true → b ≡ true) → b ≡ b || c
stays true c f = refl
stays false true f = absurd (false≢true (f refl))
stays false false f = refl

-- the names declared before record n, which is r, are known
module _
    {rs : List Record} {n : ℕ} {names : List ℕ} {r : Record}
    (known : Names rs n names) (less : n < length rs) (is : r ≡ record_of rs n) where
  -- those behind it have the one that it declares besides
  next :
      {marked : List ℕ} → length marked ≡ length names →
      ((s k : ℕ) → s < 3 → k < 4096 → has_bit s (get_or marked k 0) ≡ has_bit s (get_or names k 0) || names_it s k r) →
      Names rs (suc n) marked
  next {marked} same_length also = record { long = same_length ∙ known.long; marks = marks }
    where
      more : (test : Record → Bool) → any test (take (suc n) rs) ≡ any test (take n rs) || test r
      more test = any_next test rs n less ∙ ap (λ x. any test (take n rs) || test x) (sym is)

      marks : (s k : ℕ) → s < 3 → k < 4096 → has_bit s (get_or marked k 0) ≡ any (names_it s k) (take (suc n) rs)
      marks s k low high =
          also s k low high ∙ ap (λ b. b || names_it s k r) (known.marks s k low high) ∙ sym (more (names_it s k))

  -- it declares none
  pub declares_none : set_bit (name_set r) ≡ 0 → (false ≡ name_fault rs n) × Names rs (suc n) names
  unfolding name_fault
  declares_none e =
      let none_is : name_set r ≡ 0 = no_bit (name_set r) (few_sets r) e in
      (rw (← is, none_is), next refl (λ s k low high. rw (none_is, eqb-zero-suc s) (sym (or-false (has_bit s (get_or names k 0))))))
    where
      no_bit : (s : ℕ) → s ≤ 3 → set_bit s ≡ 0 → s ≡ 0
      no_bit zero low e = refl
      no_bit (suc zero) low e = absurd (omega arith)
      no_bit (suc (suc zero)) low e = absurd (omega arith)
      no_bit (suc (suc (suc s))) low e = let z : s ≡ 0 = omega arith in absurd (omega (arith, ap (λ s. 2 ^ suc (suc s)) z))

  -- the bits of its name
  abbrev bits : ℕ
  bits = get_or names r.a 0

  -- it declares one in set s, counted from 0
  module _ (s : ℕ) (e : name_set r ≡ suc s) (low : r.a < 4096) where
    few : s < 3
    few = omega (arith, few_sets r)

    has_it : has_bit s bits ≡ name_fault rs n
    unfolding name_fault
    has_it = rw (← is, e, eqb-suc-zero s) (known.marks s r.a few low)

    again : has_bit s bits ≡ true → (true ≡ name_fault rs n) × Names rs (suc n) names
    again has = (sym has ∙ has_it, next refl (λ t k p high. stays (has_bit t (get_or names k 0)) (names_it t k r) (same t k)))
      where
        same : (t k : ℕ) → names_it t k r ≡ true → has_bit t (get_or names k 0) ≡ true
        same t k it =
            let (set_is, name_is) = both_so (eqb (name_set r) (suc t)) (eqb r.a k) it in
            let p : s ≡ t = omega (arith, e, eqb-true (name_set r) (suc t) set_is) in
            let q : r.a ≡ k = eqb-true r.a k name_is in
            rw (← p, ← q) has

    new : has_bit s bits ≡ false → (false ≡ name_fault rs n) × Names rs (suc n) (set names r.a (bit_or bits (2 ^ s)))
    new has =
        (sym has ∙ has_it, next (length-set names r.a (bit_or bits (2 ^ s))) (λ t k p high. marked t k p (ℕ_discrete k r.a)))
      where
        marked :
            (t k : ℕ) → t < 3 → Dec (k ≡ r.a) →
            has_bit t (get_or (set names r.a (bit_or bits (2 ^ s))) k 0) ≡ has_bit t (get_or names k 0) || names_it t k r
        marked t k p (yes same) =
            let there : r.a < length names = omega (arith, known.long) in
            let it : names_it t r.a r ≡ eqb (suc s) (suc t) = rw (e, eq-eqb r.a r.a refl) (and-true (eqb (suc s) (suc t))) in
            rw (same, get_or-set_same names r.a (bit_or bits (2 ^ s)) 0 there, it)
            (bit_more s t bits)
        marked t k p (no other) =
            let not_it : names_it t k r ≡ false = not_so (names_it t k r) (λ b.
            other (sym (eqb-true r.a k (both_so (eqb (name_set r) (suc t)) (eqb r.a k) b).1))) in
            rw (get_or-set_other names r.a k (bit_or bits (2 ^ s)) 0 other, not_it) (sym (or-false (has_bit t (get_or names k 0))))

  -- it declares one, by the bit of its set
  module _ {bit : ℕ} (of_set : bit ≡ set_bit (name_set r)) (some : bit ≡ 0 → ⊥) (low : r.a < 4096) where
    pub declares_again : (bit_and bits bit ≡ 0 → ⊥) → (true ≡ name_fault rs n) × Names rs (suc n) names
    declares_again e =
        again (name_set r - 1) (in_set r of_set some) low (ap not (ne_eqb _ 0 (rw (bit_is r of_set some) at e)))

    pub declares_new :
        bit_and bits bit ≡ 0 → (false ≡ name_fault rs n) × Names rs (suc n) (set names r.a (bit_or bits bit))
    declares_new e =
        rw (bit_is r of_set some)
        (new (name_set r - 1) (in_set r of_set some) low (ap not (eq-eqb _ 0 (rw (bit_is r of_set some) at e))))

-- record j stands among those before k
there_before : (rs : List Record) (j k : ℕ) → j < length rs → j < k → Memᴰ (record_of rs j) (take k rs)
unfolding record_of
there_before rs j k less first = at_mem_take rs j k _ less first

-- a name is declared once: of two records that declare it in one set, the later one has a fault
declared_again :
    (rs : List Record) (j k : ℕ) → j < length rs → j < k → 0 < name_set (record_of rs k) →
    name_set (record_of rs j) ≡ name_set (record_of rs k) → (record_of rs j).a ≡ (record_of rs k).a → name_fault rs k ≡ true
unfolding name_fault
declared_again rs j k less first declares same_set same_name =
    rw (ne_eqb (name_set (record_of rs k)) 0 (λ e. omega arith), name_fault)
    (mem_any _ (there_before rs j k less first) (rw (eq-eqb _ _ same_set, eq-eqb _ _ same_name) refl))

-- so they are one record, if the records are well-formed
pub declared_once :
    (rs : List Record) → WellFormed rs → (j k : ℕ) → j < length rs → k < length rs → 0 < name_set (record_of rs k) →
    name_set (record_of rs j) ≡ name_set (record_of rs k) → (record_of rs j).a ≡ (record_of rs k).a → j ≡ k
declared_once rs sound j k less less' declares same_set same_name =
    let up : ¬ (j < k) =
    λ first. true≢false (sym (declared_again rs j k less first declares same_set same_name) ∙ (sound k less').new_name) in
    let down : ¬ (k < j) =
    λ first.
    true≢false (sym (declared_again rs k j less' first (omega arith) (sym same_set) (sym same_name)) ∙ (sound j less).new_name) in
    omega arith
