-- What std's checked operations answer, told by the definitions.
-- Assumes nothing.
use Prim.Native.Nat.{ℕ, zero, suc, ◌^◌, ◌≤◌, ◌<◌}
use mathlib.Core.Bool.{true, false}
use mathlib.Core.Option.{some, none}
use mathlib.Core.Path.{◌≡◌, refl, sym, ap, ◌∙◌}
use native.Mathlib.Decide.{dec_le}
use native.Mathlib.Omega.{arith}
use lib.IntN.{ℤ, pos, negsuc, ◌+ℤ◌, ◌-ℤ◌, ◌*ℤ◌, nat_abs}
use lib.Signed.{mag, quot_z}
use mir.Syntax.{w64}
use mir.Val.{SFits, to_z, of_z}
use borrow.Author.Tests.{ne_eqb}
use Rattle.std.specs.Prelude.{eqb, Option, Some, None}
use Rattle.std.specs.Int.{CanDivide}
use Rattle.std.specs.Option.{SomeIff}
use Rattle.std.proofs.lemmas.Int.{to_z-of_z}
use Rattle.arith.specs.Checked.{answer, fitting, checked_add, checked_sub, checked_mul, checked_div}
use Rattle.arith.specs.Word.{signed, as_i64, word}
use Rattle.arith.proofs.Words.{fits, over, cast_signed, signed_as_in_rattle}

not_fitting : (z : ℤ) → (SFits w64 z → ⊥) → fitting z ≡ none
not_fitting z h = go (dec_le (2 ^ 63) (mag z))
  where
    go : Dec (2 ^ 63 ≤ mag z) → fitting z ≡ none
    go (yes l) = over z l
    go (no l) = absurd (h (record { sfits = omega arith }))

pub fitting-answer : (r : Option ℤ) (z : ℤ) → SomeIff r (SFits w64 z) z → answer r ≡ fitting z
fitting-answer (Some x) z h = ap some h.1 ∙ sym (fits z h.0.sfits)
fitting-answer None z h = sym (not_fitting z h)

pub sum-answer : (r : Option ℤ) (a b : ℤ) → SomeIff r (SFits w64 (a +ℤ b)) (a +ℤ b) → answer r ≡ checked_add a b
unfolding checked_add
sum-answer r a b h = fitting-answer r (a +ℤ b) h

pub difference-answer : (r : Option ℤ) (a b : ℤ) → SomeIff r (SFits w64 (a -ℤ b)) (a -ℤ b) → answer r ≡ checked_sub a b
unfolding checked_sub
difference-answer r a b h = fitting-answer r (a -ℤ b) h

pub product-answer : (r : Option ℤ) (a b : ℤ) → SomeIff r (SFits w64 (a *ℤ b)) (a *ℤ b) → answer r ≡ checked_mul a b
unfolding checked_mul
product-answer r a b h = fitting-answer r (a *ℤ b) h

-- an i64 has a bit set exactly if it is not 0
quotient_none : (r : Option ℤ) (a b : ℤ) → eqb (nat_abs b) 0 ≡ true → (0 < of_z w64 b → ⊥) → SomeIff r (CanDivide w64 a b) (quot_z a b)
    → answer r ≡ checked_div a b
unfolding checked_div
quotient_none (Some x) a b e z h = absurd (z h.0.0)
quotient_none None a b e z h = rw e refl

quotient_fitting : (r : Option ℤ) (a b : ℤ) → eqb (nat_abs b) 0 ≡ false → 0 < of_z w64 b → SomeIff r (CanDivide w64 a b) (quot_z a b)
    → answer r ≡ checked_div a b
unfolding checked_div
quotient_fitting (Some x) a b e n h = rw e (fitting-answer (Some x) (quot_z a b) (h.0.1, h.1))
quotient_fitting None a b e n h = rw e (fitting-answer None (quot_z a b) (λ f. h (n, f)))

pub quotient-answer : (r : Option ℤ) (a b : ℤ) → SFits w64 b → SomeIff r (CanDivide w64 a b) (quot_z a b) → answer r ≡ checked_div a b
quotient-answer r a (pos zero) f h = quotient_none r a (pos zero) refl (λ n. omega arith) h
quotient-answer r a (pos (suc n)) f h = quotient_fitting r a (pos (suc n)) (ne_eqb (suc n) 0 (λ e. omega arith)) (omega arith) h
quotient-answer r a (negsuc n) f h =
    let small : n < 2 ^ 63 = f.sfits in
    quotient_fitting r a (negsuc n) (ne_eqb (suc n) 0 (λ e. omega arith)) (omega arith) h

-- the casts
pub signed-read : (x : ℕ) → x < 2 ^ 64 → signed x ≡ to_z w64 x
signed-read x h = signed_as_in_rattle x h

pub as_i64-read : (x : ℕ) → x < 2 ^ 64 → as_i64 x ≡ to_z w64 x
as_i64-read x h = sym (cast_signed x h) ∙ signed_as_in_rattle x h

pub word-read : (z : ℤ) → word z ≡ of_z w64 z
unfolding word
word-read (pos n) = refl
word-read (negsuc n) = refl

pub ruleset answers =
    (sum-answer, difference-answer, product-answer, quotient-answer, signed-read, as_i64-read, word-read, to_z-of_z)
