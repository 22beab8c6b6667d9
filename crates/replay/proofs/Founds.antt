-- What is found of an answer, from what each step gave: the slices as they were filled, and lowered into.
-- Assumes nothing.
use Prim.Native.Nat.{ℕ, ◌≤◌}
use mathlib.Core.Bool.{Bool, ◌&&◌}
use mathlib.Core.List.{List}
use mathlib.Core.Path.{◌≡◌, refl, sym, ap, ◌∙◌}
use native.Mathlib.Omega.{arith}
use lib.ListN.{length, take, replicate, length-replicate}
use lib.Seq.{length-take-le}
use Rattle.book.proofs.Trees.{both_so}
use Rattle.lower.specs.LowerBook as lower
use Rattle.lower.specs.LowerBook.{accepted, refused, lower_book}
use Rattle.lower.specs.Promise.{Answered, reply_of, Lowered}
use Rattle.replay.specs.Lent.{patterned, lent_results, lent_diagnostics}
use Rattle.replay.specs.Said.{reply_said, left_as, said, same_reply, same, agrees_with}
use Rattle.replay.specs.Finding.{formed, found, finding_into, finding, RightIfLowered}
use Rattle.replay.specs.declared.layout.Header.{Header}
use Rattle.replay.proofs.Patterns.{pattern_length}
use Rattle.replay.proofs.Sames.{agrees_if_equal}

-- the first n bytes of a longer array are n bytes
pub front_length : (most n : ℕ) → n ≤ most → length {A = ℕ} (take n (replicate most 0)) ≡ n
front_length most n low = length-take-le n (replicate most 0) (omega (arith, length-replicate {A = ℕ} most 0))

-- a slice that was filled, and then lowered into, is as long as before
still_long :
    (n step first : ℕ) {filled : List ℕ} (left : List ℕ) →
    filled ≡ patterned n step first →
    length left ≡ length filled →
    length left ≡ n
still_long n step first left is long = long ∙ ap length is ∙ pattern_length step first n

-- the book of an answer was lowered into slices of n and m bytes
pub all_found :
    (h : Header) (book results diagnostics : List ℕ) (n m : ℕ) {own told own' told' : List ℕ} (reply : Answered) →
    own ≡ patterned n 5 17 →
    told ≡ patterned m 3 29 →
    Lowered book own told reply own' told' →
    length own' ≡ length own →
    length told' ≡ length told →
    found
    (formed h (length book) (length results) (length diagnostics)
    && (same_reply (reply_of reply) (reply_said h)
    && same own' (left_as h.cause h.results results (patterned (length own') 5 17))
    && same told' (left_as h.cause h.diagnostics diagnostics (patterned (length told') 3 29))))
    (reply_of reply)
    ≡ finding_into h book results diagnostics (patterned n 5 17) (patterned m 3 29)
unfolding finding_into agrees_with said
all_found h book results diagnostics n m {own' = own'} {told' = told'} reply own_is told_is lowered own_long told_long =
    rw (still_long n 5 17 own' own_is own_long, still_long m 3 29 told' told_is told_long) (rw (← own_is, ← told_is, ← lowered))

-- what is found is right or not, as it was handed over
found_right : (b : Bool) (reply : lower.Reply) → (found b reply).right ≡ b
unfolding found
found_right b (accepted r d c) = refl
found_right b (refused n p) = refl

-- the claim of specs/Finding.antt
pub right_if_lowered : RightIfLowered
unfolding finding finding_into
right_if_lowered h book results diagnostics =
    let own = lent_results h in
    let told = lent_diagnostics h in
    let x = lower_book book own told in
    let y = said h results diagnostics own told in
    let form : Bool = formed h (length book) (length results) (length diagnostics) in
    let is = found_right (form && agrees_with x y) x.reply in
    let both = agrees_if_equal x y in (
      λ e. let (formed, agrees) = both_so form (agrees_with x y) (sym is ∙ e) in (formed, both.0 agrees),
      λ e. is ∙ rw (e.0, both.1 e.1),
    )
