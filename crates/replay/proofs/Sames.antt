-- What is told to be the same is equal, and the other way round; two slices, part by part; a reply beside the one that
-- is said.
-- Assumes nothing.
use Prim.Native.Nat.{ℕ, zero, suc}
use mathlib.Core.Bool.{Bool, true, false, ◌&&◌, and_assoc}
use mathlib.Core.List.{List, [], ◌∷◌, ◌++◌}
use mathlib.Core.Path.{◌≡◌, refl, sym, ap₂}
use native.Mathlib.Omega.{arith}
use lib.Dec.{leb, eqb}
use lib.ListN.{length, take, drop, replicate}
use borrow.Author.Tests.{eq-eqb, ne_eqb, eqb-true, eqb-false, le-leb, lt-leb, leb-true, leb-false}
use Rattle.book.proofs.Trees.{both_so}
use Rattle.lower.specs.LowerBook.{Reply, accepted, refused, Outcome}
use Rattle.std.specs.Prelude.{Ok, Err, Option, Some, None, nat_eq}
use Rattle.std.specs.List.{starts_with}
use lib.Pointwise.{pointwise}
use Rattle.record.specs.Refused.{number_of}
use Rattle.record.specs.declared.refusal.Cause.{Cause}
use Rattle.record.specs.declared.refusal.Cause.TheVariants.{BookLength, Check, Block, Shape, Child, Follow, Name, Depth, TooDeep, Full}
use Rattle.lower.specs.Promise.{Answered, reply_of, reply_words}
use Rattle.replay.specs.Bytes.{zeros}
use Rattle.replay.specs.Said.{reply_by, reply_said, same_reply, same, agrees_with, AgreesIfEqual}
use Rattle.replay.specs.declared.layout.Header.{Header}

-- two numbers either way round
eqb_turned : (x y : ℕ) → eqb x y ≡ eqb y x
eqb_turned x y = go (eqb y x) refl
  where
    go : (b : Bool) → eqb y x ≡ b → eqb x y ≡ b
    go true e = eq-eqb x y (sym (eqb-true y x e))
    go false e = ne_eqb x y (λ p. eqb-false y x e (sym p))

-- a slice is the same as two parts where it starts with the one and goes on as the other
pub same_parts : (l a b : List ℕ) → same l (a ++ b) ≡ starts_with nat_eq l a && same (drop (length a) l) b
unfolding same
same_parts l [] b = refl
same_parts [] (y ∷ a) b = refl
same_parts (x ∷ l) (y ∷ a) b = rw (same_parts l a b, eqb_turned x y) (sym (and_assoc (eqb y x) (starts_with nat_eq l a) _))

-- three tests in another order
swap : (a b c : Bool) → a && (b && c) ≡ b && (a && c)
swap true b c = refl
swap false true c = refl
swap false false c = refl

-- an order goes on to the next numbers
next_leb : (m n : ℕ) → leb (suc m) (suc n) ≡ leb m n
next_leb m n = go (leb m n) refl
  where
    go : (b : Bool) → leb m n ≡ b → leb (suc m) (suc n) ≡ b
    go true e = le-leb (suc m) (suc n) (omega (arith, leb-true m n e))
    go false e = lt-leb (suc m) (suc n) (omega (arith, leb-false m n e))

-- n zeros stand at the front of a slice that has n bytes and whose first n are zero
pub zeros_first : (l : List ℕ) (n : ℕ) → starts_with nat_eq l (replicate n 0) ≡ leb n (length l) && zeros (take n l)
zeros_first l zero = rw (le-leb 0 (length l) (omega arith))
zeros_first [] (suc n) = rw (lt-leb (suc n) 0 (omega arith))
zeros_first (x ∷ l) (suc n) =
    rw (next_leb n (length l), zeros_first l n, eqb_turned 0 x) (swap (eqb x 0) (leb n (length l)) (zeros (take n l)))

-- the words of a reply tell it from the one that an answer says: 0 is the number of no cause
numbered : (c : Cause) → eqb (number_of c) 0 ≡ false
numbered BookLength = refl
numbered Check = refl
numbered Block = refl
numbered Shape = refl
numbered Child = refl
numbered Follow = refl
numbered Name = refl
numbered Depth = refl
numbered TooDeep = refl
numbered Full = refl

three : (a b c : Bool) → a && (b && (c && true)) ≡ a && b && c
three true true true = refl
three true true false = refl
three true false c = refl
three false b c = refl

two : (a b : Bool) → a && (b && true) ≡ a && b
two true true = refl
two true false = refl
two false b = refl

pub words_tell :
    (x : Answered) (h : Header) →
    pointwise eqb (reply_words (reply_of x)) (reply_words (reply_said h)) ≡ same_reply (reply_of x) (reply_said h)
unfolding reply_of reply_words reply_said same_reply
words_tell (Ok n) h = go h.cause
  where
    go :
        (cause : Option Cause) →
        pointwise eqb (0 ∷ n.results ∷ n.diagnostics ∷ n.constants ∷ [])
        (reply_words (reply_by cause h.results.count h.diagnostics.count h.constants h.place))
        ≡ same_reply (accepted n.results n.diagnostics n.constants)
        (reply_by cause h.results.count h.diagnostics.count h.constants h.place)
    go None = three (eqb n.results h.results.count) (eqb n.diagnostics h.diagnostics.count) (eqb n.constants h.constants)
    go (Some c) = rw (eqb_turned 0 (number_of c), numbered c)
words_tell (Err r) h = go h.cause
  where
    go :
        (cause : Option Cause) →
        pointwise eqb (number_of r.cause ∷ r.place ∷ 0 ∷ 0 ∷ [])
        (reply_words (reply_by cause h.results.count h.diagnostics.count h.constants h.place))
        ≡ same_reply (refused (number_of r.cause) r.place)
        (reply_by cause h.results.count h.diagnostics.count h.constants h.place)
    go None = rw (numbered r.cause)
    go (Some c) = two (eqb (number_of r.cause) (number_of c)) (eqb r.place h.place)

-- slices, replies and outcomes: each is the same as itself, and those that are the same are equal
same_refl : (l : List ℕ) → same l l ≡ true
unfolding same
same_refl [] = refl
same_refl (x ∷ l) = rw (eq-eqb x x refl) (same_refl l)

same_equal : (l m : List ℕ) → same l m ≡ true → l ≡ m
unfolding same
same_equal [] [] e = refl
same_equal [] (y ∷ m) e = cc
same_equal (x ∷ l) [] e = cc
same_equal (x ∷ l) (y ∷ m) e =
    let (first, rest) = both_so (eqb x y) (same l m) e in
    ap₂ ◌∷◌ (eqb-true x y first) (same_equal l m rest)

reply_refl : (x : Reply) → same_reply x x ≡ true
unfolding same_reply
reply_refl (accepted r d c) = rw (eq-eqb r r refl, eq-eqb d d refl, eq-eqb c c refl)
reply_refl (refused n p) = rw (eq-eqb n n refl, eq-eqb p p refl)

reply_equal : (x y : Reply) → same_reply x y ≡ true → x ≡ y
unfolding same_reply
reply_equal (accepted r d c) (accepted r' d' c') e =
    let (front, third) = both_so _ (eqb c c') e in
    let (first, second) = both_so (eqb r r') (eqb d d') front in
    cc (eqb-true r r' first, eqb-true d d' second, eqb-true c c' third)
reply_equal (accepted r d c) (refused n p) e = cc
reply_equal (refused n p) (accepted r d c) e = cc
reply_equal (refused n p) (refused n' p') e =
    let (first, second) = both_so (eqb n n') (eqb p p') e in
    cc (eqb-true n n' first, eqb-true p p' second)

agrees_refl : (x : Outcome) → agrees_with x x ≡ true
unfolding agrees_with
agrees_refl x = rw (reply_refl x.reply, same_refl x.results, same_refl x.diagnostics)

outcome_equal :
    {a b : Reply} {r s d e : List ℕ} →
    a ≡ b →
    r ≡ s →
    d ≡ e →
    ◌≡◌ {A = Outcome} (record { reply = a; results = r; diagnostics = d }) (record { reply = b; results = s; diagnostics = e })
outcome_equal p q t = rw (p, q, t)

agrees_equal : (x y : Outcome) → agrees_with x y ≡ true → x ≡ y
unfolding agrees_with
agrees_equal x y e =
    let (front, third) = both_so _ (same x.diagnostics y.diagnostics) e in
    let (first, second) = both_so (same_reply x.reply y.reply) (same x.results y.results) front in
    outcome_equal (reply_equal x.reply y.reply first) (same_equal x.results y.results second)
    (same_equal x.diagnostics y.diagnostics third)

pub agrees_if_equal : AgreesIfEqual
agrees_if_equal x y = (agrees_equal x y, λ e. rw e (agrees_refl y))
