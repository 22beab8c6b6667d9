-- Steps of a lowering and the records of a resolved type: what holds of all that they do.
-- Assumes nothing.
use Prim.Native.Nat.{ℕ, suc, ◌+◌, ◌^◌, ◌≤◌, ◌<◌}
use mathlib.Core.Bool.{false}
use mathlib.Core.List.{List, [], ◌∷◌}
use mathlib.Core.Path.{◌≡◌, refl}
use native.Mathlib.Omega.{arith}
use lib.Dec.{lit<}
use lib.ListN.{length}
use Rattle.record.specs.declared.Record.{Record}
use Rattle.record.specs.declared.Span.{Span}
use Rattle.record.specs.Layout.{Within}
use Rattle.book.specs.Faults.{is_kind}
use Rattle.book.specs.Lists.{All}
use Rattle.types.specs.Events.{Event, lowers, resolves, tells, writes}
use Rattle.types.specs.Resolved.{ResolvedType, primitive, sub_byte, semantic, named, one_child, two_children, inline_bits}
use Rattle.types.specs.Resolved.{Names, POISON}
use Rattle.types.specs.Step.{Step, Resolved, ◌>>=◌, ◌>>◌, give, at, emit, tell, change, for_each, message}
use Rattle.types.specs.Step.{emit_type, whole, over_one, over_two, poison}
use Rattle.types.specs.Diagnostic.{IsDiagnostic}
use Rattle.types.proofs.Does.{Does, does_then}

-- a type's fields are within their widths
abbrev pub Sized : ResolvedType → Type 0
Sized (primitive p) = p < 2 ^ 8
Sized (sub_byte p bits) = (p < 2 ^ 8) × (bits < 2 ^ 16)
Sized (semantic p) = p < 2 ^ 8
Sized (named n) = n < 2 ^ 64
Sized (one_child p size t) = (p < 2 ^ 8) × (size < 2 ^ 64) × Sized t
Sized (two_children p l r) = (p < 2 ^ 8) × Sized l × Sized r
Sized (inline_bits n) = n < 2 ^ 16

abbrev pub SizedSpan : Span → Type 0
SizedSpan s = (s.offset < 2 ^ 32) × (s.len < 2 ^ 32)

-- numbers and types of names are within their widths, n results being there: each stub is a result; as many numbers are
-- given as names and pairs have one
pub record Sound (s : Names) (n : ℕ) : Type 0 where
  pub next : s.next ≤ 2 ^ 32 + n
  pub numbers : All (λ x. x.1 < 2 ^ 64) s.numbers
  pub pairs : All (λ x. x.1 < 2 ^ 64) s.pairs
  pub aliases : All (λ x. Sized x.1) s.aliases
  pub counted : s.next ≡ length s.numbers + length s.pairs

pub one_more_lem : {s : Names} {n : ℕ} → Sound s n → Sound s (suc n)
one_more_lem g =
    record { next = omega arith; numbers = g.numbers; pairs = g.pairs; aliases = g.aliases; counted = g.counted }

-- Where W is given, records are within their widths: of a result's number and of a resolved type
module _ (W : Type 0) where
  abbrev pub Below : ℕ → Type 0
  Below n = W → n < 2 ^ 16

  abbrev pub Right : Resolved → Type 0
  Right t = W → (t.root < 2 ^ 16) × Sized t.type

-- Where S is given, no result is a 41: of an event and of a step, from sound names to sound names
module _ (W S : Type 0) where
  abbrev pub Fine : Event → Type 0
  Fine (lowers p) = Unit
  Fine (resolves d) = d ≤ 65
  Fine (tells r) = IsDiagnostic r × (W → Within r)
  Fine (writes r) = (S → is_kind 41 r ≡ false) × (W → Within r)

  pub record Keeps {A : Type 0} (R : A → Type 0) (m : Step A) : Type 0 where
    pub does :
        (s : Names) (n : ℕ) →
        (W → Sound s n) →
        Does (Below W) Fine (λ x k. R x.0 × (W → Sound x.1 k)) (m s) n

module _ {W S : Type 0} where
  -- one thing
  pub keeps-give : {A : Type 0} {R : A → Type 0} (a : A) → R a → Keeps W S R (give a)
  keeps-give a h = record { does = λ s n g. (h, g) }

  pub keeps-at : (n : ℕ) → Keeps W S (λ x. Unit) (at n)
  keeps-at n = record { does = λ s k g. (tt, (tt, g)) }

  pub keeps-emit : (r : Record) → Fine W S (writes r) → Keeps W S (Below W) (emit r)
  keeps-emit r fine = record { does = λ s n g below. (fine, (below, λ w. one_more_lem (g w))) }

  pub keeps-tell : (r : Record) → IsDiagnostic r → (W → Within r) → Keeps W S (λ x. Unit) (tell r)
  keeps-tell r is h = record { does = λ s n g. ((is, h), (tt, g)) }

  pub keeps-change : (f : Names → Names) → (W → (s : Names) (n : ℕ) → Sound s n → Sound (f s) n) → Keeps W S (λ x. Unit) (change f)
  keeps-change f h = record { does = λ s n g. (tt, λ w. h w s n (g w)) }

  -- one after the other
  pub keeps_then :
      {A B : Type 0} {Q : A → Type 0} {R : B → Type 0} {m : Step A} {f : A → Step B} →
      Keeps W S Q m →
      ((a : A) → Q a → Keeps W S R (f a)) →
      Keeps W S R (m >>= f)
  keeps_then {m} {f} k h =
      record {
        does =
            λ s n g.
            does_then (Below W) (Fine W S) _ _ (m s) (λ x. f x.0 x.1) n (k.does s n g)
            (λ x j q. (h x.0 q.0).does x.1 j q.1);
      }

  pub keeps_next :
      {A B : Type 0} {Q : A → Type 0} {R : B → Type 0} {m : Step A} {l : Step B} →
      Keeps W S Q m →
      Keeps W S R l →
      Keeps W S R (m >> l)
  keeps_next k h = keeps_then k (λ a q. h)

  pub keeps_each : (f : ℕ → Step Unit) → ((n : ℕ) → Keeps W S (λ x. Unit) (f n)) → (ns : List ℕ) → Keeps W S (λ x. Unit) (for_each f ns)
  unfolding for_each
  keeps_each f h [] = keeps-give tt tt
  keeps_each f h (n ∷ ns) = keeps_next (h n) (keeps_each f h ns)

  -- a resolved type, as a whole or over its children
  pub emits_type : (t : ResolvedType) → (W → Sized t) → Keeps W S (Below W) (emit_type t)
  unfolding emit_type
  emits_type (primitive p) h = keeps-emit _ (λ c. refl, λ w. omega (arith, h w))
  emits_type (sub_byte p bits) h = keeps-emit _ (λ c. refl, λ w. omega (arith, h w))
  emits_type (semantic p) h = keeps-emit _ (λ c. refl, λ w. omega (arith, h w))
  emits_type (named n) h = keeps-emit _ (λ c. refl, λ w. omega (arith, h w))
  emits_type (inline_bits n) h = keeps-emit _ (λ c. refl, λ w. omega (arith, h w))
  emits_type (one_child p size t) h =
      keeps_then (emits_type t (λ w. (h w).2)) (λ a q. keeps-emit _ (λ c. refl, λ w. omega (arith, h w, q w)))
  emits_type (two_children p l r) h =
      keeps_then (emits_type l (λ w. (h w).1))
      (λ a q. keeps_then (emits_type r (λ w. (h w).2))
      (λ b y. keeps-emit _ (λ c. refl, λ w. omega (arith, h w, q w, y w))))

  pub keeps-whole : (t : ResolvedType) → (W → Sized t) → Keeps W S (Right W) (whole t)
  unfolding whole
  keeps-whole t h = keeps_then (emits_type t h) (λ n q. keeps-give _ (λ w. (q w, h w)))

  pub keeps-over_one :
      (p size : ℕ) (t : Resolved) → (W → (p < 2 ^ 8) × (size < 2 ^ 64)) → Right W t → Keeps W S (Right W) (over_one p size t)
  unfolding over_one
  keeps-over_one p size t h q =
      keeps_then (keeps-emit _ (λ c. refl, λ w. omega (arith, h w, q w)))
      (λ n y. keeps-give _ (λ w. (y w, ((h w).0, (h w).1, (q w).1))))

  pub keeps-over_two : (p : ℕ) (l r : Resolved) → (W → p < 2 ^ 8) → Right W l → Right W r → Keeps W S (Right W) (over_two p l r)
  unfolding over_two
  keeps-over_two p l r h q y =
      keeps_then (keeps-emit _ (λ c. refl, λ w. omega (arith, h w, q w, y w)))
      (λ n x. keeps-give _ (λ w. (x w, (h w, (q w).1, (y w).1))))

  pub keeps-poison :
      (m a b class : ℕ) (span : Span) →
      class ≤ 2 →
      (W → Within (message m a b class span)) →
      Keeps W S (Right W) (poison m a b class span)
  unfolding poison
  keeps-poison m a b class span c h =
      keeps_next (keeps-tell _ (record { kind = refl; class = c; unused = refl }) h) (keeps-whole (named POISON) (λ w. lit< tt))
