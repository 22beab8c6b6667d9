-- The records of reached constants: within their widths, if the book's are and the values are i64s; one for each
-- constant, in their order; as many marked stored as are counted.
-- Assumes nothing.
use Prim.Native.Nat.{ℕ, suc, ◌^◌, ◌<◌}
use mathlib.Core.List.{List, [], ◌∷◌, map}
use mathlib.Core.Option.{Option, some, none}
use mathlib.Core.Path.{◌≡◌, refl, ap}
use native.Mathlib.Omega.{arith}
use lib.Dec.{eqb, lit≤}
use lib.IntN.{ℤ}
use lib.ListN.{length}
use Rattle.record.specs.declared.Record.{Record}
use Rattle.record.specs.Layout.{Within}
use Rattle.arith.proofs.Words.{word_below}
use Rattle.book.specs.Lists.{All, keep}
use Rattle.book.specs.Outline.{Book, ◌!◌}
use Rattle.constants.specs.Order.{Settled}
use Rattle.constants.specs.Values.{IsI64}
use Rattle.types.specs.Lowering.{and_then}
use Rattle.types.specs.Events.{writes, events, written}
use Rattle.types.specs.Step.{◌>>◌, emit, give}
use Rattle.types.specs.Diagnostic.{IsDiagnostic}
use Rattle.types.proofs.Steps.{Fine, Keeps, keeps-give, keeps-at, keeps-emit, keeps-tell, keeps_then, keeps_next}
use Rattle.types.proofs.Passing.{Writes, writes_then, writes_after}
use Rattle.types.proofs.Resolving.{within, keeps_type}
use Rattle.bodies.specs.Constant.{tell_unless, constant_record, lower_constant, lower_constants, stored_count, said, constant_of}

-- within their widths, where it is not asked that no result is a 41
module _ {W S : Type 0} where
  keeps-tell_unless : (o : Option ℤ) (r : Record) → IsDiagnostic r → (W → Within r) → Keeps W S (λ x. Unit) (tell_unless o r)
  unfolding tell_unless
  keeps-tell_unless (some z) r is h = keeps-give tt tt
  keeps-tell_unless none r is h = keeps-tell r is h

  fine_constant :
      (o : Option ℤ) (r : Record) (type : ℕ) → (S → ⊥) → (W → IsI64 o × Within r × (type < 2 ^ 16)) →
      Fine W S (writes (constant_record o r type))
  unfolding constant_record
  fine_constant (some z) r type no_s h =
      (λ s. absurd (no_s s), λ w. let (i64, within, type) = h w in omega (arith, word_below z i64.0 i64.1, within, type))
  fine_constant none r type no_s h = (λ s. absurd (no_s s), λ w. omega (arith, h w))

module _ {W S : Type 0} (book : Book) (given : W → All Within book.records) where
  keeps_constant : (S → ⊥) → (c : Settled) → (W → IsI64 c.value) → Keeps W S (λ x. Unit) (lower_constant book c)
  unfolding lower_constant
  keeps_constant no_s c h =
      let n = c.constant.place in
      let r = book ! n in
      keeps_next (keeps-at n)
      (keeps_then (keeps_type book given r.b)
      (λ t q.
      keeps_next
      (keeps-tell_unless c.value _ (record { kind = refl; class = lit≤ tt; unused = refl }) (λ w. omega (arith, within book given n w, within book given r.c w)))
      (keeps_next
      (keeps-emit _ (fine_constant c.value r t.root no_s (λ w. (h w, within book given n w, (q w).0))))
      (keeps-give tt tt))))

  pub keeps_constants :
      (S → ⊥) → (cs : List Settled) → (W → All (λ c. IsI64 c.value) cs) → Keeps W S (λ x. Unit) (lower_constants book cs)
  unfolding lower_constants
  keeps_constants no_s [] h = keeps-give tt tt
  keeps_constants no_s (c ∷ cs) h = keeps_next (keeps_constant no_s c (λ w. (h w).0)) (keeps_constants no_s cs (λ w. (h w).1))

-- a constant with the name of its record
abbrev Named : Book → Settled → Type 0
Named book c = (book ! c.constant.place).a ≡ c.constant.name

writes-record :
    (book : Book) (c : Settled) → Named book c → (o : Option ℤ) → c.value ≡ o → (m : Record) (type : ℕ) →
    Writes {A = Unit} said (constant_of c ∷ [])
    (tell_unless o m >> (emit (constant_record o (book ! c.constant.place) type) >> give tt))
unfolding tell_unless constant_record constant_of and_then events written keep
writes-record book c name none e m type = record { exactly = λ s n. rw (e, name) }
writes-record book c name (some z) e m type = record { exactly = λ s n. rw (e, name) }

writes_constant : (book : Book) (c : Settled) → Named book c → Writes said (constant_of c ∷ []) (lower_constant book c)
unfolding lower_constant
writes_constant book c name =
    writes_after (keeps-at _)
    (λ x. writes_after (keeps_type book (λ w. absurd w) _) (λ t. writes-record book c name c.value refl _ _))

pub writes_constants :
    (book : Book) (cs : List Settled) → All (Named book) cs → Writes said (map constant_of cs) (lower_constants book cs)
unfolding lower_constants events written keep
writes_constants book [] h = record { exactly = λ s n. refl }
writes_constants book (c ∷ cs) h = writes_then (writes_constant book c h.0) (λ x. writes_constants book cs h.1)

-- how many of some 41s, each as a, sub and v, are marked stored
abbrev pub marked : List (ℕ × ℕ × ℕ) → ℕ
marked xs = length (keep (λ x. eqb x.1 1) xs)

pub marked_are_counted : (cs : List Settled) → marked (map constant_of cs) ≡ stored_count cs
unfolding stored_count constant_of keep
marked_are_counted [] = refl
marked_are_counted (c ∷ cs) = go c.value refl (marked_are_counted cs)
  where
    go :
        (o : Option ℤ) → c.value ≡ o → marked (map constant_of cs) ≡ stored_count cs →
        marked (map constant_of (c ∷ cs)) ≡ stored_count (c ∷ cs)
    go none p e = rw p e
    go (some z) p e = rw p (ap suc e)
