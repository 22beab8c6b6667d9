-- No step beyond the 65th, records within their widths, numbers given, diagnostics of their form, and the 41s those of
-- the reached constants.
-- Assumes nothing.
use Prim.Native.Nat.{ℕ, suc, ◌^◌, ◌≤◌, ◌<◌}
use mathlib.Core.Bool.{Bool, true, false}
use mathlib.Core.List.{List, [], ◌∷◌, append-nil}
use mathlib.Core.Option.{none}
use mathlib.Core.Path.{◌≡◌, refl, sym, ap, ◌∙◌, subst}
use native.Mathlib.Omega.{arith}
use lib.Dec.{eqb}
use lib.ListN.{length}
use Rattle.record.specs.declared.Record.{Record}
use Rattle.record.specs.Bytes.{AreBytes}
use Rattle.record.specs.Layout.{Within}
use Rattle.book.specs.Refusal.{first_refusal}
use Rattle.book.specs.Faults.{is_kind}
use Rattle.book.specs.Outline.{Book, read}
use Rattle.book.specs.Lists.{All, keep}
use Rattle.book.proofs.Records.{records-within}
use Rattle.book.proofs.Accepted.{accepted_is_readable}
use Rattle.constants.specs.OfBook.{settled}
use Rattle.constants.specs.Values.{IsI64}
use Rattle.constants.proofs.Values.{settled_are_i64}
use Rattle.constants.proofs.Named.{settled_named}
use Rattle.types.specs.Lowering.{start}
use Rattle.types.specs.Events.{Event, lowers, resolves, tells, writes, events, written, told}
use Rattle.types.specs.Resolved.{Names}
use Rattle.types.specs.Step.{is_stored}
use Rattle.types.specs.Diagnostic.{IsDiagnostic}
use Rattle.types.specs.Numbers.{plain_aliases, register_declarations}
use Rattle.types.proofs.Does.{Does, all-events, the_answer, all_split}
use Rattle.types.proofs.Steps.{Sound, Below, Fine, keeps_next, keeps_each}
use Rattle.types.proofs.Adds.{finished_adds}
use Rattle.types.proofs.Start.{start_sound}
use Rattle.types.proofs.Passing.{writes_then, writes_none, writes_after}
use Rattle.types.proofs.Resolving.{keeps_alias}
use Rattle.bodies.specs.Constant.{constants_in}
use Rattle.bodies.proofs.Constant.{keeps_constants, writes_constants, marked, marked_are_counted}
use Rattle.bodies.proofs.Bodies.{keeps_bodies}
use Rattle.lower.specs.LowerBook.{lower_records}
use Rattle.lower.specs.Counters.{numbers_given}
use Rattle.lower.specs.Written.{NoStepBeyond, WrittenWithin, NumbersAreCounted, ToldAreDiagnostics, ReachedAreWritten, StoredAreCounted}

-- a book's records, the values of its constants and the names of its declarations are within their widths
abbrev SizedBook : Book → Type 0
SizedBook book = All Within book.records × All (λ c. IsI64 c.value) (settled book) × Sound (register_declarations book) 0

-- of all that is done for a book, and of the names behind it. Where W is given, the book is within its widths.
does_all :
    (W : Type 0) (book : Book) → (W → SizedBook book) →
    Does (Below W) (Fine W ⊥) (λ (x : Unit × Names) n. Unit × (W → Sound x.1 n)) (lower_records (settled book) book) 0
unfolding lower_records
does_all W book given =
    (keeps_next {S = ⊥}
    (keeps_next
    (keeps_each _ (keeps_alias book (λ w. (given w).0)) (plain_aliases book))
    (keeps_constants book (λ w. (given w).0) (λ s. s) (settled book) (λ w. (given w).1)))
    (keeps_bodies book (λ w. (given w).0))).does (register_declarations book) 0 (λ w. (given w).2)

-- of each event, if the numbers of results are within their widths too
all-fine :
    (W : Type 0) (book : Book) → (W → SizedBook book) →
    ((m : ℕ) → suc m ≤ length (written (events (lower_records (settled book) book) 0)) → W → m < 2 ^ 16) →
    All (Fine W ⊥) (events (lower_records (settled book) book) 0)
all-fine W book given below =
    all-events (Below W) (Fine W ⊥) _ (lower_records (settled book) book) 0 (λ m l. below m (omega arith)) (does_all W book given)

pub no_step_beyond : NoStepBeyond
no_step_beyond book before rest d e =
    all_split (Fine ⊥ ⊥) before rest (resolves d)
    (subst (All (Fine ⊥ ⊥)) e (all-fine ⊥ book (λ w. absurd w) (λ m l w. absurd w)))

all_told : (es : List Event) → All (Fine ⊥ ⊥) es → All IsDiagnostic (told es)
unfolding told
all_told [] h = tt
all_told (lowers p ∷ es) h = all_told es h.1
all_told (resolves d ∷ es) h = all_told es h.1
all_told (tells r ∷ es) h = (h.0.0, all_told es h.1)
all_told (writes r ∷ es) h = all_told es h.1

pub told_are_diagnostics : ToldAreDiagnostics
told_are_diagnostics book = all_told _ (all-fine ⊥ book (λ w. absurd w) (λ m l w. absurd w))

pub reached_are_written : ReachedAreWritten
unfolding lower_records constants_in
reached_are_written book =
    (writes_then
    (writes_after (keeps_each _ (keeps_alias book (λ w. absurd w)) (plain_aliases book)) (λ x. writes_constants book (settled book) (settled_named book)))
    (λ x. writes_none (keeps_bodies book (λ w. absurd w)))).exactly (register_declarations book) 0
    ∙ append-nil _

marked_in : (rs : List Record) → length (keep is_stored rs) ≡ marked (constants_in rs)
unfolding constants_in keep
marked_in [] = refl
marked_in (r ∷ rs) = go (is_kind 41 r) (eqb r.sub 1) refl refl (marked_in rs)
  where
    go :
        (b c : Bool) → is_kind 41 r ≡ b → eqb r.sub 1 ≡ c → length (keep is_stored rs) ≡ marked (constants_in rs) →
        length (keep is_stored (r ∷ rs)) ≡ marked (constants_in (r ∷ rs))
    go false c p q e = rw p e
    go true false p q e = rw (p, q) e
    go true true p q e = rw (p, q) (ap suc e)

pub stored_are_counted : StoredAreCounted
stored_are_counted book = marked_in _ ∙ ap marked (reached_are_written book) ∙ marked_are_counted (settled book)

-- the results and the diagnostics among events
all-written : (es : List Event) → All (Fine Unit ⊥) es → All Within (written es) × All Within (told es)
unfolding written told
all-written [] h = (tt, tt)
all-written (lowers p ∷ es) h = all-written es h.1
all-written (resolves d ∷ es) h = all-written es h.1
all-written (tells r ∷ es) h = let x = all-written es h.1 in (x.0, (h.0.1 tt, x.1))
all-written (writes r ∷ es) h = let x = all-written es h.1 in ((h.0.1 tt, x.0), x.1)

-- a book of bytes that none of 1 to 8 refuses is within its widths
accepted_sized : (book : List ℕ) → AreBytes book → first_refusal book ≡ none → SizedBook (read book)
unfolding read
accepted_sized book each e = (
  records-within book each,
  settled_are_i64 book each,
  start_sound (read book) (omega (arith, (accepted_is_readable book e).few_records, (accepted_is_readable book e).counted)),
)

pub written_within : WrittenWithin
written_within book most a s each e few h =
    let t = lower_records (settled (read book)) (read book) in
    let x = finished_adds (Unit × Names) most t start a s h in
    let less : length s.results ≤ 2048 = omega (arith, x.results_within (omega arith)) in
    let y =
    all-written (events t 0)
    (all-fine Unit (read book) (λ w. accepted_sized book each e) (λ m l w. omega (arith, ap (λ (rs : List Record). length rs) x.results))) in
    (rw x.results y.0, rw x.diagnostics y.1)

pub numbers_are_counted : NumbersAreCounted
unfolding numbers_given
numbers_are_counted book most a s each e few h =
    let t = lower_records (settled (read book)) (read book) in
    let x = finished_adds (Unit × Names) most t start a s h in
    let less : length s.results ≤ 2048 = omega (arith, x.results_within (omega arith)) in
    let y =
    the_answer (Below Unit) (Fine Unit ⊥) _ t 0 (λ m l w. omega (arith, ap (λ (rs : List Record). length rs) x.results))
    (does_all Unit (read book) (λ w. accepted_sized book each e)) in
    ap (λ (z : Unit × Names). z.1.next) (sym x.gives) ∙ (y.1 tt).counted
