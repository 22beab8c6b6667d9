-- The promise of the value form, from what its callees ensure.
-- Assumes nothing.
use Prim.Native.Nat.{ℕ, zero, suc, ◌-◌, ◌*◌, ◌≤◌, min, zero-le}
use native.Mathlib.Nat.{not-suc-le-zero, le_of_suc-le-suc}
use mathlib.Core.List.{List, ◌∷◌, ◌++◌, map}
use mathlib.Core.Path.{◌≡◌, refl, sym, ap, ap₂, ◌∙◌}
use native.Mathlib.Omega.{arith}
use lib.ListN.{length, take, replicate, length-map, length-replicate}
use lib.Seq.{take_at}
use Rattle.record.specs.Bytes.{AreBytes}
use Rattle.record.specs.Write.{room_for, with_records, cleared}
use Rattle.book.specs.Lists.{from}
use Rattle.book.specs.Outline.{read}
use Rattle.types.specs.declared.LowerCtx.{LowerCtx}
use Rattle.types.specs.Events.{told}
use Rattle.lower.specs.declared.Counted.{Counted}
use Rattle.lower.specs.LowerBook.{Reply, Outcome, lower_book}
use Rattle.lower.specs.Promise.{reply_of, outcome_of}
use Rattle.lower.specs.Laws.{first_records}
use Rattle.lower.specs.Counters.{counters_after}
use Rattle.lower.proofs.Slices.{read_back}
use Rattle.lent.specs.declared.Diagnostic.{Diagnostic}
use Rattle.lent.specs.Diagnostics.{diagnostic_of, no_diagnostic}
use Rattle.lent.specs.Lent.{bytes_for, as_bytes, front, front_of, Stepped}
use Rattle.lent.proofs.Structs.{read_cleared}
use Rattle.lent.proofs.Ways.{Both, Way, left_alone, zeroed, lowered, zeros_room, way, counters_with}

-- a book was lowered with 24 zeros for each struct that may be told, and n structs are read from what is left there
pub record Lowers (ctx : LowerCtx) (book results : List ℕ) (room : ℕ) (c : Counted) (results' s' : List ℕ) (n : ℕ) : Type 0 where
  pub bytes : AreBytes book
  pub lowers : outcome_of c.reply results' s' ≡ lower_book book results (bytes_for (min 256 room))
  pub counters : c.ctx ≡ counters_after ctx book results (bytes_for (min 256 room))
  pub count : (l : List ℕ) → n ≡ length (front (reply_of c.reply) l room)

module _
    {ctx : LowerCtx} {book results : List ℕ} {room : ℕ} {c : Counted} {results' s' : List ℕ} {n : ℕ}
    (x : Lowers ctx book results room c results' s' n) where
  abbrev s : List ℕ
  s = bytes_for (min 256 room)

  limited : room_for 256 s ≡ min 256 room
  limited = omega (arith, zeros_room (min 256 room))

  -- what is read there are the structs at the front, and all else is as with a slice for so many structs
  record Reads : Type 0 where
    reply_same : reply_of c.reply ≡ (as_bytes book results room).reply
    results_same : results' ≡ (as_bytes book results room).results
    count_is : n ≡ length (front_of book results room)
    read_are : map diagnostic_of (first_records n s') ≡ front_of book results room
    few : n ≤ min 256 room

  reads_by :
      {reply : Reply} {results'' : List ℕ} {after : LowerCtx → LowerCtx} {ds : List Diagnostic} {s'' : List ℕ} →
      Both book results room s reply results'' after ds s'' → length ds ≤ min 256 room → map diagnostic_of (first_records (length ds) s'') ≡ ds →
      Reads
  reads_by {ds} b few read =
      let gives = x.lowers ∙ b.with_s in
      let same : reply_of c.reply ≡ (as_bytes book results room).reply = ap (λ (y : Outcome). y.reply) gives ∙ sym b.reply_is in
      let is : n ≡ length (front_of book results room) =
      x.count _ ∙ ap (λ (r : Reply). length (front r (as_bytes book results room).diagnostics room)) same in
      let long : n ≡ length ds = is ∙ ap (λ (l : List Diagnostic). length l) b.structs_are in
      record {
        reply_same = same;
        results_same = ap (λ (y : Outcome). y.results) gives ∙ sym b.results_are;
        count_is = is;
        read_are =
            ap₂ (λ (m : ℕ) (l : List ℕ). map diagnostic_of (first_records m l)) long (ap (λ (y : Outcome). y.diagnostics) gives)
            ∙ read
            ∙ sym b.structs_are;
        few = omega arith;
      }

  reads : Reads
  unfolding first_records from
  reads = by (way book results room s x.bytes limited)
    where
      at : {k m : ℕ} (l : List ℕ) → k ≡ m → map diagnostic_of (first_records k l) ≡ map diagnostic_of (first_records m l)
      at l e = ap (λ (j : ℕ). map diagnostic_of (first_records j l)) e

      by : Way book results room s → Reads
      by (left_alone m p h b) = reads_by b zero-le refl
      by (zeroed m p h b) =
          let long = length-replicate (min 256 room) no_diagnostic in
          reads_by b (omega arith) (at (cleared (min 256 room) s) long ∙ read_cleared (min 256 room) s)
      by (lowered next stored rs ds i j is within few b) =
          let long = length-map ds diagnostic_of in
          reads_by b (omega arith) (at (with_records ds s) long ∙ ap (map diagnostic_of) (read_back ds s within))

  pub step_few : n ≤ 256
  step_few = omega (arith, reads.few)

  pub stepped :
      (told : List Diagnostic) → told ≡ map diagnostic_of (first_records n s') ++ replicate (256 - n) no_diagnostic →
      Stepped ctx book results room (record { ctx = c.ctx; reply = c.reply; count = n; told = told }) results'
  stepped told e =
      let zeros = replicate (256 - n) no_diagnostic in
      let are : told ≡ front_of book results room ++ zeros = e ∙ ap (λ (l : List Diagnostic). l ++ zeros) reads.read_are in
      record {
        reply_is = reads.reply_same;
        ctx_is = x.counters ∙ counters_with ctx book results s (bytes_for room) (limited ∙ sym (zeros_room room));
        results_are = reads.results_same;
        count_is = reads.count_is;
        front_is = ap (take n) are ∙ take_at (front_of book results room) zeros n (sym reads.count_is);
        told_are = are;
        few = step_few;
        room_for = omega (arith, reads.few);
      }

-- 24 zeros for each struct that may be told, at the front of as many as there can be
take_same : {A : Type 0} (a : A) (n m : ℕ) → n ≤ m → take n (replicate m a) ≡ replicate n a
take_same a zero m h = refl
take_same a (suc n) zero h = absurd (not-suc-le-zero h)
take_same {A} a (suc n) (suc m) h = ap {B = List A} (λ l. a ∷ l) (take_same a n m (le_of_suc-le-suc h))

pub zeros_for : (n : ℕ) → n ≤ 256 → take {A = ℕ} (24 * n) (replicate 6144 0) ≡ bytes_for n
zeros_for n h = take_same 0 (24 * n) 6144 (omega arith)
