-- An accepted book is readable: none of causes 1 to 8 holds anywhere, and what that says of its records.
-- Assumes nothing.
use Prim.Native.Nat.{ℕ, ◌<◌}
use mathlib.Core.Bool.{Bool, true, false, not, ◌&&◌, ◌||◌, or-false, false≢true}
use mathlib.Core.List.{List, [], ◌∷◌, ◌++◌, flat_map}
use mathlib.Core.Option.{Option, some, none, or_else, some-ne-none}
use mathlib.Core.Path.{◌≡◌, refl, sym, ◌∙◌}
use native.Mathlib.Omega.{arith}
use lib.Dec.{leb, ltb, eqb}
use lib.ListN.{length}
use borrow.Author.Tests.{leb-false, ltb-true, not-false, lt-ltb}
use Rattle.record.specs.declared.Record.{Record}
use Rattle.book.specs.Lists.{All, any, find, up_to}
use Rattle.book.specs.Shape.{Field, Row, Child, allows, row_of, fits, well_shaped, children, name_in, names_by, names, is_of}
use Rattle.book.specs.Shape.{unused, flag, bits, name, name?, string, string?, ordinal, free, child, child?}
use Rattle.book.specs.Blocks.{length_fault, blocks, record_count, records, wildcards}
use Rattle.book.specs.Faults.{record_of, shape_fault, used_before, used_twice, is_wrong, child_fault, before, is_kind, is_union_tombstone}
use Rattle.book.specs.Faults.{follows, under, fields_go_here, may_follow, follow_fault, depth_fault}
use Rattle.book.specs.Refusal.{Cause, Refusal, book_length, at, at_block, at_record, faulty, holds, first_refusal}
use Rattle.book.specs.Refusal as cause
use Rattle.book.specs.Answer.{accepted, answer_by, read_book}
use Rattle.book.specs.First.{has_place}
use Rattle.book.specs.Accepted.{Kept}
use Rattle.book.specs.Trees.{IsChild, IsRecord, InRange, Readable, AcceptedIsReadable, ReadIsReadable}
use Rattle.book.proofs.First.{passed_by_all}
use Rattle.book.proofs.Lists.{all_append}
use Rattle.book.proofs.Records.{records-length, record_here}
use Rattle.book.proofs.Trees.{not_so, both_not, both_so, none_passes}
use Rattle.book.proofs.Answers.{some_blocks, by_parts, last_few, absent, counted}

-- names that a field allows are below 4,096
named_in : (f : Field) (x : ℕ) → allows f x ≡ true → All (λ x. x < 4096) (name_in f x)
unfolding allows name_in
named_in name x e = (ltb-true x 4096 e, tt)
named_in name? x e = go (eqb x 65535) e
  where
    go : (b : Bool) → ltb x 4096 || b ≡ true → All (λ x. x < 4096) (elim b [ true ↦ [] | false ↦ x ∷ [] ])
    go true e = tt
    go false e = (ltb-true x 4096 (sym (or-false (ltb x 4096)) ∙ e), tt)
named_in unused x e = tt
named_in flag x e = tt
named_in bits x e = tt
named_in string x e = tt
named_in string? x e = tt
named_in ordinal x e = tt
named_in free x e = tt
named_in (child g) x e = tt
named_in (child? g) x e = tt

named_by : (r : Record) (o : Option Row) → fits r o ≡ true → All (λ x. x < 4096) (names_by r o)
named_by r none e = tt
named_by r (some w) e =
    let (abc, v) = both_so (allows w.a r.a && allows w.b r.b && allows w.c r.c) (allows w.v r.v) e in
    let (ab, c) = both_so (allows w.a r.a && allows w.b r.b) (allows w.c r.c) abc in
    let (a, b) = both_so (allows w.a r.a) (allows w.b r.b) ab in
    let P : ℕ → Type 0 = λ x. x < 4096 in
    let (na, nb, nc) : List ℕ × List ℕ × List ℕ = (name_in w.a r.a, name_in w.b r.b, name_in w.c r.c) in
    all_append P (na ++ nb) nc (all_append P na nb (named_in w.a r.a a) (named_in w.b r.b b)) (named_in w.c r.c c)

-- a test that is asked of some records only
asked : (a b : Bool) → not a || b ≡ true → a ≡ true → b ≡ true
asked true b e is = e
asked false b e is = absurd (false≢true is)

-- what the follow rule says of items under a declaration
module _ (r : Record) (bs : List Record) (e : may_follow r bs ≡ true) where
  body : (is_kind 31 r || is_kind 32 r && eqb r.sub 0 ≡ true → fields_go_here bs ≡ true) × (is_union_tombstone r || is_kind 33 r ≡ true → under 21 bs ≡ true)
  unfolding may_follow
  body =
      let parameter = not (is_kind 30 r) || follows (23 ∷ 30 ∷ []) bs in
      let annotation = not (is_kind 34 r) || follows (20 ∷ 31 ∷ 34 ∷ 35 ∷ []) bs in
      let argument = not (is_kind 35 r) || follows (34 ∷ 35 ∷ []) bs in
      let reason = not (is_kind 36 r) || follows (32 ∷ 36 ∷ []) bs in
      let is_field = is_kind 31 r || is_kind 32 r && eqb r.sub 0 in
      let is_variant = is_union_tombstone r || is_kind 33 r in
      let (rest, variants) = both_so (parameter && annotation && argument && reason && (not is_field || fields_go_here bs)) (not is_variant || under 21 bs) e in
      let (_, fields) = both_so (parameter && annotation && argument && reason) (not is_field || fields_go_here bs) rest in
      (asked is_field (fields_go_here bs) fields, asked is_variant (under 21 bs) variants)

module _ (book : List ℕ) (e : first_refusal book ≡ none) where
  abbrev rs : List Record
  rs = records book

  passes : (c : Cause) (n : ℕ) → has_place book c n ≡ true → faulty book rs c n ≡ false
  passes c n h = not_so _ ((passed_by_all book).0 e (at c n) h)

  right : length_fault book ≡ false
  unfolding faulty has_place
  right = passes book_length 0 refl

  child_of : (n : ℕ) (c : Child) → is_wrong rs n c ≡ false → IsChild rs n c
  child_of n c f =
      let (g, fresh) = both_not (leb n c.number || not (is_of c.group (record_of rs c.number))) (used_before rs n c.number) f in
      let (less, is) = both_not (leb n c.number) (not (is_of c.group (record_of rs c.number))) g in
      record { earlier = leb-false _ _ less; of_group = not-false _ is; unused = fresh }

  is_record : (n : ℕ) → n < length rs → IsRecord rs n
  unfolding has_place faulty shape_fault child_fault follow_fault depth_fault well_shaped names
  is_record n less =
      let here : ltb n (record_count book) ≡ true = lt-ltb n (record_count book) (omega (arith, records-length book)) in
      let r = record_of rs n in
      let shaped = not-false (fits r (row_of r)) (passes cause.shape n here) in
      let (right, twice) = both_not (any (is_wrong rs n) (children r)) (used_twice (children r)) (passes cause.child n here) in
      let follows = not-false (may_follow r (before rs n)) (passes cause.follow n here) in
      record {
        shaped = shaped;
        named = named_by r (row_of r) shaped;
        children_are = none_passes (is_wrong rs n) (child_of n) (children r) right;
        none_twice = twice;
        follows = follows;
        fields_under = (body r (before rs n) follows).0;
        variants_under = (body r (before rs n) follows).1;
        new_name = passes cause.name n here;
        shallow = λ low. rw (lt-ltb _ _ low) at (passes cause.depth n here);
      }

  none_in_blocks : find (holds book) (flat_map at_block (up_to (blocks book))) ≡ none
  unfolding or_else
  none_in_blocks = go _ refl (sym (by_parts book right) ∙ e)
    where
      go :
          (o : Option Refusal) → find (holds book) (flat_map at_block (up_to (blocks book))) ≡ o →
          or_else o (find (holds book) (flat_map at_record (up_to (record_count book)))) ≡ none → find (holds book) (flat_map at_block (up_to (blocks book))) ≡ none
      go none is e = is
      go (some x) is e = absurd (some-ne-none _ e)

  in_range : (n : ℕ) → n < record_count book → InRange book n
  unfolding record_count
  in_range n less = record {
    there = record_here book n less;
    inside = omega (arith, some_blocks book right, last_few book right none_in_blocks);
  }

  some_records : 0 < record_count book
  unfolding record_count
  some_records = omega (arith, last_few book right none_in_blocks)

pub accepted_is_readable : AcceptedIsReadable
accepted_is_readable book e =
    let records_are = counted book (right book e) (none_in_blocks book e) in
    record {
      some_records = some_records book e;
      few_records = records_are.few;
      counted = records-length book;
      in_range = in_range book e;
      well_formed = is_record book e;
    }

-- and what reading keeps of such bytes
pub kept_of :
    (book : List ℕ) → first_refusal book ≡ none → {count : ℕ} {wild : Bool} → count ≡ record_count book → wild ≡ wildcards book →
    Kept book count wild
kept_of book e is of_book =
    record {
      readable = accepted_is_readable book e;
      counted = is;
      wild = of_book;
      absent = absent book (right book e) (none_in_blocks book e);
    }

pub read_is_readable : ReadIsReadable
unfolding read_book answer_by
read_is_readable book n w = by (first_refusal book) refl
  where
    by :
        (o : Option Refusal) → first_refusal book ≡ o → answer_by o book ≡ accepted n w →
        Readable book × (n ≡ record_count book) × (w ≡ wildcards book)
    by none e is = (accepted_is_readable book e, cc, cc)
    by (some x) e is = let z : ◌≡◌ {A = ℕ} 0 1 = cc in absurd (omega arith)
