-- The answer by parts: the length, the blocks, the records.
-- Assumes nothing.
use Prim.Native.Nat.{ℕ, zero, suc, ◌+◌, ◌-◌, ◌*◌, ◌/◌, ◌%◌, ◌≤◌, ◌<◌}
use mathlib.Core.Bool.{Bool, true, false, cond, not, ◌&&◌, ◌||◌, false≢true, true≢false}
use mathlib.Core.List.Memᴰ
use mathlib.Core.List.{List, [], ◌∷◌, flat_map}
use Rattle.std.specs.Prelude.{Result, Ok, Err}
use mathlib.Core.Option.{Option, some, none, or_else}
use mathlib.Core.Path.{◌≡◌, refl, sym, ap, ◌∙◌, subst}
use native.Mathlib.Omega.{arith}
use lib.Dec.{eqb, leb, ltb}
use lib.ListN.{length, take, drop, get_or}
use Rattle.std.proofs.lemmas.List.{get_or-drop, get_or-take, get_or_past}
use borrow.Author.Tests.{eqb-false, ltb-false, leb-true, leb-false, eqb-true, eq-eqb, not-false}
use Rattle.record.specs.declared.refusal.Cause as code
use Rattle.record.specs.declared.refusal.Cause.TheVariants.{BookLength, Check, Block, Shape, Child, Follow, Name, Depth, TooDeep, Full}
use Rattle.record.specs.declared.refusal.Refusal as answered
use Rattle.book.specs.Lists.{any, find, up_to}
use Rattle.record.specs.Layout.{record_at, decode_record}
use Rattle.record.proofs.Pads.{same_record}
use Rattle.record.specs.Bytes.{little_endian}
use Rattle.book.specs.Blocks as of
use Rattle.book.specs.Blocks.{length_fault, blocks, records_in, count_holds, byte3_holds, rest_holds, block_fault, record_count, records, wildcards}
use Rattle.book.specs.Refusal.{Cause, shape, child, follow, name, depth, check}
use Rattle.book.specs.Refusal.{Refusal, book_length, block, number, at, at_block, at_record, faulty, holds, in_order, first_refusal}
use Rattle.record.specs.Refused.{number_of}
use Rattle.book.specs.declared.Reading.{Reading}
use Rattle.book.specs.declared.Reading.TheVariants.{Accepted, Refused}
use Rattle.book.specs.Answer.{Answer, accepted, refused, named, refused_by, outcome, answer_by, read_book, reading_of, refusal_word, ReadingTells}
use Rattle.book.specs.Outline.{Book, read}
use Rattle.book.specs.Accepted.{blank, book_or, book_of, book_in, result_of, ReadsAsAnswered}
use Rattle.book.specs.Tables.{Counted}
use Rattle.book.proofs.First.{find-append}
use Rattle.book.proofs.Records.{records-length}
use Rattle.book.proofs.Members.{Found, found}
use Rattle.book.proofs.Trees.{both_not, both_so}
use Rattle.book.proofs.Scans.{find_hit, find_miss, scan_none}

-- what went well did not fail
pub err_not_ok : {e : answered.Refusal} (x : Unit {0}) → ◌≡◌ {A = Result Unit answered.Refusal} (Err e) (Ok x) → ⊥
err_not_ok x is = cc

-- of four tests that hold, the second; and what it says where it is made for the last block
second_holds : (a b c d : Bool) → not (a && b && c && d) ≡ false → b ≡ true
second_holds true true c d e = refl
second_holds true false c d e = absurd (true≢false e)
second_holds false b c d e = absurd (true≢false e)

counts : (last low high other : Bool) → last ≡ true → cond last (low && high) other ≡ true → (low ≡ true) × (high ≡ true)
counts true low high other l e = both_so low high e
counts false low high other l e = absurd (false≢true l)

-- what is not untrue
pub not_true : (b : Bool) → not b ≡ true → b ≡ false
not_true true e = absurd (false≢true e)
not_true false e = refl

-- and the last
last_holds : (a b c d : Bool) → not (a && b && c && d) ≡ false → d ≡ true
last_holds true true true d e = not-false d e
last_holds true true false d e = absurd (true≢false e)
last_holds true false c d e = absurd (true≢false e)
last_holds false b c d e = absurd (true≢false e)

-- where no byte is other than zero each is
zero_at : (l : List ℕ) → any (λ x. not (eqb x 0)) l ≡ false → (i : ℕ) → get_or l i 0 ≡ 0
unfolding any
zero_at [] e i = refl
zero_at (x ∷ l) e i = go (eqb x 0) refl e i (zero_at l)
  where
    go :
        (b : Bool) → eqb x 0 ≡ b → elim (not b) [ true ↦ true | false ↦ any (λ x. not (eqb x 0)) l ] ≡ false → (i : ℕ) →
        (any (λ x. not (eqb x 0)) l ≡ false → (i : ℕ) → get_or l i 0 ≡ 0) → get_or (x ∷ l) i 0 ≡ 0
    go true t e zero rest = eqb-true x 0 t
    go true t e (suc i) rest = rest e i
    go false t e i rest = absurd (true≢false e)

module _ (book : List ℕ) where
  -- the first refusal among the blocks, and among the records
  abbrev in_blocks : Option Refusal
  in_blocks = find (holds book) (flat_map at_block (up_to (blocks book)))

  abbrev in_records : Option Refusal
  in_records = find (holds book) (flat_map at_record (up_to (record_count book)))

  pub by_length : length_fault book ≡ true → first_refusal book ≡ some (at book_length 0)
  unfolding first_refusal in_order faulty
  by_length e = find_hit (holds book) (at book_length 0) _ e

  -- the length is right
  module _ (right : length_fault book ≡ false) where
    pub some_blocks : (0 < blocks book) × (blocks book ≤ 64) × (length book ≡ 512 * blocks book)
    unfolding length_fault
    some_blocks =
        let n = length book in
        let (a, whole) = both_not (eqb n 0 || ltb 32768 n) (not (eqb (n % 512) 0)) right in
        let (filled, few) = both_not (eqb n 0) (ltb 32768 n) a in
        let m : n % 512 ≡ 0 = eqb-true _ _ (not-false _ whole) in
        let z : ¬ (n ≡ 0) = eqb-false _ _ filled in
        (omega arith, omega (arith, ltb-false 32768 n few), omega arith)

    pub by_parts : first_refusal book ≡ or_else in_blocks in_records
    unfolding first_refusal in_order faulty
    by_parts = find_miss (holds book) (at book_length 0) _ right ∙ find-append (holds book) (flat_map at_block (up_to (blocks book))) _

    by_blocks : (x : Refusal) → in_blocks ≡ some x → first_refusal book ≡ some x
    unfolding or_else
    by_blocks x e = by_parts ∙ ap (λ o. or_else o in_records) e

    -- the blocks are right
    module _ (fine : in_blocks ≡ none) where
      by_records : first_refusal book ≡ in_records
      unfolding or_else
      by_records = by_parts ∙ ap (λ o. or_else o in_records) fine

      -- the last block has 1 to 21 records
      pub last_few : (1 ≤ records_in book (blocks book - 1)) × (records_in book (blocks book - 1) ≤ 21)
      unfolding faulty block_fault
      last_few =
          let last = blocks book - 1 in
          let passed = scan_none (holds book) at_block (blocks book) 0 fine last (omega arith) (omega (arith, some_blocks)) in
          let each = subst (Found (holds book) (at_block last)) passed (found (holds book) (at_block last)) in
          let rule = each (at block last) (Memᴰ.tail (Memᴰ.head refl)) in
          let count = second_holds (eqb (little_endian 2 (of.block book last)) last) (count_holds book last) (byte3_holds book last) (rest_holds book last) rule in
          let n = records_in book last in
          let is_last : last + 1 ≡ blocks book = omega (arith, some_blocks) in
          let (low, high) = counts (eqb (last + 1) (blocks book)) (leb 1 n) (leb n 21) (eqb n 21) (eq-eqb _ _ is_last) count in
          (leb-true 1 n low, leb-true n 21 high)

      -- behind the records of the last block its bytes are zero
      rest_zero : (i : ℕ) → 4 + 24 * records_in book (blocks book - 1) ≤ i → i < 510 → get_or book (512 * (blocks book - 1) + i) 0 ≡ 0
      unfolding faulty block_fault
      rest_zero i low high =
          let last = blocks book - 1 in
          let used : ℕ = 4 + 24 * records_in book last in
          let passed = scan_none (holds book) at_block (blocks book) 0 fine last (omega arith) (omega (arith, some_blocks)) in
          let each = subst (Found (holds book) (at_block last)) passed (found (holds book) (at_block last)) in
          let rule = each (at block last) (Memᴰ.tail (Memᴰ.head refl)) in
          let rest = last_holds (eqb (little_endian 2 (of.block book last)) last) (count_holds book last) (byte3_holds book last) (rest_holds book last) rule in
          let part : List ℕ = take (510 - used) (drop used (drop (512 * last) book)) in
          let zero_is : get_or part (i - used) 0 ≡ 0 = zero_at part (not_true _ rest) (i - used) in
          let inside : i - used < 510 - used = omega arith in
          ap (λ k. get_or book k 0) (let e : 512 * last + i ≡ 512 * last + (used + (i - used)) = omega arith in e)
          ∙ sym (get_or-drop (512 * last) book (used + (i - used)) 0)
          ∙ sym (get_or-drop used (drop (512 * last) book) (i - used) 0)
          ∙ sym (get_or-take (510 - used) (drop used (drop (512 * last) book)) (i - used) 0 inside)
          ∙ zero_is

      -- and past the last record there is none
      pub absent : (n : ℕ) → record_count book ≤ n → record_at book n ≡ blank
      unfolding record_count record_at decode_record little_endian
      absent n past = same_record (drop (512 * (n / 21) + 4 + 24 * (n % 21)) book) [] bytes
        where
          behind : (j : ℕ) → j < 24 → (b : Bool) → leb (blocks book) (n / 21) ≡ b → get_or book (512 * (n / 21) + 4 + 24 * (n % 21) + j) 0 ≡ 0
          behind j low true t = get_or_past book (512 * (n / 21) + 4 + 24 * (n % 21) + j) 0 (omega (arith, some_blocks, leb-true _ _ t))
          behind j low false t =
              let before = leb-false _ _ t in
              let same : 512 * (n / 21) + 4 + 24 * (n % 21) + j ≡ 512 * (blocks book - 1) + (4 + 24 * (n % 21) + j) = omega (arith, some_blocks, last_few) in
              ap (λ k. get_or book k 0) same
              ∙ rest_zero (4 + 24 * (n % 21) + j) (omega (arith, some_blocks, last_few)) (omega arith)

          bytes : (j : ℕ) → j < 24 → get_or (drop (512 * (n / 21) + 4 + 24 * (n % 21)) book) j 0 ≡ get_or [] j 0
          bytes j low =
              get_or-drop (512 * (n / 21) + 4 + 24 * (n % 21)) book j 0 ∙ behind j low (leb (blocks book) (n / 21)) refl

      pub counted : Counted book (record_count book)
      unfolding record_count
      counted = record { all = refl; few = omega (arith, some_blocks, last_few) }

-- what a part of the reading answers for the whole
pub book_refused : (book : List ℕ) {o : Option Refusal} {e : answered.Refusal} → first_refusal book ≡ o → Err e ≡ outcome o → Err e ≡ book_of book
unfolding outcome book_of book_or
book_refused book {o} {e} first is = go o is ∙ ap (λ o. book_or o book) (sym first)
  where
    go : (o : Option Refusal) → Err e ≡ outcome o → Err e ≡ book_or o book
    go none is = absurd (err_not_ok tt is)
    go (some x) is = let same : e ≡ refused_by x = cc in ap (λ (e : answered.Refusal). let r : Result Book answered.Refusal = Err e in r) same

-- none of its refusals holds
none_found : {x : Unit {0}} (o : Option Refusal) → Ok x ≡ outcome o → o ≡ none
unfolding outcome
none_found none is = refl
none_found {x} (some y) is = absurd (err_not_ok x (sym is))

pub book_read : (book : List ℕ) → first_refusal book ≡ none → Ok (read book) ≡ book_of book
unfolding book_of book_or
book_read book first = ap (λ o. book_or o book) (sym first)

-- the blocks refuse, or the records do, or none does
module _ (book : List ℕ) (right : length_fault book ≡ false) where
  pub refused_in_blocks : {e : answered.Refusal} → Err e ≡ outcome (in_blocks book) → Err e ≡ book_of book
  unfolding outcome
  refused_in_blocks {e} is = go (in_blocks book) refl is
    where
      go : (o : Option Refusal) → in_blocks book ≡ o → Err e ≡ outcome o → Err e ≡ book_of book
      go none first is = absurd (err_not_ok tt is)
      go (some x) first is = book_refused book (by_blocks book right x first) is

  module _ {x : Unit {0}} (passed : Ok x ≡ outcome (in_blocks book)) where
    fine : in_blocks book ≡ none
    fine = none_found (in_blocks book) passed

    pub counted_at : {count : ℕ} → count ≡ record_count book → Counted book count
    counted_at is = subst (Counted book) (sym is) (counted book right fine)

    pub none_there : (n : ℕ) → record_count book ≤ n → record_at book n ≡ blank
    none_there = absent book right fine

    module _ {count : ℕ} (is : count ≡ record_count book) where
      pub refused_in_records : {e : answered.Refusal} → Err e ≡ outcome (find (holds book) (flat_map at_record (up_to count))) → Err e ≡ book_of book
      refused_in_records {e} told =
          book_refused book (by_records book right fine)
          (subst (λ n. Err e ≡ outcome (find (holds book) (flat_map at_record (up_to n)))) is told)

      pub none_refused : {y : Unit {0}} → Ok y ≡ outcome (find (holds book) (flat_map at_record (up_to count))) → first_refusal book ≡ none
      none_refused {y} told =
          by_records book right fine
          ∙ none_found (in_records book) (subst (λ n. Ok y ≡ outcome (find (holds book) (flat_map at_record (up_to n)))) is told)

-- the same as one number
number_named : (c : Cause) → number_of (named c) ≡ number c
unfolding number
number_named book_length = refl
number_named check = refl
number_named block = refl
number_named shape = refl
number_named child = refl
number_named follow = refl
number_named name = refl
number_named depth = refl

ok_no_book : {e : answered.Refusal} {k : Book} → ◌≡◌ {A = Result Book answered.Refusal} (Err e) (Ok k) → ⊥
ok_no_book is = cc

module _ (book : List ℕ) where
  pub word_read : {k : Book} → Ok k ≡ book_of book → 0 ≡ refusal_word (read_book book)
  unfolding book_of book_or read_book answer_by refusal_word
  word_read {k} is = go (first_refusal book) is
    where
      go : (o : Option Refusal) → Ok k ≡ book_or o book → 0 ≡ refusal_word (answer_by o book)
      go none is = refl
      go (some x) is = absurd (ok_no_book (sym is))

  pub word_refused : {e : answered.Refusal} → Err e ≡ book_of book → 65536 * number_of e.cause + e.place ≡ refusal_word (read_book book)
  unfolding book_of book_or read_book answer_by refusal_word
  word_refused {e} is = go (first_refusal book) is
    where
      go : (o : Option Refusal) → Err e ≡ book_or o book → 65536 * number_of e.cause + e.place ≡ refusal_word (answer_by o book)
      go none is = absurd (ok_no_book is)
      go (some x) is =
          let same : e ≡ refused_by x = cc in
          ap (λ (e : answered.Refusal). 65536 * number_of e.cause + e.place) same ∙ ap (λ n. 65536 * n + x.place) (number_named x.cause)

-- what is read is what is answered
pub reads_as_answered : ReadsAsAnswered
unfolding book_of book_or read_book answer_by result_of book_in read records
reads_as_answered bytes = go (first_refusal bytes)
  where
    go : (o : Option Refusal) → book_or o bytes ≡ result_of (answer_by o bytes) bytes
    go none = refl
    go (some x) = refl

ok_is : {j k : Book} → ◌≡◌ {A = Result Book answered.Refusal} (Ok j) (Ok k) → j ≡ k
ok_is is = cc

-- the answer as the code hands it out
module _ (book : List ℕ) where
  pub reading_read : {k : Book} → Ok k ≡ book_of book → Accepted (length k.records) k.wildcards ≡ reading_of (read_book book)
  unfolding book_of book_or read_book answer_by reading_of read
  reading_read {k} is = go (first_refusal book) is
    where
      go : (o : Option Refusal) → Ok k ≡ book_or o book → Accepted (length k.records) k.wildcards ≡ reading_of (answer_by o book)
      go none is = ap (λ (k : Book). Accepted (length k.records) k.wildcards) (ok_is is) ∙ ap (λ n. Accepted n (wildcards book)) (records-length book)
      go (some x) is = absurd (ok_no_book (sym is))

  pub reading_refused : {e : answered.Refusal} → Err e ≡ book_of book → Refused e.cause e.place ≡ reading_of (read_book book)
  unfolding book_of book_or read_book answer_by reading_of
  reading_refused {e} is = go (first_refusal book) is
    where
      go : (o : Option Refusal) → Err e ≡ book_or o book → Refused e.cause e.place ≡ reading_of (answer_by o book)
      go none is = absurd (ok_no_book is)
      go (some x) is = let same : e ≡ refused_by x = cc in ap (λ (e : answered.Refusal). Refused e.cause e.place) same

-- what is handed out tells the answer; reading finds neither of the last two causes
row_of_cause : code.Cause → Cause
row_of_cause BookLength = book_length
row_of_cause Check = check
row_of_cause Block = block
row_of_cause Shape = shape
row_of_cause Child = child
row_of_cause Follow = follow
row_of_cause Name = name
row_of_cause Depth = depth
row_of_cause TooDeep = depth
row_of_cause Full = depth

answer_of : Reading → Answer
answer_of (Accepted n w) = accepted n w
answer_of (Refused c p) = refused (at (row_of_cause c) p)

answer_is : (a : Answer) → answer_of (reading_of a) ≡ a
unfolding answer_of reading_of row_of_cause
answer_is (accepted n w) = refl
answer_is (refused x) = ap (λ c. refused (at c x.place)) (row_is x.cause)
  where
    row_is : (c : Cause) → row_of_cause (named c) ≡ c
    row_is book_length = refl
    row_is check = refl
    row_is block = refl
    row_is shape = refl
    row_is child = refl
    row_is follow = refl
    row_is name = refl
    row_is depth = refl

pub reading_tells : ReadingTells
reading_tells a b same = sym (answer_is a) ∙ ap answer_of same ∙ answer_is b
