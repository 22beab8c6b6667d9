-- A book is answered for by reading it, or by what its lowering leaves.
-- Assumes nothing.
use Rattle.std.proofs.Common.{◌≡◌, ℕ, List, refl, sym, subst, Ok, Err}
use Rattle.std.proofs.Math.Option.{Option, some, none}
use Rattle.record.specs.Refused.{number_of}
use Rattle.record.specs.declared.refusal.Refusal as code
use Rattle.book.specs.Refusal.{Cause, book_length, check, block, shape, child, follow, name, depth, Refusal, number}
use Rattle.book.specs.Refusal.{first_refusal}
use Rattle.book.specs.Outline.{Book, read}
use Rattle.book.specs.Accepted.{named, refused_by, book_or, book_of}
use Rattle.types.specs.declared.LowerCtx.{LowerCtx}
use Rattle.lower.specs.declared.Counted.{Counted}
use Rattle.lower.specs.LowerBook.{lower_book}
use Rattle.lower.specs.Promise.{reply_of, Lowered}
use Rattle.lower.specs.Counters.{counters_after}
use Rattle.lower.specs.Ended.{LowersRead}
use Rattle.lower.proofs.Laws.{lower_refused}

-- the number of a cause, here and there
same_number : (c : Cause) → number_of (named c) ≡ number c
unfolding number
same_number book_length = refl
same_number check = refl
same_number block = refl
same_number shape = refl
same_number child = refl
same_number follow = refl
same_number name = refl
same_number depth = refl

module _ (bytes results diagnostics : List ℕ) (ctx : LowerCtx) where
  -- the promise of the counters and the reply
  pub record Answers (c : Counted) (r' d' : List ℕ) : Type 0 where
    pub lowered : Lowered bytes results diagnostics c.reply r' d'
    pub ctx_value : c.ctx ≡ counters_after ctx bytes results diagnostics

  -- a book that was read, and lowered
  pub accepted_so :
      (book : Book) {c : Counted} {r' d' : List ℕ} → Ok book ≡ book_of bytes
      → LowersRead book results diagnostics c r' d' → Answers c r' d'
  unfolding book_of book_or lower_book counters_after
  accepted_so book {c} {r'} {d'} e l = go (first_refusal bytes) refl e
    where
      go : (o : Option Refusal) → first_refusal bytes ≡ o → Ok book ≡ book_or o bytes → Answers c r' d'
      go none is e =
          let same : book ≡ read bytes = cc in
          let l' : LowersRead (read bytes) results diagnostics c r' d' =
          subst (λ (b : Book). LowersRead b results diagnostics c r' d') same l in
          record { lowered = rw (lower_book, is) l'.outcome; ctx_value = rw (counters_after, is) l'.counters }
      go (some x) is e = absurd (cc e)

  -- one that reading refuses
  pub refused_so : (x : code.Refusal) → Err x ≡ book_of bytes
      → Answers (record { ctx = ctx; reply = Err x }) results diagnostics
  unfolding book_of book_or reply_of counters_after
  refused_so x e = go (first_refusal bytes) refl e
    where
      go : (o : Option Refusal) → first_refusal bytes ≡ o → Err x ≡ book_or o bytes
          → Answers (record { ctx = ctx; reply = Err x }) results diagnostics
      go none is e = absurd (cc e)
      go (some y) is e =
          let same : x ≡ refused_by y = cc in
          record {
            lowered = rw (same, same_number y.cause) (sym (lower_refused bytes results diagnostics y is));
            ctx_value = rw (counters_after, is) refl;
          }
