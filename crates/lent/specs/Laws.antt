-- What is claimed of `lower_lent`; the proofs are in proofs/Laws.antt and proofs/Structs.antt. Words in quotation marks
-- are rules of docs/FORMAT.md in brief.
-- Assumes nothing.
use Rattle.std.specs.Prelude.{ℕ, ◌≤◌, ◌<◌, ◌^◌, min, List, map, ◌≡◌, length, take, drop, replicate}
use Rattle.record.specs.Bytes.{AreBytes}
use Rattle.book.specs.Lists.{All}
use Rattle.book.specs.Outline.{read}
use Rattle.types.specs.declared.LowerCtx.{LowerCtx}
use Rattle.types.specs.Events.{told}
use Rattle.lower.specs.LowerBook.{Reply, accepted, refused, lower_book}
use Rattle.lower.specs.Promise.{Answered, reply_of, Lowered}
use Rattle.lower.specs.Laws.{doings}
use Rattle.lower.specs.Counters.{numbers_given}
use Rattle.lent.specs.declared.Diagnostic.{Diagnostic}
use Rattle.lent.specs.Diagnostics.{diagnostic_of, encoded, no_diagnostic}
use Rattle.lent.specs.Lent.{LentOutcome, lower_lent, LoweredLent}

-- The record form is the byte form: with the bytes of the structs lent, `lower_book` gives the same reply and results,
-- and leaves the bytes of the structs that are left
pub record SameAsBytes (book results : List ℕ) (lent : List Diagnostic) (x : LentOutcome) : Type 0 where
  pub reply_is : x.reply ≡ (lower_book book results (encoded lent)).reply
  pub results_are : x.results ≡ (lower_book book results (encoded lent)).results
  pub diagnostics_are : encoded x.diagnostics ≡ (lower_book book results (encoded lent)).diagnostics

-- for every book of bytes
abbrev pub RecordFormIsByteForm : Type 0
RecordFormIsByteForm =
    (ctx : LowerCtx) (book results : List ℕ) (lent : List Diagnostic) →
    AreBytes book → SameAsBytes book results lent (lower_lent ctx book results lent)

-- Over runs: whatever `lower_lent` answered and left, and whatever `lower_book` did with the bytes of the same structs
-- for a diagnostics slice. Each is known by its promise alone
pub record LentRun : Type 0 where
  pub ctx : LowerCtx
  pub book : List ℕ
  pub results : List ℕ
  pub lent : List Diagnostic
  pub reply : Answered
  pub ctx' : LowerCtx
  pub results' : List ℕ
  pub left : List Diagnostic

pub record ByteRun : Type 0 where
  pub reply : Answered
  pub results' : List ℕ
  pub diagnostics' : List ℕ

pub record Agree (x : LentRun) (y : ByteRun) : Type 0 where
  pub same_reply : reply_of x.reply ≡ reply_of y.reply
  pub same_results : x.results' ≡ y.results'
  pub same_diagnostics : encoded x.left ≡ y.diagnostics'

abbrev pub RunsAgree : Type 0
RunsAgree =
    (x : LentRun) (y : ByteRun) →
    AreBytes x.book →
    LoweredLent x.ctx x.book x.results x.lent x.reply x.ctx' x.results' x.left →
    Lowered x.book x.results (encoded x.lent) y.reply y.results' y.diagnostics' →
    Agree x y

-- the fields of a struct are within their widths
pub record Fits (d : Diagnostic) : Type 0 where
  pub kind : d.kind < 2 ^ 8
  pub message : d.message < 2 ^ 8
  pub name : d.name < 2 ^ 16
  pub member : d.member < 2 ^ 16
  pub offset : d.span.offset < 2 ^ 32
  pub len : d.span.len < 2 ^ 32

-- no two lists of such structs have the same bytes, so the bytes that are left tell the structs
abbrev pub BytesTellStructs : Type 0
BytesTellStructs = (ds es : List Diagnostic) → All Fits ds → All Fits es → encoded ds ≡ encoded es → ds ≡ es

-- accepted with so many results and diagnostics: the counters are the numbers given and these two; the structs are
-- those of the diagnostics told, and behind them as lent
pub record LeavesStructs (book : List ℕ) (lent : List Diagnostic) (x : LentOutcome) (results diagnostics : ℕ) : Type 0 where
  pub numbers_count : x.ctx.next ≡ numbers_given (read book)
  pub results_count : x.ctx.results ≡ results
  pub diagnostics_count : x.ctx.diagnostics ≡ diagnostics
  pub diagnostics_limit : diagnostics ≤ min 256 (length lent)
  pub told_are : take diagnostics x.diagnostics ≡ map diagnostic_of (told (doings book))
  pub rest : drop diagnostics x.diagnostics ≡ drop diagnostics lent

-- refused by 9 or 10: the counters are 0, and the structs are the zero one up to the used limit, behind it as lent
pub record LeavesZeroOnes (lent : List Diagnostic) (x : LentOutcome) : Type 0 where
  pub counters : x.ctx ≡ record { next = 0; results = 0; diagnostics = 0 }
  pub zero_ones : take (min 256 (length lent)) x.diagnostics ≡ replicate (min 256 (length lent)) no_diagnostic
  pub rest : drop (min 256 (length lent)) x.diagnostics ≡ drop (min 256 (length lent)) lent

-- refused by 1 to 8: all is left as it was
pub record LeavesAll (ctx : LowerCtx) (results : List ℕ) (lent : List Diagnostic) (x : LentOutcome) : Type 0 where
  pub counters : x.ctx ≡ ctx
  pub in_results : x.results ≡ results
  pub in_diagnostics : x.diagnostics ≡ lent

-- what each reply says
unfoldable pub Leaves : LowerCtx → List ℕ → List ℕ → List Diagnostic → LentOutcome → Reply → Type 0
Leaves ctx book results lent x (accepted r d c) = LeavesStructs book lent x r d
Leaves ctx book results lent x (refused n p) = (n ≤ 8 → LeavesAll ctx results lent x) × (9 ≤ n → LeavesZeroOnes lent x)

-- for every book of bytes; of the result slice the rest is said of `lower_book`, which leaves the same
abbrev pub StructsAreLeft : Type 0
StructsAreLeft =
    (ctx : LowerCtx) (book results : List ℕ) (lent : List Diagnostic) →
    AreBytes book →
    Leaves ctx book results lent (lower_lent ctx book results lent) (lower_lent ctx book results lent).reply
