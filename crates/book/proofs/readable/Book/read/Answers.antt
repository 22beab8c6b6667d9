-- `book::readable::Book::read` meets its contract: the length, then the blocks, then the records, each by a law of
-- proofs/Answers.antt.
-- Assumes nothing.
use Rattle.std.proofs.Common.{refl, sym, ap, ◌∙◌}
use Rattle.std.specs.Prelude.{Ok}
use Rattle.std.proofs.lemmas.Result.{err_from_is_err_and}
use Rattle.book.specs.Answer.{outcome}
use Rattle.book.specs.Accepted.{book_in}
use Rattle.book.proofs.Accepted.{accepted_is_readable, kept_of}
use Rattle.book.proofs.Answers.{by_length, book_refused, refused_in_blocks, refused_in_records, counted_at, none_refused, book_read}
use Rattle.book.proofs.Below.{counted_in}
use Rattle.book.proofs.Cuts.{whole_same, whole_held}
use Rattle.book.proofs.readable.Book.read.Goals as goal

pub returns-in_err-blocks-clause-answer : goal.returns-in_err-blocks-clause-answer
unfolding outcome
returns-in_err-blocks-clause-answer c =
    let p = err_from_is_err_and c.from_residual.result c.from_residual.ensures.1 in
    let wrong = c.in_err-blocks.ensures.wrong in
    rw (p.1, p.2, wrong.1) (book_refused c.args.bytes.now (by_length c.args.bytes.now wrong.0) refl)

pub returns-in_err-check-clause-answer : goal.returns-in_err-check-clause-answer
returns-in_err-check-clause-answer c =
    let p = err_from_is_err_and c.from_residual-in_err-check.result c.from_residual-in_err-check.ensures.1 in
    let (same, right) = c.in_ok-blocks.ensures.right in
    rw (p.1, p.2) (refused_in_blocks c.args.bytes.now right (rw same at c.in_err-check.ensures))

pub check_records-requires : goal.check_records-requires
check_records-requires c =
    let (same, right) = c.in_ok-blocks.ensures.right in
    counted_at c.args.bytes.now right (rw same at c.in_ok-check.ensures) (rw same at c.record_count-count.ensures)

pub returns-in_err-check_records-clause-answer : goal.returns-in_err-check_records-clause-answer
returns-in_err-check_records-clause-answer c =
    let p = err_from_is_err_and c.from_residual-in_err-check_records.result c.from_residual-in_err-check_records.ensures.1 in
    let (same, right) = c.in_ok-blocks.ensures.right in
    rw (p.1, p.2)
    (refused_in_records c.args.bytes.now right (rw same at c.in_ok-check.ensures) (rw same at c.record_count-count.ensures) c.in_err-check_records.ensures)

pub invariant_of-result : goal.invariant_of-result
invariant_of-result c =
    let (same, right) = c.in_ok-blocks.ensures.right in
    let counted = rw same at c.record_count-count.ensures in
    whole_held
    (kept_of c.args.bytes.now (none_refused c.args.bytes.now right (rw same at c.in_ok-check.ensures) counted c.in_ok-check_records.ensures)
    counted (rw same at c.wildcards.ensures))

pub returns-clause-answer : goal.returns-clause-answer
returns-clause-answer c =
    let (same, right) = c.in_ok-blocks.ensures.right in
    ap Ok (whole_same c.args.bytes.now (rw same at c.record_count-count.ensures) (rw same at c.wildcards.ensures))
    ∙ book_read c.args.bytes.now
    (none_refused c.args.bytes.now right (rw same at c.in_ok-check.ensures) (rw same at c.record_count-count.ensures) c.in_ok-check_records.ensures)

pub returns-clause-readable : goal.returns-clause-readable
returns-clause-readable c =
    let (same, right) = c.in_ok-blocks.ensures.right in
    accepted_is_readable c.args.bytes.now
    (none_refused c.args.bytes.now right (rw same at c.in_ok-check.ensures) (rw same at c.record_count-count.ensures) c.in_ok-check_records.ensures)

pub returns-clause-kept : goal.returns-clause-kept
unfolding book_in
returns-clause-kept c =
    let (same, right) = c.in_ok-blocks.ensures.right in
    let counted = rw same at c.record_count-count.ensures in
    kept_of c.args.bytes.now (none_refused c.args.bytes.now right (rw same at c.in_ok-check.ensures) counted c.in_ok-check_records.ensures)
    (sym (counted_in c.args.bytes.now c.record_count-count.result c.wildcards.result) ∙ counted) (rw same at c.wildcards.ensures)
