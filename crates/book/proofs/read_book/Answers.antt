-- `book::read_book` meets its contract: what reading answers, as the code hands it out.
-- Assumes nothing.
use Rattle.book.proofs.Answers.{reading_read, reading_refused}
use Rattle.book.proofs.read_book.Goals as goal

pub returns-in-Ok : goal.returns-in-Ok
returns-in-Ok c = rw (c.len.ensures.value, c.wildcards.ensures) (reading_read c.args.book.now c.in-Ok.ensures.answer)

pub returns-in-Err : goal.returns-in-Err
returns-in-Err c = reading_refused c.args.book.now c.in-Err.ensures.answer
