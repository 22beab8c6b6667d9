-- `book::book_refusal` meets its contract: the word of what reading answers.
-- Assumes nothing.
use Rattle.book.proofs.Answers.{word_read, word_refused}
use Rattle.book.proofs.book_refusal.Goals as goal

pub returns-in-Ok : goal.returns-in-Ok
returns-in-Ok c = word_read c.args.book.now c.in-Ok.ensures.answer

pub returns-in-Err : goal.returns-in-Err
returns-in-Err c =
    rw (c.from.ensures, c.number.ensures, c.from-in-Err.ensures) (word_refused c.args.book.now c.in-Err.ensures.answer)
