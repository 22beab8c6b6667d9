-- The slices are filled, lowered into, and compared.
use Rattle.std.proofs.Common.{length}
use Rattle.replay.proofs.Founds.{all_found}
use Rattle.replay.proofs.answer.Answer.replay_into.Goals as goal

pub returns : goal.returns
returns c =
    let a = c.args.self in
    rw (c.found.ensures, c.slice_agrees-2.ensures, c.slice_agrees.ensures, c.reply_agrees.ensures, c.is_formed-formed.ensures)
    (all_found a.header a.book.now a.results.now a.diagnostics.now (length c.args.own_results.now) (length c.args.own_diagnostics.now) _
    c.fill.ensures c.fill-2.ensures c.lower_book-reply.ensures c.lower_book-reply.auto.results c.lower_book-reply.auto.diagnostics)
