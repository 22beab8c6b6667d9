use Rattle.book.proofs.Cuts.{front_is, front_held}
use Rattle.book.proofs.readable.Book.of_readable.Goals as goal

pub invariant_of-result : goal.invariant_of-result
invariant_of-result c =
    front_held c.args.bytes.now c.count_of-count.ensures c.wildcards_of.ensures c.end_of.ensures c.requires

pub returns : goal.returns
returns c = front_is c.args.bytes.now c.count_of-count.ensures c.wildcards_of.ensures c.end_of.ensures
