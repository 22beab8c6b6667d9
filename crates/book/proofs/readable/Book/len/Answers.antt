use Rattle.std.proofs.Common.{◌≡◌, subst, length, arith}
use Rattle.book.specs.Outline.{Book}
use Rattle.book.proofs.Below.{counted_in, held_is_read}
use Rattle.book.proofs.readable.Book.len.Goals as goal

pub returns-clause-value : goal.returns-clause-value
returns-clause-value c = subst (λ (b : Book). c.self.inside.count ≡ length b.records) c.self.view_is (counted_in c.self.inside.bytes.now c.self.inside.count c.self.inside.wildcards)

pub returns-clause-few : goal.returns-clause-few
returns-clause-few c =
    omega (arith, counted_in c.self.inside.bytes.now c.self.inside.count c.self.inside.wildcards, (held_is_read c.self.invariant).few_records)
