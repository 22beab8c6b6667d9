-- `book::blocks::Blocks::of` meets its contract: a right length is that of 1 to 64 blocks.
-- Assumes nothing.
use Rattle.std.proofs.Common.{◌≡◌, refl, sym, ◌∙◌, arith}
use Rattle.std.specs.Prelude.{false}
use Rattle.book.specs.Blocks.{length_fault}
use Rattle.book.proofs.Answers.{some_blocks}
use Rattle.book.proofs.blocks.Blocks.of.Goals as goal

pub overflow_cast-result : goal.overflow_cast-result
overflow_cast-result c =
    let right : length_fault c.args.bytes.now ≡ false = sym c.length_fault.ensures ∙ c.if-length_fault.false in
    record { fits = omega (arith, some_blocks c.args.bytes.now right) }

pub invariant_of-result : goal.invariant_of-result
invariant_of-result c =
    let right : length_fault c.args.bytes.now ≡ false = sym c.length_fault.ensures ∙ c.if-length_fault.false in
    let some = some_blocks c.args.bytes.now right in
    record { counted = refl; some = some.0; few = some.1 }
