-- `book::blocks::Blocks::check_block` meets its contract: its check is looked at first.
-- Assumes nothing.
use Rattle.std.proofs.Common.{sym, ap, ◌∙◌}
use Rattle.std.specs.Prelude.{not}
use Rattle.book.proofs.Counts.{check_told, block_told, none_told}
use Rattle.book.proofs.blocks.Blocks.check_block.Goals as goal

pub returns-then-not-check_holds : goal.returns-then-not-check_holds
returns-then-not-check_holds c = check_told c.args.self.now.bytes.now c.args.k (sym c.check_holds.ensures ∙ c.if-not-check_holds.true)

pub returns-then-not-block_holds : goal.returns-then-not-block_holds
returns-then-not-block_holds c =
    block_told c.args.self.now.bytes.now c.args.k (sym c.check_holds.ensures ∙ c.if-not-check_holds.false)
    (c.block_holds.ensures ∙ ap not c.if-not-block_holds.true)

pub returns : goal.returns
returns c =
    none_told c.args.self.now.bytes.now c.args.k (sym c.check_holds.ensures ∙ c.if-not-check_holds.false)
    (c.block_holds.ensures ∙ ap not c.if-not-block_holds.false)
