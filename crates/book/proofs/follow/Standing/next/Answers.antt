-- `book::follow::Standing::next` meets its contract. Behind what is part of a tree all stays; behind another record
-- each part of it follows from the part before.
-- Assumes nothing.
use Rattle.std.proofs.Common.{sym, ◌∙◌}
use Rattle.book.specs.Tables.{standing_of}
use Rattle.book.proofs.Places.{passed_on, gone_on}
use Rattle.book.proofs.follow.Standing.next.Goals as goal

pub returns-then-not-is_outside : goal.returns-then-not-is_outside
returns-then-not-is_outside c = λ bs h may. passed_on c.args.shaped.now.is_row (sym c.is_outside.ensures ∙ c.if-not-is_outside.true) bs _ h

pub returns : goal.returns
returns c = λ bs h may.
    rw (c.declaration_behind.ensures, c.is_open_behind.ensures)
    (gone_on c.args.shaped.now.is_row (sym c.is_outside.ensures ∙ c.if-not-is_outside.false) bs (standing_of c.args.self.now) h may)
