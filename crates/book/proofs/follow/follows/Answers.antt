-- `book::follow::follows` meets its contract: the table is the rule, cell by cell, and kinds past it stand behind none.
-- Assumes nothing.
use Rattle.std.proofs.Common.{ap₂, ◌∙◌}
use Rattle.record.specs.Kind.{code_of}
use Rattle.book.specs.Follow.{follow_of}
use Rattle.book.specs.Tables.{kind_number}
use Rattle.book.proofs.Places.{may_found, none_found, no_kind_before}
use Rattle.book.proofs.follow.follows.Goals as goal

pub returns-in_default : goal.returns-in_default
returns-in_default c = no_kind_before (kind_number c.args.before) (code_of c.args.kind) (rw c.row_behind.ensures at c.in_default.ensures.lookup.3)

pub returns-in_default-get : goal.returns-in_default-get
returns-in_default-get c =
    let row = c.in-Some.ensures.lookup in
    none_found c.row_behind.result c.in-Some.row.now row.3.0 row.1 c.from.result c.in_default-get.ensures.lookup.3
    ∙ ap₂ follow_of c.row_behind.ensures (c.from.ensures ∙ c.code.ensures)

pub returns : goal.returns
returns c =
    let row = c.in-Some.ensures.lookup in
    let cell = c.in-Some-get.ensures.lookup in
    may_found c.row_behind.result c.in-Some.row.now row.3.0 row.1 c.from.result c.in-Some-get.may.now cell.3.0 cell.1
    ∙ ap₂ follow_of c.row_behind.ensures (c.from.ensures ∙ c.code.ensures)
