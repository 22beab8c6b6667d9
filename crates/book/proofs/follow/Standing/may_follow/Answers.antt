-- `book::follow::Standing::may_follow` meets its contract. Kinds up to 16 stand anywhere; of the others the table and
-- the room tell together.
-- Assumes nothing.
use Rattle.std.proofs.Common.{sym, ap, ◌∙◌}
use Rattle.std.specs.Prelude.{not, ◌&&◌}
use Rattle.record.specs.Kind.{code_of}
use Rattle.book.specs.Follow.{follow_of}
use Rattle.book.specs.Tables.{has_room, standing_of}
use Rattle.book.proofs.Cells.{kind_is}
use Rattle.book.proofs.Places.{anywhere, by_kinds}
use Rattle.book.proofs.follow.Standing.may_follow.Goals as goal

pub has_room-requires : goal.has_room-requires
has_room-requires c = kind_is c.args.shaped.now.is_row

pub returns-then-not-is_outside : goal.returns-then-not-is_outside
returns-then-not-is_outside c = λ bs h. ap not c.if-not-is_outside.true ∙ sym (anywhere c.args.shaped.now.is_row (sym c.is_outside.ensures ∙ c.if-not-is_outside.true) bs)

pub returns-then-follows : goal.returns-then-follows
returns-then-follows c = λ bs h.
    ap (λ b. b && c.has_room.result) (sym c.if-follows.true ∙ c.follows.ensures)
    ∙ ap (λ b. follow_of (standing_of c.args.self.now).before (code_of c.args.shaped.now.row.now.kind) && b) c.has_room.ensures
    ∙ by_kinds c.args.shaped.now.is_row (sym c.is_outside.ensures ∙ c.if-not-is_outside.false) bs (standing_of c.args.self.now) h

pub returns-else-follows : goal.returns-else-follows
returns-else-follows c = λ bs h.
    c.if-follows.false
    ∙ ap (λ b. b && has_room c.args.shaped.now.record.now (standing_of c.args.self.now)) (sym c.if-follows.false ∙ c.follows.ensures)
    ∙ by_kinds c.args.shaped.now.is_row (sym c.is_outside.ensures ∙ c.if-not-is_outside.false) bs (standing_of c.args.self.now) h
