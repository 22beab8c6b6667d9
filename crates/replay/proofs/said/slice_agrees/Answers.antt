-- A slice is compared in two parts: its front, and the rest.
use Rattle.std.proofs.Common.{length, ◌∙◌, arith}
use Rattle.replay.specs.Lent.{patterned}
use Rattle.replay.proofs.Lefts.{left_accepted, left_refused, left_short}
use Rattle.replay.proofs.said.slice_agrees.Goals as goal

pub returns-then-starts_with : goal.returns-then-starts_with
returns-then-starts_with c =
    let a = c.args in
    c.goes_on.ensures
    ∙ rw (← c.starts_with.ensures.value, c.if-starts_with.true) at
    (left_accepted a.part a.written.now a.left.now (patterned (length a.left.now) a.lent.step a.lent.first) a.cause (rw c.if-is_none.true at c.is_none.ensures))

pub returns-else-starts_with : goal.returns-else-starts_with
returns-else-starts_with c =
    let a = c.args in
    c.if-starts_with.false
    ∙ rw (← c.starts_with.ensures.value, c.if-starts_with.false) at
    (left_accepted a.part a.written.now a.left.now (patterned (length a.left.now) a.lent.step a.lent.first) a.cause (rw c.if-is_none.true at c.is_none.ensures))

pub returns-then-left-part : goal.returns-then-left-part
returns-then-left-part c =
    let a = c.args in
    left_short a.part a.written.now a.left.now (patterned (length a.left.now) a.lent.step a.lent.first) a.cause (rw c.if-is_none.false at c.is_none.ensures) (omega arith)

pub returns-then-all_zero : goal.returns-then-all_zero
returns-then-all_zero c =
    let a = c.args in
    c.goes_on-then-all_zero.ensures
    ∙ rw (← c.all_zero.ensures, c.if-all_zero.true) at
    (left_refused a.part a.written.now a.left.now (patterned (length a.left.now) a.lent.step a.lent.first) a.cause (rw c.if-is_none.false at c.is_none.ensures) (omega arith))

pub returns-else-all_zero : goal.returns-else-all_zero
returns-else-all_zero c =
    let a = c.args in
    c.if-all_zero.false
    ∙ rw (← c.all_zero.ensures, c.if-all_zero.false) at
    (left_refused a.part a.written.now a.left.now (patterned (length a.left.now) a.lent.step a.lent.first) a.cause (rw c.if-is_none.false at c.is_none.ensures) (omega arith))
