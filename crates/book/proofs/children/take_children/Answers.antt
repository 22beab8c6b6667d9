-- `book::children::take_children` meets its contract: field by field, until a child is wrong.
-- Assumes nothing.
use Rattle.std.proofs.Common.{[], ◌++◌, List}
use Rattle.std.proofs.lemmas.Result.{err_from_is_err_and}
use Rattle.book.specs.Shape.{Child, child_in}
use Rattle.book.specs.Rows.{field_from}
use Rattle.book.proofs.Marks.{then_wrong, then_other, then_right}
use Rattle.book.proofs.children.take_children.Goals as goal

pub returns-in_err-a : goal.returns-in_err-a
returns-in_err-a c = λ rs u.
    let p = err_from_is_err_and c.from_residual.result c.from_residual.ensures.1 in
    let h = c.in_err-a.ensures rs [] u in
    let (one, other, third) : List Child × List Child × List Child = (child_in (field_from c.args.shaped.now.row.now.a) c.args.shaped.now.record.now.a, child_in (field_from c.args.shaped.now.row.now.b) c.args.shaped.now.record.now.b, child_in (field_from c.args.shaped.now.row.now.c) c.args.shaped.now.record.now.c) in
    rw (p.1, p.2) (then_wrong rs c.args.n [] (one ++ other) third (then_wrong rs c.args.n [] one other h.0), h.1)

pub returns-in_err-b : goal.returns-in_err-b
returns-in_err-b c = λ rs u.
    let p = err_from_is_err_and c.from_residual-in_err-b.result c.from_residual-in_err-b.ensures.1 in
    let (one, other, third) : List Child × List Child × List Child = (child_in (field_from c.args.shaped.now.row.now.a) c.args.shaped.now.record.now.a, child_in (field_from c.args.shaped.now.row.now.b) c.args.shaped.now.record.now.b, child_in (field_from c.args.shaped.now.row.now.c) c.args.shaped.now.record.now.c) in
    let a = c.in_ok-a.ensures rs [] u in
    let h = c.in_err-b.ensures rs one a.left in
    rw (p.1, p.2) (then_wrong rs c.args.n [] (one ++ other) third (then_other rs c.args.n [] one other a.right h.0), h.1)

pub returns-in_err-c : goal.returns-in_err-c
returns-in_err-c c = λ rs u.
    let p = err_from_is_err_and c.from_residual-in_err-c.result c.from_residual-in_err-c.ensures.1 in
    let (one, other, third) : List Child × List Child × List Child = (child_in (field_from c.args.shaped.now.row.now.a) c.args.shaped.now.record.now.a, child_in (field_from c.args.shaped.now.row.now.b) c.args.shaped.now.record.now.b, child_in (field_from c.args.shaped.now.row.now.c) c.args.shaped.now.record.now.c) in
    let a = c.in_ok-a.ensures rs [] u in
    let b = then_right rs c.args.n [] one a (c.in_ok-b.ensures rs one a.left) in
    let h = c.in_err-c.ensures rs (one ++ other) b.left in
    rw (p.1, p.2) (then_other rs c.args.n [] (one ++ other) third b.right h.0, h.1)

pub returns : goal.returns
returns c = λ rs u.
    let (one, other) : List Child × List Child = (child_in (field_from c.args.shaped.now.row.now.a) c.args.shaped.now.record.now.a, child_in (field_from c.args.shaped.now.row.now.b) c.args.shaped.now.record.now.b) in
    let a = c.in_ok-a.ensures rs [] u in
    let b = then_right rs c.args.n [] one a (c.in_ok-b.ensures rs one a.left) in
    let d = then_right rs c.args.n [] (one ++ other) b (c.in_ok-c.ensures rs (one ++ other) b.left) in
    rw (c.max-2.ensures, c.max.ensures) d
