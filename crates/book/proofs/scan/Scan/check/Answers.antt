-- `book::scan::Scan::check` meets its contract: each test in turn tells the fault that comes first, or what the next
-- one needs.
-- Assumes nothing.
use Rattle.std.proofs.Common.{sym, refl, ◌∙◌}
use Rattle.std.proofs.lemmas.Result.{err_from_is_err_and}
use Rattle.record.specs.declared.refusal.Cause.TheVariants as code
use Rattle.book.specs.Blocks.{records}
use Rattle.book.specs.Faults.{before, may_follow, name_fault}
use Rattle.std.specs.Prelude.{not}
use Rattle.book.proofs.Answers.{not_true}
use Rattle.book.proofs.Looks.{unless_err, unless_ok, grown_err, grown_ok, less, not_shaped, wrong_child, not_following, named_again, too_deep_told, passed, primitive_passes}
use Rattle.book.proofs.scan.Scan.check.Goals as goal

pub returns-then-is_primitive : goal.returns-then-is_primitive
returns-then-is_primitive c = λ book ready. rw c.from.ensures (primitive_passes ready (sym c.is_primitive.ensures ∙ c.if-is_primitive.true))

pub returns-in_err-shaped : goal.returns-in_err-shaped
returns-in_err-shaped c = λ book ready.
    let p = err_from_is_err_and c.from_residual.result c.from_residual.ensures.1 in
    rw (p.1, p.2) (not_shaped ready c.in_err-shaped.ensures.wrong.0 c.in_err-shaped.ensures.wrong.1)

pub returns-in_err-levels : goal.returns-in_err-levels
returns-in_err-levels c = λ book ready.
    let right = c.in_ok-shaped.ensures.right in
    let is = rw right at c.in_ok-shaped.shaped.is_row in
    let p = err_from_is_err_and c.from_residual-in_err-levels.result c.from_residual-in_err-levels.ensures.1 in
    let h = rw right at (c.in_err-levels.ensures (records book) ready.known.trees_are) in
    rw (p.1, p.2) (wrong_child ready is h.0 h.1)

pub returns-in_err-check : goal.returns-in_err-check
returns-in_err-check c = λ book ready.
    let right = c.in_ok-shaped.ensures.right in
    let is = rw right at c.in_ok-shaped.shaped.is_row in
    let p = err_from_is_err_and c.from_residual-in_err-check.result c.from_residual-in_err-check.ensures.1 in
    let taken = rw right at (c.in_ok-levels.ensures (records book) ready.known.trees_are) in
    let bs = before (records book) c.args.n in
    let h = unless_err (may_follow c.args.r.now bs) code.Follow c.args.n (rw right at (c.in_err-check.ensures bs ready.known.placed)) in
    rw (p.1, p.2) (not_following ready is taken h.0 h.1)

pub returns-in_err-declare : goal.returns-in_err-declare
returns-in_err-declare c = λ book ready.
    let right = c.in_ok-shaped.ensures.right in
    let is = rw right at c.in_ok-shaped.shaped.is_row in
    let p = err_from_is_err_and c.from_residual-in_err-declare.result c.from_residual-in_err-declare.ensures.1 in
    let taken = rw right at (c.in_ok-levels.ensures (records book) ready.known.trees_are) in
    let bs = before (records book) c.args.n in
    let may = unless_ok (may_follow c.args.r.now bs) code.Follow c.args.n (rw right at (c.in_ok-check.ensures bs ready.known.placed)) in
    let told = c.in_err-declare.ensures (records book) ready.known.names_are (less ready) (right ∙ ready.is) in
    let h = unless_err (not (name_fault (records book) c.args.n)) code.Name c.args.n told.answer_is in
    rw (p.1, p.2) (named_again ready is taken may h.0 h.1)

pub returns-in_err-tree : goal.returns-in_err-tree
returns-in_err-tree c = λ book ready.
    let right = c.in_ok-shaped.ensures.right in
    let is = rw right at c.in_ok-shaped.shaped.is_row in
    let p = err_from_is_err_and c.from_residual-in_err-tree.result c.from_residual-in_err-tree.ensures.1 in
    let taken = rw right at (c.in_ok-levels.ensures (records book) ready.known.trees_are) in
    let bs = before (records book) c.args.n in
    let may = unless_ok (may_follow c.args.r.now bs) code.Follow c.args.n (rw right at (c.in_ok-check.ensures bs ready.known.placed)) in
    let told = c.in_ok-declare.ensures (records book) ready.known.names_are (less ready) (right ∙ ready.is) in
    let new = not_true _ (unless_ok (not (name_fault (records book) c.args.n)) code.Name c.args.n told.answer_is) in
    let h = grown_err c.args.n c.in_ok-shaped.shaped.row.now.group c.in_ok-levels.levels c.in_err-tree.ensures in
    rw (p.1, p.2) (too_deep_told ready is taken may new h.0 h.1)

pub returns : goal.returns
returns c = λ book ready.
    let right = c.in_ok-shaped.ensures.right in
    let is = rw right at c.in_ok-shaped.shaped.is_row in
    let taken = rw right at (c.in_ok-levels.ensures (records book) ready.known.trees_are) in
    let bs = before (records book) c.args.n in
    let may = unless_ok (may_follow c.args.r.now bs) code.Follow c.args.n (rw right at (c.in_ok-check.ensures bs ready.known.placed)) in
    let told = c.in_ok-declare.ensures (records book) ready.known.names_are (less ready) (right ∙ ready.is) in
    let new = not_true _ (unless_ok (not (name_fault (records book) c.args.n)) code.Name c.args.n told.answer_is) in
    let h = grown_ok c.args.n c.in_ok-shaped.shaped.row.now.group c.in_ok-levels.levels c.in_ok-tree.ensures in
    rw (c.from-2.ensures, h.1) (passed ready is taken may new h.0 refl told.names_are (rw right at (c.next-self.ensures bs ready.known.placed (rw (← right) at may))))
