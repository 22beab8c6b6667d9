-- `constants::works::Works::names_twice` meets its contract, by the record at the top of the expression.
-- Assumes nothing.
use Rattle.std.proofs.Common.{ap, ◌∙◌}
use Rattle.constants.specs.Steps.{Looked}
use Rattle.constants.proofs.Walks.{looked-leaf, looked-name, looked-sides}
use Rattle.constants.proofs.works.Works.+names_twice.Goals as goal

pub returns-in-Value-clause-again : goal.returns-in-Value-clause-again
returns-in-Value-clause-again g t c =
    ap (λ (x : Looked). x.again) (looked-leaf c.args.book.now c.args.n c.args.stamp _ c.take_apart.ensures.value c.in-Value.is _)

pub returns-in-Value-clause-state : goal.returns-in-Value-clause-state
returns-in-Value-clause-state g t c =
    ap (λ (x : Looked). x.state) (looked-leaf c.args.book.now c.args.n c.args.stamp _ c.take_apart.ensures.value c.in-Value.is _)

pub returns-in-Name-clause-again : goal.returns-in-Name-clause-again
returns-in-Name-clause-again g t c = c.see.ensures.again ∙ ap (λ (x : Looked). x.again) (looked-name c.args.book.now c.args.n c.args.stamp _ _ c.in-Name.ensures.value)

pub returns-in-Name-clause-state : goal.returns-in-Name-clause-state
returns-in-Name-clause-state g t c = c.see.ensures.state ∙ ap (λ (x : Looked). x.state) (looked-name c.args.book.now c.args.n c.args.stamp _ _ c.in-Name.ensures.value)

pub returns-in-Sides-clause-again : goal.returns-in-Sides-clause-again
returns-in-Sides-clause-again g t c =
    ap (λ (x : Looked). x.again)
    (looked-sides c.args.book.now c.args.n c.args.stamp _ _ _ _ _ _ _ _ c.in-Sides.ensures.value c.in-Sides.ensures.earlier
    c.names_twice-there.ensures.again c.names_twice-there.ensures.state c.names_twice-here.ensures.again c.names_twice-here.ensures.state)

pub returns-in-Sides-clause-state : goal.returns-in-Sides-clause-state
returns-in-Sides-clause-state g t c =
    ap (λ (x : Looked). x.state)
    (looked-sides c.args.book.now c.args.n c.args.stamp _ _ _ _ _ _ _ _ c.in-Sides.ensures.value c.in-Sides.ensures.earlier
    c.names_twice-there.ensures.again c.names_twice-there.ensures.state c.names_twice-here.ensures.again c.names_twice-here.ensures.state)
