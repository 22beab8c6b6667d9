-- `constants::evaluate` meets its contract: its steps give what is settled of the book.
-- Assumes nothing.
use Rattle.std.proofs.Common.{rules, ◌≡◌, ap, ◌∙◌, length}
use Rattle.constants.specs.Steps.{State, state_of, started, opened_all, admitted_all, run, settled_all, evaluated}
use Rattle.constants.proofs.Evaluating.{ends_all}
use Rattle.constants.proofs.evaluate.Goals as goal

pub returns-clause-order : goal.returns-clause-order
unfolding evaluated
returns-clause-order g c =
    let book = c.args.book.now in
    let long : length c.args.values.now.values ≡ g.row.N = search rules in
    let works : state_of c.admit_all.new.self ≡ admitted_all book (opened_all g.row.R book c.args.declarations.now (started g.row.N g.row.R)) =
    c.admit_all.ensures ∙ ap (admitted_all book) (c.open_all.ensures ∙ ap (opened_all g.row.R book c.args.declarations.now) c.new-works.ensures) in
    c.settle_all.ensures.order
    ∙ ap (λ (s : State). (settled_all g.row.R book (run s c.args.values.now.values c.args.order.now)).order) works
    ∙ (ends_all book c.laws.ensures g.row.N g.row.R c.args.declarations.now c.requires.declarations c.requires.names (search rules) c.args.values.now.values
    long c.args.order.now c.requires.room).0

pub returns-clause-values : goal.returns-clause-values
unfolding evaluated
returns-clause-values g c =
    let book = c.args.book.now in
    let long : length c.args.values.now.values ≡ g.row.N = search rules in
    let works : state_of c.admit_all.new.self ≡ admitted_all book (opened_all g.row.R book c.args.declarations.now (started g.row.N g.row.R)) =
    c.admit_all.ensures ∙ ap (admitted_all book) (c.open_all.ensures ∙ ap (opened_all g.row.R book c.args.declarations.now) c.new-works.ensures) in
    c.settle_all.ensures.values
    ∙ ap (λ (s : State). (settled_all g.row.R book (run s c.args.values.now.values c.args.order.now)).values) works
    ∙ (ends_all book c.laws.ensures g.row.N g.row.R c.args.declarations.now c.requires.declarations c.requires.names (search rules) c.args.values.now.values
    long c.args.order.now c.requires.room).1
