-- `lower::parts::Fitting::settle_constants` meets its contract: no name has a value beforehand.
-- Assumes nothing.
use Rattle.std.proofs.Common.{ap, ◌∙◌, List, ◌++◌, map}
use Rattle.constants.specs.declared.reached.Settled.{Settled}
use Rattle.constants.specs.Eval.{Table}
use Rattle.constants.specs.Order.{each, outcome}
use Rattle.constants.specs.OfBook.{constants, settled}
use Rattle.constants.specs.Given.{table_in, told}
use Rattle.lower.specs.Inside.{evaluated}
use Rattle.lower.proofs.parts.Fitting.settle_constants.Goals as goal

pub returns : goal.returns
unfolding evaluated settled
returns g c =
    let of : Table → List Settled = λ t. map told (outcome each t (constants c.args.self.now.book.now)) in
    c.evaluate.ensures.order
    ∙ ap (λ (l : List Settled). l ++ of (table_in c.none-values.result.values)) c.requires.none
    ∙ ap of (λ i n. c.none-values.ensures n i)
