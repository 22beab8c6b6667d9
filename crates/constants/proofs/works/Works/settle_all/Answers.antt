-- `constants::works::Works::settle_all` meets its contract: a turn leaves the same end.
-- Assumes nothing.
use Rattle.constants.specs.Steps.{state_of, run}
use Rattle.constants.proofs.Steps.{settles-turn}
use Rattle.constants.proofs.works.Works.settle_all.Goals as goal

pub loop-turn-preserved : goal.loop-turn-preserved
loop-turn-preserved g c =
    settles-turn g.row.M c.args.book.now c.len-turn-end.result c.loop-turn._turn c.loop-turn.low
    (run (state_of c.loop-turn.self) c.loop-turn.values.values c.loop-turn.order) c.loop-turn-test.true c.in-Some.i c.in-Some.ensures.number _
    c.in-Some.ensures.state _
    (λ i. record { works = c.settle.ensures.works i; values = c.settle.ensures.values i; order = c.settle.ensures.order i }) _ c.behind-low.ensures _
    c.loop-turn.invariant
