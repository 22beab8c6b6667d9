-- A run of `evaluate` leaves what is an evaluation over arrays.
-- Assumes nothing.
use Rattle.constants.proofs.Arrays.{evaluated_as_arrays}
use Rattle.constants.proofs.laws.evaluate_over_arrays.Goals as goal

pub returns : goal.returns
returns g c =
    evaluated_as_arrays c.args.book.now c.args.values.now.values c.evaluate.new.values.values c.args.order.now c.evaluate.new.order
    (record { order_is = c.evaluate.ensures.order; values_are = c.evaluate.ensures.values })
