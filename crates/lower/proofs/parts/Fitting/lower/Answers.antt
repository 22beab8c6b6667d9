-- `lower::parts::Fitting::lower` meets its contract: no more constants are reached than there are records.
-- Assumes nothing.
use Rattle.std.proofs.Common.{◌≡◌, ap, ◌∙◌, arith, length}
use Rattle.lower.specs.Inside.{evaluated}
use Rattle.lower.proofs.Whole.{few_evaluated}
use Rattle.lower.proofs.parts.Fitting.lower.Goals as goal

pub count_stored-stored-requires : goal.count_stored-stored-requires
count_stored-stored-requires g c =
    let same : length c.settled.result.now ≡ length (evaluated c.args.self.now.book.now) =
    ap length (c.settled.ensures ∙ c.settle_constants.ensures) in
    omega (arith, few_evaluated c.args.self.now.book.now)
