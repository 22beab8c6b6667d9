-- `record::check::sum_pairs` meets its contract. The loop's invariant: a sum of the first 2 k words, below 2^32 for
-- each two.
-- Assumes nothing.
use Rattle.std.proofs.Common.{◌*◌, ◌+◌, ◌≡◌, arith, rules}
use Rattle.record.specs.Check.{words}
use Rattle.record.proofs.Sums.{Sum, sum_none, sum_pair, sum_word, sums_up}
use Rattle.record.proofs.check.sum_pairs.Goals as goal

pub loop-k-init : goal.loop-k-init
loop-k-init c = (sum_none (words c.args.s.now), omega arith)

pub loop-k-preserved : goal.loop-k-preserved
loop-k-preserved c =
    let l = c.loop-k in
    (sum_pair (words c.args.s.now) l.k l.sum c.from-sum.result l.invariant.0 (search rules), omega arith)

pub returns : goal.returns
returns c =
    let l = c.loop-k in
    let s = c.args.s.now in
    let done : 2 * l.k ≡ 254 = omega arith in
    let sum : Sum (words s) 254 l.sum = rw done at l.invariant.0 in
    sums_up s (l.sum + c.from.result) (search rules) (sum_word (words s) 254 l.sum c.from.result sum (search rules)) (omega arith)
