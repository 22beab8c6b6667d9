-- `record::check::sum_singly` meets its contract. The loop's invariant: the sum of the first k words, at most 65,535
-- for each.
-- Assumes nothing.
use Rattle.std.proofs.Common.{◌≡◌, arith, rules}
use Rattle.record.specs.Check.{words}
use Rattle.record.proofs.Sums.{Sum, sum_none, sum_word, sums_up}
use Rattle.record.proofs.check.sum_singly.Goals as goal

pub loop-k-init : goal.loop-k-init
loop-k-init c = (sum_none (words c.args.s.now), omega arith)

pub loop-k-preserved : goal.loop-k-preserved
loop-k-preserved c =
    let l = c.loop-k in
    (sum_word (words c.args.s.now) l.k l.sum c.from-sum.result l.invariant.0 (search rules), omega arith)

pub returns : goal.returns
returns c =
    let l = c.loop-k in
    let s = c.args.s.now in
    let done : l.k ≡ 255 = omega arith in
    let sum : Sum (words s) 255 l.sum = rw done at l.invariant.0 in
    sums_up s l.sum (search rules) sum (omega arith)
