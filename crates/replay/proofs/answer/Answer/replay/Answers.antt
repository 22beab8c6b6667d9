-- The slices lent are the fronts of longer arrays.
use Rattle.std.proofs.Common.{ap₂, ◌∙◌, arith}
use Rattle.replay.specs.Lent.{patterned}
use Rattle.replay.specs.Finding.{finding_into, finding}
use Rattle.replay.proofs.Founds.{front_length}
use Rattle.replay.proofs.answer.Answer.replay.Goals as goal

pub returns : goal.returns
unfolding finding
returns c =
    let a = c.args.self in
    c.replay_into.ensures
    ∙ ap₂ (λ n k. finding_into a.header a.book.now a.results.now a.diagnostics.now (patterned n 5 17) (patterned k 3 29))
    (front_length 49200 _ (omega (arith, c.min-r.ensures)) ∙ c.min-r.ensures)
    (front_length 6192 _ (omega (arith, c.min-d.ensures)) ∙ c.min-d.ensures)
