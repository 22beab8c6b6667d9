-- Each byte with its place is tested.
use Rattle.std.proofs.Common.{ℕ, eqb, rules, tests, ◌∙◌}
use Rattle.std.proofs.lemmas.Iterator.{YieldsList-from_slice}
use Rattle.std.proofs.lemmas.Iterator.Adapters.{YieldsList-from_skip}
use Rattle.std.proofs.lemmas.Iterator.Consumers.{YieldsList-at, YieldsList-from_enumerate}
use Rattle.std.proofs.lemmas.Iterator.Search.{all_from_yields_List}
use Rattle.replay.specs.Lent.{lent_byte}
use Rattle.replay.proofs.Patterns.{goes_on}
use Rattle.replay.proofs.lent.Pattern.goes_on.Goals as goal

pub returns : goal.returns
returns c =
    let a = c.args in
    all_from_yields_List (λ (p : ℕ × ℕ). eqb p.1 (lent_byte a.self.step a.self.first p.0)) _ _ c.all.result c.all.ensures.ran
    (YieldsList-from_skip a.at (YieldsList-at c.skip.ensures.source (YieldsList-from_enumerate
    (YieldsList-at c.enumerate.ensures.source (YieldsList-from_slice a.s.now cc)) cc)) cc)
    (λ x r q k. search (rules, tests))
    ∙ goes_on a.self.step a.self.first a.at a.s.now
