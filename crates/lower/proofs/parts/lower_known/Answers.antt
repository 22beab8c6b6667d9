-- `lower::parts::lower_known` meets its contract: what the context's slices hold is what the lender gets back.
-- Assumes nothing.
use Rattle.std.proofs.Common.{rules, sym, ap, ◌∙◌}
use Rattle.record.specs.Written.{all_of}
use Rattle.record.proofs.Pushes.{shown-all}
use Rattle.types.specs.Code.{State}
use Rattle.lower.specs.Inside.{lower_parts}
use Rattle.lower.proofs.parts.lower_known.Goals as goal

pub returns-clause-results : goal.returns-clause-results
returns-clause-results g c =
    search rules
    ∙ (sym (shown-all c.lower_parts.new.lowering.results.now c.lower_parts.new.lowering.written)
    ∙ ap (λ (s : State). all_of s.results) (c.lower_parts.ensures.1
    ∙ ap (λ (s : State). (lower_parts c.args.parts.declarations.now c.args.parts.settled.now c.args.parts.outside.now s).state)
    c.new-lowering.ensures.state))

pub returns-clause-diagnostics : goal.returns-clause-diagnostics
returns-clause-diagnostics g c =
    search rules
    ∙ (sym (shown-all c.lower_parts.new.lowering.diagnostics.now c.lower_parts.new.lowering.told)
    ∙ ap (λ (s : State). all_of s.diagnostics) (c.lower_parts.ensures.1
    ∙ ap (λ (s : State). (lower_parts c.args.parts.declarations.now c.args.parts.settled.now c.args.parts.outside.now s).state)
    c.new-lowering.ensures.state))
