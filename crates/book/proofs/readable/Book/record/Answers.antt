use Rattle.std.proofs.Common.{subst, ap, sym, ◌∙◌}
use Rattle.book.specs.Outline.{Book, ◌!◌}
use Rattle.book.specs.Accepted.{Earlier}
use Rattle.book.proofs.Below.{held_is, held_earlier}
use Rattle.book.proofs.readable.Book.record.Goals as goal

pub returns-clause-value : goal.returns-clause-value
returns-clause-value c = c.record_at.ensures ∙ held_is c.self.invariant c.args.n ∙ ap (λ (b : Book). b ! c.args.n) c.self.view_is

pub returns-clause-earlier : goal.returns-clause-earlier
returns-clause-earlier c = subst (Earlier c.args.n) (sym c.record_at.ensures) (held_earlier c.self.invariant c.args.n)
