use Rattle.std.proofs.Common.{ap, ◌∙◌}
use Rattle.record.specs.declared.Record.{Record}
use Rattle.record.specs.Kind.{kind_from}
use Rattle.book.specs.Outline.{Book, ◌!◌}
use Rattle.book.proofs.Below.{held_is}
use Rattle.book.proofs.readable.Book.kind.Goals as goal

pub returns : goal.returns
returns c =
    c.try_from.ensures
    ∙ ap kind_from
    (c.kind_at.ensures ∙ ap (λ (r : Record). r.kind) (held_is c.self.invariant c.args.n) ∙ ap (λ (b : Book). (b ! c.args.n).kind) c.self.view_is)
