-- `types::room::names_below` meets its contract.
-- Assumes nothing.
use Rattle.std.proofs.Common.{ℕ, ap, sym, ◌∙◌}
use Rattle.std.specs.Prelude.{not}
use Rattle.types.specs.Over.{any_over}
use Rattle.types.proofs.Over.{below_or_over}
use Rattle.types.proofs.room.names_below.Goals as goal

pub returns : goal.returns
returns c =
    ap not (c.any_over.ensures ∙ ap (λ (k : ℕ). any_over c.args.n c.args.book.now k) c.len.ensures.value)
    ∙ sym (below_or_over c.args.book.now c.args.n)
