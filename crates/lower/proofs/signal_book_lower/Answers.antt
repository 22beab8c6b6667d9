-- `lower::signal_book_lower` meets its contract.
-- Assumes nothing.
use mathlib.Core.Path.{ap, ◌∙◌}
use Rattle.lower.specs.LowerBook.{Outcome}
use Rattle.lower.specs.Promise.{reply_words}
use Rattle.lower.proofs.signal_book_lower.Goals as goal

pub returns : goal.returns
returns c =
    let lowered = c.lower_book.ensures in
    record {
      reply_is = c.reply_words.ensures ∙ ap (λ (x : Outcome). reply_words x.reply) lowered;
      results_are = ap (λ (x : Outcome). x.results) lowered;
      diagnostics_are = ap (λ (x : Outcome). x.diagnostics) lowered;
    }
