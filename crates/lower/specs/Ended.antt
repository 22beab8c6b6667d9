-- What the functions inside `lower` promise.
-- Assumes nothing.
use Rattle.std.specs.Prelude.{ℕ, List, ◌≡◌}
use Rattle.book.specs.Outline.{Book}
use Rattle.constants.specs.OfBook.{settled}
use Rattle.types.specs.Lowering.{start, run, used_limits}
use Rattle.lower.specs.declared.Counted.{Counted}
use Rattle.lower.specs.LowerBook.{lower_records, lower_read}
use Rattle.lower.specs.Promise.{outcome_of}
use Rattle.lower.specs.Counters.{counted}

-- a book that reading accepts was lowered
pub record LowersRead (book : Book) (results diagnostics : List ℕ) (c : Counted)
    (results' diagnostics' : List ℕ) : Type 0 where
  pub outcome : outcome_of c.reply results' diagnostics' ≡ lower_read (settled book) book results diagnostics
  pub counters : c.ctx ≡ counted (run (used_limits results diagnostics) (lower_records (settled book) book) start)
