-- What the code begins with.
-- Assumes nothing.
use Rattle.std.specs.Prelude.{ℕ, List}
use Rattle.record.specs.Written.{blank}
use Rattle.book.specs.Outline.{Book}
use Rattle.types.specs.Tables.{Tables}
use Rattle.types.specs.Code.{State}

-- so much is known of names, nothing is written, and nothing is being lowered
abbrev pub begun : Book → Tables → List ℕ → List ℕ → State
begun book names results diagnostics =
    record {
      book = book;
      names = names;
      results = blank results 2048;
      diagnostics = blank diagnostics 256;
      place = 0;
    }
