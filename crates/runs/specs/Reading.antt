-- Reading the books of K1 to K12: each is accepted, and so all that is promised of an accepted book holds of it. The
-- proofs are in proofs/Reading.antt.
-- Assumes nothing.
use Rattle.std.specs.Prelude.{◌≡◌, length}
use Rattle.book.specs.Lists.{All}
use Rattle.book.specs.Answer.{accepted, read_book}
use Rattle.book.specs.Trees.{Readable}
use Rattle.runs.specs.Books.{book_of}
use Rattle.runs.specs.Known.{Known, known}

-- the answer has the number of records and the wildcard byte
pub record IsRead (k : Known) : Type 0 where
  pub answer : read_book (book_of k.wildcards k.book) ≡ accepted (length k.book) k.wildcards
  pub readable : Readable (book_of k.wildcards k.book)

abbrev pub KnownAreRead : Type 0
KnownAreRead = All IsRead known
