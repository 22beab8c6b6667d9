-- The books of K1 to K12 are read, each by computing it.
-- Assumes nothing.
use mathlib.Core.Path.{◌≡◌, refl}
use lib.ListN.{length}
use Rattle.book.specs.Answer.{accepted, answer_by, read_book}
use Rattle.book.proofs.Accepted.{read_is_readable}
use Rattle.runs.specs.Books.{book_of}
use Rattle.runs.specs.Compute.{computed}
use Rattle.runs.specs.Known.{Known, k1, k2, k3, k4, k5, k6, k7, k8, k9, k10, k11, k12}
use Rattle.runs.specs.Reading.{IsRead, KnownAreRead}
use Rattle.runs.proofs.Known.{◌&◌}

is_read : (k : Known) → read_book (book_of k.wildcards k.book) ≡ accepted (length k.book) k.wildcards → IsRead k
is_read k e = record { answer = e; readable = (read_is_readable _ _ _ e).0 }

pub known_are_read : KnownAreRead
unfolding computed read_book answer_by
known_are_read =
    is_read k1 refl
    & is_read k2 refl
    & is_read k3 refl
    & is_read k4 refl
    & is_read k5 refl
    & is_read k6 refl
    & is_read k7 refl
    & is_read k8 refl
    & is_read k9 refl
    & is_read k10 refl
    & is_read k11 refl
    & is_read k12 refl
    & tt
