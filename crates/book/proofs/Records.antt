-- The records of a book of bytes: their fields are within their widths, they are as many as are counted, and each is
-- read at its own place.
-- Assumes nothing.
use Prim.Native.Nat.{ℕ, zero, suc, ◌+◌, ◌*◌, ◌/◌, ◌%◌, ◌<◌}
use mathlib.Core.List.{List, [], ◌∷◌, map}
use mathlib.Core.Path.{◌≡◌, refl, ap, ◌∙◌}
use native.Mathlib.Omega.{arith}
use lib.ListN.{length, drop, get_or, length-map}
use Rattle.record.specs.declared.Record.{Record}
use Rattle.record.specs.Bytes.{AreBytes}
use Rattle.record.specs.Layout.{Within, record_at}
use Rattle.record.proofs.Numbers.{bytes_drop}
use Rattle.record.proofs.Trips.{bytes_are_within}
use Rattle.book.specs.Lists.{All, up_to}
use Rattle.book.specs.Blocks.{record_count, records}
use Rattle.book.specs.Faults.{record_of}
use Rattle.book.proofs.Lists.{all_at, all_map, from-length}
use Rattle.book.proofs.Members.{at_from}

pub record-within : (rs : List Record) (n : ℕ) → All Within rs → Within (record_of rs n)
unfolding record_of
record-within rs n h = all_at Within rs n _ h (omega arith)

pub records-within : (book : List ℕ) → AreBytes book → All Within (records book)
unfolding records record_at
records-within book each = all_map Within (record_at book) at_place (up_to (record_count book))
  where
    at_place : (r : ℕ) → Within (record_at book r)
    at_place r = let n = 512 * (r / 21) + 4 + 24 * (r % 21) in bytes_are_within (drop n book) (bytes_drop n each)

pub records-length : (book : List ℕ) → length (records book) ≡ record_count book
unfolding records
records-length book = length-map (up_to (record_count book)) (record_at book) ∙ from-length 0 (record_count book)

-- element n of the results is the result of element n
pub at_map : {A B : Type 0} (f : A → B) (l : List A) (n : ℕ) (d : A) (e : B) → n < length l → get_or (map f l) n e ≡ f (get_or l n d)
at_map f [] n d e less = absurd (omega arith)
at_map f (x ∷ l) zero d e less = refl
at_map f (x ∷ l) (suc n) d e less = at_map f l n d e (omega arith)

-- a record of the book, in its list
pub record_here : (book : List ℕ) (n : ℕ) → n < record_count book → record_of (records book) n ≡ record_at book n
unfolding record_of records
record_here book n less =
    let here : n < length (up_to (record_count book)) = omega (arith, from-length 0 (record_count book)) in
    at_map (record_at book) (up_to (record_count book)) n 0 _ here ∙ ap (record_at book) (at_from 0 (record_count book) n 0 less ∙ omega arith)
