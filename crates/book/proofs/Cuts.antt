-- The records of a book, each at its place in some bytes: of the bytes as a whole, and of their front up to where the
-- last record ends, behind which there is none.
-- Assumes nothing.
use Rattle.std.specs.Prelude.{ℕ, ◌+◌, ◌-◌, ◌*◌, ◌/◌, ◌%◌, ◌≤◌, ◌<◌, Bool, List, [], ◌∷◌, map, ◌≡◌, length, take, drop}
use Rattle.std.proofs.Common.{refl, sym, ◌∙◌, ap, arith}
use mathlib.Core.List.{Memᴰ}
use Rattle.std.proofs.lemmas.List.{get_or-drop, get_or-take, get_or_past, length-take}
use Rattle.record.specs.declared.Record.{Record}
use Rattle.record.specs.Bytes.{little_endian}
use Rattle.record.specs.Layout.{record_at, decode_record}
use Rattle.record.proofs.Pads.{same_record}
use Rattle.book.specs.Lists.{up_to}
use Rattle.book.specs.Blocks as of
use Rattle.book.specs.Blocks.{record_count, records}
use Rattle.book.specs.Outline.{Book, read}
use Rattle.book.specs.Trees.{Readable}
use Rattle.book.specs.Accepted.{blank, book_in, Kept, Held}
use Rattle.book.proofs.Members.{mem_up_to}

-- what agrees on the elements of a list gives the same list
map_agree : (f g : ℕ → Record) (l : List ℕ) → ((n : ℕ) → Memᴰ n l → f n ≡ g n) → map f l ≡ map g l
map_agree f g [] same = refl
map_agree f g (n ∷ l) same = λ i. same n (Memᴰ.head refl) i ∷ map_agree f g l (λ m there. same m (Memᴰ.tail there)) i

module _ (bytes : List ℕ) {count : ℕ} {wildcards : Bool} (counted : count ≡ record_count bytes) (wild : wildcards ≡ of.wildcards bytes) where
  -- all of the bytes are held
  pub whole_same : book_in bytes count wildcards ≡ read bytes
  unfolding book_in read records
  whole_same = λ i. record { records = map (record_at bytes) (up_to (counted i)); wildcards = wild i }

  -- their front is held
  module _ {end : ℕ} (end_is : end ≡ 512 * ((count - 1) / 21) + 4 + 24 * ((count - 1) % 21) + 24) where
    same_at : (p : ℕ) → p + 24 ≤ end → decode_record (drop p (take end bytes)) ≡ decode_record (drop p bytes)
    same_at p fits =
        same_record (drop p (take end bytes)) (drop p bytes)
        (λ j low. get_or-drop p (take end bytes) j 0
        ∙ get_or-take end bytes (p + j) 0 (omega arith)
        ∙ sym (get_or-drop p bytes j 0))

    blank_at : (p : ℕ) → end ≤ p → decode_record (drop p (take end bytes)) ≡ blank
    unfolding decode_record little_endian
    blank_at p past =
        same_record (drop p (take end bytes)) []
        (λ j low. get_or-drop p (take end bytes) j 0
        ∙ get_or_past (take end bytes) (p + j) 0 (omega (arith, length-take end bytes)))

    inside : (n : ℕ) → n < count → 512 * (n / 21) + 4 + 24 * (n % 21) + 24 ≤ end
    inside n less = omega arith

    behind : (n : ℕ) → 0 < count → count ≤ n → end ≤ 512 * (n / 21) + 4 + 24 * (n % 21)
    behind n some past = omega arith

    there : (n : ℕ) → n < count → record_at (take end bytes) n ≡ record_at bytes n
    unfolding record_at
    there n less = same_at (512 * (n / 21) + 4 + 24 * (n % 21)) (inside n less)

    absent : (n : ℕ) → 0 < count → count ≤ n → record_at (take end bytes) n ≡ blank
    unfolding record_at
    absent n some past = blank_at (512 * (n / 21) + 4 + 24 * (n % 21)) (behind n some past)

    front_same : book_in (take end bytes) count wildcards ≡ book_in bytes count wildcards
    unfolding book_in
    front_same =
        ap (λ (rs : List Record). let b : Book = record { records = rs; wildcards = wildcards } in b)
        (map_agree (record_at (take end bytes)) (record_at bytes) (up_to count) (λ n m. there n (mem_up_to count m)))

    pub front_is : book_in (take end bytes) count wildcards ≡ read bytes
    front_is = front_same ∙ whole_same

    pub front_held : Readable bytes → Held (take end bytes) count wildcards
    front_held readable =
        record {
          whole = bytes;
          readable = readable;
          same = front_is;
          absent = λ n past. absent n (omega (arith, readable.some_records)) past;
        }

    -- and all of it is there
    pub front_there : Readable bytes → end ≤ length bytes
    front_there readable = omega (arith, (readable.in_range (count - 1) (omega (arith, readable.some_records))).inside)

-- what is kept of bytes is held of them, and the book is the one that they are read as
pub whole_held : {bytes : List ℕ} {count : ℕ} {wildcards : Bool} → Kept bytes count wildcards → Held bytes count wildcards
whole_held {bytes} kept =
    record {
      whole = bytes;
      readable = kept.readable;
      same = whole_same bytes kept.counted kept.wild;
      absent = λ n past. kept.absent n (omega (arith, kept.counted));
    }
