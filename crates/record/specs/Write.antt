-- Records written into a lent slice.
-- Assumes nothing.
use Rattle.std.specs.Prelude.{ℕ, ◌+◌, ◌*◌, ◌/◌, ◌≤◌, ◌<◌, min, cond, ◌⊎◌, ◌≡◌, ltb, length, take, drop, replicate, get_or}
use mathlib.Core.List.{List, [], ◌∷◌, ◌++◌, flat_map}
use Rattle.record.specs.Layout.{Within, decode_record, encode_record}
use Rattle.record.specs.declared.Record.{Record}

-- the used limit of a slice in records: `most`, "or as many whole records as a shorter slice holds"
abbrev pub room_for : ℕ → List ℕ → ℕ
room_for most l = min most (length l / 24)

-- l with xs in the place of as many elements from index i on
abbrev pub write_at : List ℕ → ℕ → List ℕ → List ℕ
write_at l i xs = take i l ++ xs ++ drop (i + length xs) l

-- l with r as its record n; l itself where there is no room for that record
unfoldable pub put : ℕ → List ℕ → ℕ → Record → List ℕ
put most l n r = cond (ltb n (room_for most l)) (write_at l (24 * n) (encode_record r)) l

-- records from the start of l on, the rest as it is: "leaves bytes past the last record unchanged"
unfoldable pub with_records : List Record → List ℕ → List ℕ
with_records rs l = flat_map encode_record rs ++ drop (24 * length rs) l

-- zeros in the place of the first `limit` records: "zero up to its limit in bytes"
unfoldable pub cleared : ℕ → List ℕ → List ℕ
cleared limit l = replicate (24 * limit) 0 ++ drop (24 * limit) l

-- What is claimed of a write: where there is room the 24 bytes from 24 n on are those of r, and in every case no other
-- byte changes. The proof is in proofs/Writes.antt.
pub record Written (most : ℕ) (l : List ℕ) (n : ℕ) (r : Record) (l' : List ℕ) : Type 0 where
  pub same_length : length l' ≡ length l
  pub there : n < room_for most l → take 24 (drop (24 * n) l') ≡ encode_record r
  pub read_back : Within r → n < room_for most l → decode_record (drop (24 * n) l') ≡ r
  pub elsewhere : (i : ℕ) → (i < 24 * n) ⊎ (24 * n + 24 ≤ i) → get_or l' i 0 ≡ get_or l i 0
  pub no_room : room_for most l ≤ n → l' ≡ l

abbrev pub PutWrites : Type 0
PutWrites = (most : ℕ) (l : List ℕ) (n : ℕ) (r : Record) → Written most l n r (put most l n r)

-- What is claimed of records written one after the other; the proofs are in proofs/Fronts.antt. One record more, where
-- there is room:
abbrev pub PutAddsOne : Type 0
PutAddsOne =
    (most : ℕ) (l : List ℕ) (rs : List Record) (r : Record) →
    length rs < room_for most l → put most (with_records rs l) (length rs) r ≡ with_records (rs ++ (r ∷ [])) l

-- and what is cleared does not show them
abbrev pub ClearedForgets : Type 0
ClearedForgets =
    (limit : ℕ) (l : List ℕ) (rs : List Record) →
    length rs ≤ limit → 24 * limit ≤ length l → cleared limit (with_records rs l) ≡ cleared limit l
