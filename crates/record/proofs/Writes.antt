-- What writing a record into a slice changes, and what it leaves.
-- Assumes nothing.
use Prim.Native.Nat.{ℕ, ◌+◌, ◌-◌, ◌*◌, ◌≤◌, ◌<◌}
use mathlib.Core.List.{List, ◌++◌, append_assoc}
use mathlib.Core.Logic.{◌⊎◌, ⊎_elim}
use mathlib.Core.Path.{◌≡◌, refl, sym, ap, ◌∙◌}
use native.Mathlib.Decide.{dec_le}
use native.Mathlib.Omega.{arith}
use lib.ListN.{length, take, drop, get_or, get_or-append}
use lib.Seq.{paste, take_all, length-paste, drop-paste, drop_at, take_at, length-take-le, get_or-take, get_or-drop}
use borrow.Author.Tests.{lt-ltb, le-ltb}
use Rattle.record.specs.Layout.{decode_record, encode_record}
use Rattle.record.specs.Write.{room_for, put, PutWrites}
use Rattle.record.specs.declared.Record.{Record}
use Rattle.record.proofs.Trips.{encode_length, decode_encode}

-- a record below the room has its 24 bytes in the slice
pub within_room : (most : ℕ) (l : List ℕ) (n : ℕ) → n < room_for most l → 24 * n + 24 ≤ length l
within_room most l n h = omega arith

pub put_out : (most : ℕ) (l : List ℕ) (n : ℕ) (r : Record) → room_for most l ≤ n → l ≡ put most l n r
unfolding put
put_out most l n r h = rw (le-ltb n (room_for most l) h)

-- the copy of all 24 bytes is the record written
pub put_in : (most : ℕ) (l : List ℕ) (n : ℕ) (r : Record) → n < room_for most l → paste l (24 * n) (encode_record r) 24 ≡ put most l n r
unfolding put
put_in most l n r h =
    let short : length (encode_record r) ≤ 24 = omega (arith, encode_length r) in
    rw (lt-ltb n (room_for most l) h, encode_length r, take_all 24 (encode_record r) short)

encode_long : (r : Record) → 24 ≤ length (encode_record r)
encode_long r = omega (arith, encode_length r)

-- a copy of n elements changes no other
paste_elsewhere :
    (d : List ℕ) (at : ℕ) (s : List ℕ) (n i : ℕ) →
    at + n ≤ length d →
    n ≤ length s →
    (i < at) ⊎ (at + n ≤ i) →
    get_or (paste d at s n) i 0 ≡ get_or d i 0
paste_elsewhere d at s n i fits long = ⊎_elim before behind
  where
    before : i < at → get_or (paste d at s n) i 0 ≡ get_or d i 0
    before h =
        let here : i < length (take at d) = rw (length-take-le at d (omega arith)) h in
        rw (append_assoc (take at d))
        (get_or-append (take at d) (take n s ++ drop (at + n) d) 0 i here ∙ get_or-take at d i 0 h)

    behind : at + n ≤ i → get_or (paste d at s n) i 0 ≡ get_or d i 0
    behind h =
        let past : at + n + (i - (at + n)) ≡ i = omega arith in
        let there : (e : List ℕ) → get_or (drop (at + n) e) (i - (at + n)) 0 ≡ get_or e i 0 =
        λ e. get_or-drop (at + n) e (i - (at + n)) 0 ∙ ap (λ (k : ℕ). get_or e k 0) past in
        sym (there (paste d at s n))
        ∙ ap (λ (e : List ℕ). get_or e (i - (at + n)) 0) (drop-paste d at s n (omega arith) long)
        ∙ there d

module _ (most : ℕ) (l : List ℕ) (n : ℕ) (r : Record) where
  -- what holds of l where there is no room, and of the copy where there is, holds of the slice after the write
  by_room : (P : List ℕ → Type 0) → P l → (n < room_for most l → P (paste l (24 * n) (encode_record r) 24)) → P (put most l n r)
  by_room P out there = go (dec_le (room_for most l) n)
    where
      go : Dec (room_for most l ≤ n) → P (put most l n r)
      go (yes h) = rw (← put_out most l n r h) out
      go (no h) =
          let inside : n < room_for most l = omega arith in
          rw (← put_in most l n r inside) (there inside)

  put-length : length (put most l n r) ≡ length l
  put-length =
      by_room (λ d. length d ≡ length l) refl
      (λ h. length-paste l (24 * n) (encode_record r) 24 (within_room most l n h) (encode_long r))

  put_elsewhere : (i : ℕ) → (i < 24 * n) ⊎ (24 * n + 24 ≤ i) → get_or (put most l n r) i 0 ≡ get_or l i 0
  put_elsewhere i outside =
      by_room (λ d. get_or d i 0 ≡ get_or l i 0) refl
      (λ h. paste_elsewhere l (24 * n) (encode_record r) 24 i (within_room most l n h) (encode_long r) outside)

  -- from byte 24 n on stand the record's bytes, and then the rest as it was
  put_from : n < room_for most l → drop (24 * n) (put most l n r) ≡ encode_record r ++ drop (24 * n + length (encode_record r)) l
  unfolding put
  put_from h =
      let whole : 24 * n ≤ length l = omega (arith, within_room most l n h) in
      let long = length-take-le (24 * n) l whole in
      rw (lt-ltb n (room_for most l) h, append_assoc (take (24 * n) l), drop_at (take (24 * n) l) _ (24 * n) long)

pub put_writes : PutWrites
put_writes most l n r =
    record {
      same_length = put-length most l n r;
      there = λ h. ap (take 24) (put_from most l n r h) ∙ take_at (encode_record r) _ 24 (encode_length r);
      read_back = λ w h. ap decode_record (put_from most l n r h) ∙ decode_encode r _ w;
      elsewhere = put_elsewhere most l n r;
      no_room = λ h. sym (put_out most l n r h);
    }
