-- What a slice and its cursor show after one more record.
-- Assumes nothing.
use Rattle.std.proofs.Common.{◌≡◌, ℕ, zero, suc, ◌+◌, ◌-◌, ◌*◌, ◌/◌, ◌≤◌, ◌<◌, min, true, false, ◌&&◌, nat_lt, List, [], ◌∷◌, ◌++◌, length, take, drop, map, Some, refl, sym, ap, ◌∙◌, arith, length-append, length-drop, drop-drop, append_assoc, add-one}
use Rattle.std.specs.Prelude.{slice_get, None}
use Rattle.std.specs.List.{range_with_len}
use mathlib.Core.List.{flat_map}
use Rattle.std.proofs.lemmas.Bool.Decides.{nat_tests}
use Rattle.std.proofs.lemmas.List.{take-append-drop, take-take, drop-take, take_at, drop_at, length-take-le, get_or-take}
use Rattle.std.proofs.lemmas.List.FromFn.{map-range_with_len_more, length-map-range_with_len, get_or-map-range_with_len}
use Rattle.std.proofs.lemmas.Option.{slice_get-get_or, slice_get_past}
use Rattle.record.specs.declared.Record.{Record}
use Rattle.record.specs.declared.cursor.Cursor.{Cursor}
use Rattle.record.specs.Layout.{Within, decode_record, encode_record}
use Rattle.record.specs.Write.{room_for, write_at, with_records}
use Rattle.record.specs.Written.{records_in, shown, blank, written, all_of, pushed, with_record, has_room, read_at}
use Rattle.record.proofs.Fronts.{encoded_more}
use Rattle.record.proofs.Pads.{same_record}
use Rattle.record.proofs.Trips.{encode_length, record_and_back}

-- a record is told by its 24 bytes alone
decode_record-take : (s : List ℕ) → decode_record (take 24 s) ≡ decode_record s
decode_record-take s = same_record (take 24 s) s (λ j less. get_or-take 24 s j 0 less)

-- record i of the slice
abbrev decoded : List ℕ → ℕ → Record
decoded l i = decode_record (drop (24 * i) l)

pub length-records_in : (n : ℕ) (l : List ℕ) → length (records_in n l) ≡ n
unfolding records_in
length-records_in n l = length-map-range_with_len (decoded l) 0 n

pub records_in-none : (l : List ℕ) → records_in 0 l ≡ []
unfolding records_in
records_in-none l = refl

pub records_in-more :
    (n : ℕ) (l : List ℕ) → records_in (n + 1) l ≡ records_in n l ++ decode_record (drop (24 * n) l) ∷ []
unfolding records_in
records_in-more n l = map-range_with_len_more (decoded l) 0 n n (omega arith)

pub get-records_in :
    (n i : ℕ) (l : List ℕ) → i < n → slice_get (records_in n l) i ≡ Some (decode_record (drop (24 * i) l))
unfolding records_in
get-records_in n i l h =
    let d : Record = decode_record [] in
    let inside : i < length (map (decoded l) (range_with_len 0 n)) =
    omega (arith, length-map-range_with_len (decoded l) 0 n) in
    slice_get-get_or _ i d inside ∙ ap (λ r. Some r) (get_or-map-range_with_len (decoded l) 0 n i i d h (omega arith))

pub get-records_in-past : (n i : ℕ) (l : List ℕ) → n ≤ i → slice_get (records_in n l) i ≡ None
get-records_in-past n i l h = slice_get_past (records_in n l) i (omega (arith, length-records_in n l))

-- the records in the first 24 n bytes are told by those bytes
front_less : (n : ℕ) (l m : List ℕ) → take (24 * n + 24) l ≡ take (24 * n + 24) m → take (24 * n) l ≡ take (24 * n) m
front_less n l m h =
    sym (take-take (24 * n) (24 * n + 24) l (omega arith))
    ∙ ap (take (24 * n)) h
    ∙ take-take (24 * n) (24 * n + 24) m (omega arith)

front_last : (n : ℕ) (l m : List ℕ) → take (24 * n + 24) l ≡ take (24 * n + 24) m → decoded l n ≡ decoded m n
front_last n l m h =
    sym (decode_record-take (drop (24 * n) l))
    ∙ ap decode_record (sym (drop-take (24 * n) 24 l) ∙ ap (drop (24 * n)) h ∙ drop-take (24 * n) 24 m)
    ∙ decode_record-take (drop (24 * n) m)

pub records_in-front : (n : ℕ) (l m : List ℕ) → take (24 * n) l ≡ take (24 * n) m → records_in n l ≡ records_in n m
records_in-front zero l m h = records_in-none l ∙ sym (records_in-none m)
records_in-front (suc n) l m h =
    let more : 24 * suc n ≡ 24 * n + 24 = omega arith in
    let g : take (24 * n + 24) l ≡ take (24 * n + 24) m = rw more at h in
    rw (
      ← add-one n,
      records_in-more n l,
      records_in-more n m,
      records_in-front n l m (front_less n l m g),
      front_last n l m g,
    ) refl

-- a record e written as record n
module _ (n : ℕ) (l e : List ℕ) (room : 24 * n + 24 ≤ length l) (long : length e ≡ 24) where
  abbrev behind : List ℕ
  behind = drop (24 * n + length e) l

  front : length (take (24 * n) l) ≡ 24 * n
  front = length-take-le (24 * n) l (omega arith)

  there : length (take (24 * n) l ++ e) ≡ 24 * (n + 1)
  there = omega (arith, length-append (take (24 * n) l) e, front)

  pub written_front : take (24 * (n + 1)) (write_at l (24 * n) e) ≡ take (24 * n) l ++ e
  written_front = take_at (take (24 * n) l ++ e) behind (24 * (n + 1)) there

  pub written_rest : drop (24 * (n + 1)) (write_at l (24 * n) e) ≡ drop 24 (drop (24 * n) l)
  written_rest =
      drop_at (take (24 * n) l ++ e) behind (24 * (n + 1)) there
      ∙ ap (λ k. drop (24 * n + k) l) long ∙ sym (drop-drop 24 (24 * n) l)

  pub written_before : take (24 * n) (write_at l (24 * n) e) ≡ take (24 * n) l
  written_before =
      rw (append_assoc (take (24 * n) l) e behind)
      (take_at (take (24 * n) l) (e ++ behind) (24 * n) front)

  pub written_there : take 24 (drop (24 * n) (write_at l (24 * n) e)) ≡ e
  written_there =
      rw (append_assoc (take (24 * n) l) e behind, drop_at (take (24 * n) l) (e ++ behind) (24 * n) front)
      (take_at e behind 24 long)

-- so one more record is read
pub records_in-write :
    (n : ℕ) (l : List ℕ) (r : Record) → 24 * n + 24 ≤ length l → Within r →
    records_in (n + 1) (write_at l (24 * n) (encode_record r)) ≡ records_in n l ++ r ∷ []
records_in-write n l r room w =
    let e : List ℕ = encode_record r in
    let m : List ℕ = write_at l (24 * n) e in
    let back : decode_record (drop (24 * n) m) ≡ r =
    sym (decode_record-take (drop (24 * n) m))
    ∙ ap decode_record (written_there n l e room (encode_length r))
    ∙ record_and_back r w in
    let before : records_in n m ≡ records_in n l = records_in-front n m l (written_before n l e room (encode_length r)) in
    records_in-more n m
    ∙ ap (λ x. x ++ decode_record (drop (24 * n) m) ∷ []) before
    ∙ ap (λ x. records_in n l ++ x ∷ []) back

pub shown-write :
    (l m : List ℕ) (n most : ℕ) (r : Record) →
    m ≡ write_at l (24 * n) (encode_record r) → length m ≡ length l → 24 * n + 24 ≤ length l → Within r →
    shown m (record { count = n + 1; most = most }) ≡ with_record (shown l (record { count = n; most = most })) r
unfolding shown
shown-write l m n most r e same room w =
    let long = encode_length r in
    rw (
      same,
      e,
      written_front n l (encode_record r) room long,
      written_rest n l (encode_record r) room long,
      records_in-write n l r room w,
    ) refl

pub shown-count : (l : List ℕ) (c : Cursor) → (shown l c).count ≡ c.count
unfolding shown
shown-count l c = refl

-- there is room for one more, in numbers
room_test : (n most size : ℕ) → nat_lt n most && nat_lt 23 (size - 24 * n) ≡ nat_lt n (min most (size / 24))
room_test n most size = grind (arith, nat_tests)

pub has_room-shown : (l : List ℕ) (c : Cursor) → has_room (shown l c) ≡ nat_lt c.count (room_for c.most l)
unfolding shown
has_room-shown l c = rw (length-drop (24 * c.count) l) (room_test c.count c.most (length l))

pub has_room-written :
    (rs : List Record) (lent : List ℕ) (most : ℕ) →
    has_room (written rs lent most) ≡ nat_lt (length rs) (room_for most lent)
has_room-written rs lent most = rw (length-drop (24 * length rs) lent) (room_test (length rs) most (length lent))

pub has_room-yes :
    (l : List ℕ) (c : Cursor) → c.count < c.most → 24 * c.count + 24 ≤ length l → has_room (shown l c) ≡ true
has_room-yes l c a b = has_room-shown l c ∙ grind (arith, nat_tests)

pub has_room-full : (l : List ℕ) (c : Cursor) → c.most ≤ c.count → has_room (shown l c) ≡ false
has_room-full l c a = has_room-shown l c ∙ grind (arith, nat_tests)

pub has_room-short : (l : List ℕ) (c : Cursor) → length l < 24 * c.count + 24 → has_room (shown l c) ≡ false
has_room-short l c a = has_room-shown l c ∙ grind (arith, nat_tests)

pub read_at-there :
    (l : List ℕ) (c : Cursor) (n : ℕ) → n < c.count → read_at (shown l c) n ≡ Some (decode_record (drop (24 * n) l))
unfolding read_at shown
read_at-there l c n h = get-records_in c.count n l h

pub read_at-past : (l : List ℕ) (c : Cursor) (n : ℕ) → c.count ≤ n → read_at (shown l c) n ≡ None
unfolding read_at shown
read_at-past l c n h = get-records_in-past c.count n l h

-- nothing is written; and the whole slice
pub shown-blank : (l : List ℕ) (most : ℕ) → shown l (record { count = 0; most = most }) ≡ blank l most
unfolding shown
shown-blank l most = rw (records_in-none l) refl

pub blank-written : (l : List ℕ) (most : ℕ) → blank l most ≡ written [] l most
unfolding flat_map
blank-written l most = refl

pub shown-all : (l : List ℕ) (c : Cursor) → all_of (shown l c) ≡ l
unfolding shown
shown-all l c = take-append-drop (24 * c.count) l

pub written-all : (rs : List Record) (lent : List ℕ) (most : ℕ) → all_of (written rs lent most) ≡ with_records rs lent
unfolding with_records
written-all rs lent most = refl

-- one more behind those that are written
pub with_record-written :
    (rs : List Record) (lent : List ℕ) (most : ℕ) (r : Record) →
    with_record (written rs lent most) r ≡ written (rs ++ r ∷ []) lent most
with_record-written rs lent most r =
    let far : 24 * length rs + 24 ≡ 24 * (length rs + 1) = omega arith in
    rw (length-append rs (r ∷ []), encoded_more rs r, drop-drop 24 (24 * length rs) lent, far) refl

pub pushed-written :
    (rs : List Record) (lent : List ℕ) (most : ℕ) (r : Record) →
    length rs < room_for most lent → pushed (written rs lent most) r ≡ written (rs ++ r ∷ []) lent most
unfolding pushed
pushed-written rs lent most r h =
    let yes : has_room (written rs lent most) ≡ true = has_room-written rs lent most ∙ grind (arith, nat_tests) in
    rw yes (with_record-written rs lent most r)

pub pushed-written_full :
    (rs : List Record) (lent : List ℕ) (most : ℕ) (r : Record) →
    room_for most lent ≤ length rs → pushed (written rs lent most) r ≡ written rs lent most
unfolding pushed
pushed-written_full rs lent most r h =
    let no : has_room (written rs lent most) ≡ false = has_room-written rs lent most ∙ grind (arith, nat_tests) in
    rw no refl

-- what `get` and `push` go by
pub ruleset reads = (read_at-there, read_at-past)

pub ruleset writes = (has_room-yes, has_room-full, has_room-short, shown-count, shown-write)
