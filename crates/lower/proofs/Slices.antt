-- What is left in a slice: records at its front, or zeros up to a limit.
-- Assumes nothing.
use Prim.Native.Nat.{ℕ, suc, ◌+◌, ◌*◌, ◌≤◌}
use mathlib.Core.List.{List, [], ◌∷◌, ◌++◌, flat_map, map, append_assoc}
use mathlib.Core.Path.{◌≡◌, refl, sym, ap, ◌∙◌}
use native.Mathlib.Omega.{arith}
use lib.ListN.{length, drop, replicate, length-replicate}
use lib.Seq.{take_at, drop_at, drop-drop}
use Rattle.record.specs.declared.Record.{Record}
use Rattle.record.specs.Layout.{Within, decode_record, encode_record}
use Rattle.record.specs.Write.{room_for, with_records, cleared}
use Rattle.record.proofs.Trips.{encode_length, decode_encode}
use Rattle.record.proofs.Fronts.{encoded_length, same_length}
use Rattle.book.specs.Lists.{All, from}
use Rattle.lower.specs.Laws.{KeptFrom, Cleared, first_records}

pub room_in_bytes : (most : ℕ) (l : List ℕ) (n : ℕ) → n ≤ room_for most l → 24 * n ≤ length l
room_in_bytes most l n h = omega arith

-- something of n bytes at the front, the rest as it was
pub kept : (n : ℕ) (front lent : List ℕ) → length front ≡ n → n ≤ length lent → KeptFrom n lent (front ++ drop n lent)
kept n front lent e h = record { same_length = same_length n front lent e h; rest = drop_at front (drop n lent) n e }

pub records_kept : (rs : List Record) (lent : List ℕ) → 24 * length rs ≤ length lent → KeptFrom (24 * length rs) lent (with_records rs lent)
unfolding with_records
records_kept rs lent h = kept (24 * length rs) (flat_map encode_record rs) lent (encoded_length rs) h

pub is_cleared : (limit : ℕ) (lent : List ℕ) → 24 * limit ≤ length lent → Cleared limit lent (cleared limit lent)
unfolding cleared
is_cleared limit lent h =
    record {
      zeros = take_at (replicate (24 * limit) 0) (drop (24 * limit) lent) (24 * limit) (length-replicate (24 * limit) 0);
      past = kept (24 * limit) (replicate (24 * limit) 0) lent (length-replicate (24 * limit) 0) h;
    }

-- records within their widths are read back
read_from :
    (rs : List Record) (k : ℕ) (slice rest : List ℕ) → All Within rs →
    drop (24 * k) slice ≡ flat_map encode_record rs ++ rest →
    map (λ i. decode_record (drop (24 * i) slice)) (from k (length rs)) ≡ rs
unfolding from flat_map
read_from [] k slice rest w e = refl
read_from (r ∷ rs) k slice rest w e =
    let here : drop (24 * k) slice ≡ encode_record r ++ (flat_map encode_record rs ++ rest) = e ∙ append_assoc (encode_record r) (flat_map encode_record rs) rest in
    let head : decode_record (drop (24 * k) slice) ≡ r = ap decode_record here ∙ decode_encode r (flat_map encode_record rs ++ rest) w.0 in
    let step : 24 * k + 24 ≡ 24 * suc k = omega arith in
    let tail : drop (24 * suc k) slice ≡ flat_map encode_record rs ++ rest =
    ap (λ (n : ℕ). drop n slice) (sym step) ∙ sym (drop-drop 24 (24 * k) slice) ∙ ap (drop 24) here ∙ drop_at (encode_record r) (flat_map encode_record rs ++ rest) 24 (encode_length r) in
    ap (λ x. x ∷ map (λ i. decode_record (drop (24 * i) slice)) (from (suc k) (length rs))) head
    ∙ ap (λ l. r ∷ l) (read_from rs (suc k) slice rest w.1 tail)

pub read_back : (rs : List Record) (lent : List ℕ) → All Within rs → first_records (length rs) (with_records rs lent) ≡ rs
unfolding first_records with_records
read_back rs lent w = read_from rs 0 (flat_map encode_record rs ++ drop (24 * length rs) lent) (drop (24 * length rs) lent) w refl
