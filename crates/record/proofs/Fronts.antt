-- Records at the front of a slice, one after the other.
-- Assumes nothing.
use Prim.Native.Nat.{ℕ, suc, ◌+◌, ◌-◌, ◌*◌, ◌≤◌}
use mathlib.Core.Bool.{true}
use mathlib.Core.List.{List, [], ◌∷◌, ◌++◌, flat_map, append-nil, append_assoc}
use mathlib.Core.Path.{◌≡◌, refl, sym, ap, ◌∙◌}
use native.Mathlib.Numerals.{add-one}
use native.Mathlib.Omega.{arith}
use lib.Dec.{ltb}
use lib.ListN.{length, drop, replicate, length-append, length-drop}
use lib.Seq.{take_at, drop_at, drop-drop}
use borrow.Author.Tests.{lt-ltb}
use Rattle.record.specs.Layout.{encode_record}
use Rattle.record.specs.Write.{room_for, put, with_records, cleared, PutAddsOne, ClearedForgets}
use Rattle.record.specs.declared.Record.{Record}
use Rattle.record.proofs.Trips.{encode_length}
use Rattle.record.proofs.Writes.{within_room}

pub encoded_length : (rs : List Record) → length (flat_map encode_record rs) ≡ 24 * length rs
unfolding flat_map
encoded_length [] = refl
encoded_length (r ∷ rs) =
    let a : length (encode_record r) ≡ 24 = encode_length r in
    let b : length (flat_map encode_record rs) ≡ 24 * length rs = encoded_length rs in
    length-append (encode_record r) (flat_map encode_record rs) ∙ omega arith

pub encoded_more : (rs : List Record) (r : Record) → flat_map encode_record (rs ++ (r ∷ [])) ≡ flat_map encode_record rs ++ encode_record r
unfolding flat_map
encoded_more [] r = append-nil (encode_record r)
encoded_more (x ∷ rs) r =
    ap (λ l. encode_record x ++ l) (encoded_more rs r) ∙ sym (append_assoc (encode_record x) (flat_map encode_record rs) (encode_record r))

-- a front of n bytes does not change the length
pub same_length : (n : ℕ) (front l : List ℕ) → length front ≡ n → n ≤ length l → length (front ++ drop n l) ≡ length l
same_length n front l e h =
    let a : length (front ++ drop n l) ≡ length front + length (drop n l) = length-append front (drop n l) in
    let b = length-drop n l in
    omega arith

-- nor do records, and as many have room as before
pub room_same : (most : ℕ) (rs : List Record) (l : List ℕ) → length rs ≤ room_for most l → room_for most (with_records rs l) ≡ room_for most l
unfolding with_records
room_same most rs l h = rw (same_length (24 * length rs) (flat_map encode_record rs) l (encoded_length rs) (omega arith))

pub put_adds_one : PutAddsOne
unfolding put with_records
put_adds_one most l rs r h =
    let n : ℕ = length rs in
    let front : List ℕ = flat_map encode_record rs in
    let e : length front ≡ 24 * n = encoded_length rs in
    let fits : 24 * n + 24 ≤ length l = within_room most l n h in
    let less : 24 * n ≤ length l = omega arith in
    let long : length (front ++ drop (24 * n) l) ≡ length l = same_length (24 * n) front l e less in
    let there : ltb n (room_for most (front ++ drop (24 * n) l)) ≡ true = rw long (lt-ltb n (room_for most l) h) in
    let one : length (rs ++ (r ∷ [])) ≡ suc n = length-append rs (r ∷ []) ∙ add-one n in
    let far : 24 * n + 24 ≡ 24 * suc n = omega arith in
    rw (there, encoded_more rs r, one, take_at front (drop (24 * n) l) (24 * n) e, encode_length r)
    (ap (λ t. front ++ encode_record r ++ t)
    (sym (drop-drop 24 (24 * n) (front ++ drop (24 * n) l))
    ∙ ap (drop 24) (drop_at front (drop (24 * n) l) (24 * n) e)
    ∙ drop-drop 24 (24 * n) l
    ∙ ap (λ (k : ℕ). drop k l) far))

pub cleared_forgets : ClearedForgets
unfolding cleared with_records
cleared_forgets limit l rs h k =
    let n : ℕ = length rs in
    let front : List ℕ = flat_map encode_record rs in
    let e : length front ≡ 24 * n = encoded_length rs in
    let j : ℕ = 24 * limit - 24 * n in
    let whole : 24 * n + j ≡ 24 * limit = omega arith in
    ap
    (λ t. replicate (24 * limit) 0 ++ t)
    (ap (λ (m : ℕ). drop m (front ++ drop (24 * n) l)) (sym whole)
    ∙ sym (drop-drop j (24 * n) (front ++ drop (24 * n) l))
    ∙ ap (drop j) (drop_at front (drop (24 * n) l) (24 * n) e)
    ∙ drop-drop j (24 * n) l
    ∙ ap (λ (m : ℕ). drop m l) whole)
