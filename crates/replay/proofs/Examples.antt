-- The definitions at work: the header of the book K1 (docs/FORMAT.md, section 7), which is accepted with 4 results, 0
-- diagnostics and 2 constants; names; what each cause changes; slices as lent and as left, and the reply that an answer
-- says.
-- Assumes nothing.
use Prim.Native.Nat.{ℕ}
use mathlib.Core.Bool.{true, false}
use mathlib.Core.List.{List, [], ◌∷◌, ◌++◌}
use mathlib.Core.Path.{◌≡◌, refl}
use lib.ListN.{replicate}
use Rattle.std.specs.Prelude.{Some, None}
use Rattle.record.specs.declared.refusal.Cause.TheVariants.{BookLength, Depth, TooDeep, Full}
use Rattle.book.specs.Lists.{from}
use Rattle.lower.specs.LowerBook.{accepted}
use Rattle.record.specs.Bytes.{little_endian, little_bytes}
use Rattle.record.specs.Refused.{cause_from}
use Rattle.replay.specs.Bytes.{is_name}
use Rattle.replay.specs.Layout.{header_of}
use Rattle.replay.specs.Range.{in_range, well_formed}
use Rattle.replay.specs.Agree.{changes, follows, agrees, places_in, suits}
use Rattle.replay.specs.Lent.{lent_byte, patterned}
use Rattle.replay.specs.Said.{reply_said, front_said, left_as}
use Rattle.replay.specs.Finding.{complete, formed}
use Rattle.replay.specs.declared.layout.Part.{Part}

four : ℕ → List ℕ
four = little_bytes 4

k1 : List ℕ
k1 =
    (0x4b ∷ 0x31 ∷ replicate 22 0)
    ++ (four 512 ++ four 49152 ++ four 6144 ++ four 0 ++ four 0 ++ four 4 ++ four 0 ++ four 2 ++ four 96 ++ four 0)

k1_can_be_read : well_formed k1 ≡ true
unfolding k1 four little_bytes well_formed is_name in_range header_of cause_from little_endian
k1_can_be_read = refl

-- its book has one block, and behind that stand 96 bytes of results
k1_is_formed : formed (header_of k1) 512 96 0 ≡ true
unfolding k1 four little_bytes header_of cause_from little_endian formed agrees changes suits places_in complete follows
k1_is_formed = refl

-- 24 characters are a name; a space in it, or a byte behind the padding, makes it none
longest_name : is_name (replicate 24 0x7e) ≡ true
unfolding is_name
longest_name = refl

no_name : (is_name (replicate 24 0) ≡ false) × ((is_name (0x61 ∷ 0x20 ∷ 0x62 ∷ []) ≡ false) × (is_name (0x61 ∷ 0 ∷ 0x62 ∷ []) ≡ false))
unfolding is_name
no_name = (refl, (refl, refl))

-- of 100 bytes four records, 96 bytes, are used; of 49,200 the first 2,048 records
lent : ℕ → Part
lent n = record { lent = n; count = 0; changed = 0 }

cleared : (changes (Some TooDeep) 2048 (lent 100) ≡ 96)
    × ((changes (Some Full) 2048 (lent 49200) ≡ 49152) × (changes (Some Depth) 2048 (lent 49200) ≡ 0))
unfolding lent changes
cleared = (refl, (refl, refl))

-- the first bytes as lent; past 255 they start again
filled : (patterned 3 5 17 ≡ 17 ∷ 22 ∷ 27 ∷ []) × ((patterned 3 3 29 ≡ 29 ∷ 32 ∷ 35 ∷ []) × (lent_byte 5 17 48 ≡ 1))
unfolding patterned from
filled = (refl, (refl, refl))

-- K1 is accepted with its counts
k1_says : reply_said (header_of k1) ≡ accepted 4 0 2
unfolding k1 four little_bytes header_of cause_from little_endian reply_said
k1_says = refl

-- three bytes of which two change: as written if the book is accepted, and zero if it is refused by 9; none changes if
-- it is refused by 1
changed : ℕ → Part
changed n = record { lent = 3; count = 0; changed = n }

left :
    (left_as None (changed 2) (1 ∷ 2 ∷ []) (patterned 3 5 17) ≡ 1 ∷ 2 ∷ 27 ∷ [])
    × ((left_as (Some TooDeep) (changed 2) [] (patterned 3 5 17) ≡ 0 ∷ 0 ∷ 27 ∷ []) × (left_as (Some BookLength) (changed 0) [] (patterned 3 5 17) ≡ 17 ∷ 22 ∷ 27 ∷ []))
unfolding changed left_as front_said patterned from
left = (refl, (refl, refl))
