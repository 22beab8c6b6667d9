-- Bytes past the end that count as 0: a record is told by its 24 bytes alone.
-- Assumes nothing.
use Prim.Native.Nat.{ℕ, ◌+◌, ◌<◌, ◌≤◌}
use mathlib.Core.List.{List}
use mathlib.Core.Path.{◌≡◌}
use native.Mathlib.Omega.{arith}
use lib.ListN.{drop, get_or}
use lib.Seq.{get_or-drop}
use Rattle.record.specs.Bytes.{little_endian}
use Rattle.record.specs.Layout.{decode_record}
use Rattle.record.proofs.Numbers.{same_number}

pub same_record : (s t : List ℕ) → ((j : ℕ) → j < 24 → get_or s j 0 ≡ get_or t j 0) → decode_record s ≡ decode_record t
unfolding decode_record
same_record s t same =
    rw (at 1 1 (omega arith), at 2 2 (omega arith), at 2 4 (omega arith), at 2 6 (omega arith), at 8 8 (omega arith), at 4 16 (omega arith), at 4 20 (omega arith), same_number 1 s t (λ j less. same j (omega arith)))
  where
    at : (n k : ℕ) → k + n ≤ 24 → little_endian n (drop k s) ≡ little_endian n (drop k t)
    at n k fits = same_number n (drop k s) (drop k t) (λ j less. rw (get_or-drop k s j 0, get_or-drop k t j 0) (same (k + j) (omega arith)))
