-- What is claimed of the record's layout; the proofs are in proofs/Trips.antt.
-- Assumes nothing.
use Rattle.std.specs.Prelude.{ℕ, List, ◌≡◌, length}
use Rattle.record.specs.Bytes.{AreBytes}
use Rattle.record.specs.Layout.{Within, decode_record, encode_record}
use Rattle.record.specs.declared.Record.{Record}

-- 24 bytes to a record and back, for every 24 bytes
abbrev pub BytesAndBack : Type 0
BytesAndBack = (s : List ℕ) → AreBytes s → length s ≡ 24 → encode_record (decode_record s) ≡ s

-- a record to 24 bytes and back, for every record whose fields are within their widths
abbrev pub RecordAndBack : Type 0
RecordAndBack = (r : Record) → Within r → decode_record (encode_record r) ≡ r

-- every record has 24 bytes, and bytes are always read as a record within its widths
abbrev pub RecordIs24Bytes : Type 0
RecordIs24Bytes = (r : Record) → (length (encode_record r) ≡ 24) × AreBytes (encode_record r)

abbrev pub BytesAreWithin : Type 0
BytesAreWithin = (s : List ℕ) → AreBytes s → Within (decode_record s)
