-- From 24 bytes to a record and back, and from a record to 24 bytes and back.
-- Assumes nothing.
use Prim.Native.Nat.{ℕ, ◌+◌, ◌^◌, ◌≤◌, ◌<◌}
use mathlib.Core.List.{List, [], ◌++◌, append-nil}
use mathlib.Core.Path.{◌≡◌, refl, sym, ap, ap₂, ◌∙◌}
use native.Mathlib.Omega.{arith}
use lib.Dec.{lit≤}
use lib.ListN.{length, take, drop, length-drop}
use lib.Seq.{take-add, take_all}
use Rattle.record.specs.Bytes.{AreBytes, little_endian, little_bytes}
use Rattle.record.specs.Layout.{Within, decode_record, encode_record}
use Rattle.record.specs.Trips.{BytesAndBack, RecordAndBack, RecordIs24Bytes, BytesAreWithin}
use Rattle.record.specs.declared.Record.{Record}
use Rattle.record.proofs.Numbers.{read_back, bytes_back, number_below, are_bytes, bytes_append, bytes_drop}

pub encode_length : (r : Record) → length (encode_record r) ≡ 24
unfolding encode_record little_bytes
encode_length r = refl

pub encode_bytes : (r : Record) → AreBytes (encode_record r)
unfolding encode_record
encode_bytes r =
    then 4 r.span.len
    (then 4 r.span.offset
    (then 8 r.v
    (then 2 r.c (then 2 r.b (then 2 r.a (then 1 r.sub (are_bytes 1 r.kind)))))))
  where
    then : (n x : ℕ) {s : List ℕ} → AreBytes s → AreBytes (s ++ little_bytes n x)
    then n x each = bytes_append each (are_bytes n x)

pub record_is_24_bytes : RecordIs24Bytes
record_is_24_bytes r = (encode_length r, encode_bytes r)

pub bytes_are_within : BytesAreWithin
unfolding decode_record
bytes_are_within s each =
    record {
      kind = at 1 0;
      sub = at 1 1;
      a = at 2 2;
      b = at 2 4;
      c = at 2 6;
      v = at 8 8;
      offset = at 4 16;
      len = at 4 20;
    }
  where
    at : (n i : ℕ) → little_endian n (drop i s) < 256 ^ n
    at n i = number_below n (drop i s) (bytes_drop i each)

-- a record within its widths is read back from its bytes, whatever stands behind them
pub decode_encode : (r : Record) (s : List ℕ) → Within r → decode_record (encode_record r ++ s) ≡ r
unfolding decode_record encode_record little_endian little_bytes
decode_encode r s w =
    λ i.
    record {
      kind = read_back 1 r.kind [] w.kind i;
      sub = read_back 1 r.sub [] w.sub i;
      a = read_back 2 r.a [] w.a i;
      b = read_back 2 r.b [] w.b i;
      c = read_back 2 r.c [] w.c i;
      v = read_back 8 r.v [] w.v i;
      span = record { offset = read_back 4 r.span.offset [] w.offset i; len = read_back 4 r.span.len [] w.len i };
    }

pub record_and_back : RecordAndBack
record_and_back r w = ap decode_record (sym (append-nil (encode_record r))) ∙ decode_encode r [] w

module _ (s : List ℕ) (each : AreBytes s) (h : 24 ≤ length s) where
  -- the first i bytes, and the n bytes of the number behind them
  next : (i n : ℕ) → i + n ≤ 24 → {xs : List ℕ} → xs ≡ take i s → xs ++ little_bytes n (little_endian n (drop i s)) ≡ take (i + n) s
  next i n b e =
      ap₂ ◌++◌ e
      (bytes_back n (drop i s) (bytes_drop i each) (rw (length-drop i s) (omega arith)))
      ∙ sym (take-add i n s)

  -- bytes that are read as a record are the record's bytes
  pub encode_decode : encode_record (decode_record s) ≡ take 24 s
  unfolding decode_record encode_record
  encode_decode =
      next 20 4 (lit≤ tt)
      (next 16 4 (lit≤ tt)
      (next 8 8 (lit≤ tt)
      (next 6 2 (lit≤ tt)
      (next 4 2 (lit≤ tt) (next 2 2 (lit≤ tt) (next 1 1 (lit≤ tt) (bytes_back 1 s each (omega arith))))))))

pub bytes_and_back : BytesAndBack
bytes_and_back s each e = encode_decode s each (omega arith) ∙ take_all 24 s (omega arith)
