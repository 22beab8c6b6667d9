-- `record::encode` meets its contract. The divisions by powers of 256 are those of `little_bytes`, one by one.
-- Assumes nothing.
use native.Mathlib.Nat.{div-div-eq-div-mul}
use Prim.Native.Nat.{◌%◌}
use mathlib.Core.Path.{◌≡◌}
use native.Mathlib.Omega.{arith}
use Rattle.record.specs.Bytes.{little_bytes}
use Rattle.record.specs.Layout.{encode_record}
use Rattle.record.proofs.encode.Goals as goal

pub returns : goal.returns
unfolding encode_record little_bytes
returns c =
    let r = c.args.r in
    let kind : r.kind % 256 ≡ r.kind = omega arith in
    let sub : r.sub % 256 ≡ r.sub = omega arith in
    rw (
      c.to_le_bytes.ensures,
      c.to_le_bytes-2.ensures,
      c.to_le_bytes-3.ensures,
      c.to_le_bytes-4.ensures,
      c.to_le_bytes-5.ensures,
      c.to_le_bytes-6.ensures,
    )
    (simp (div-div-eq-div-mul, kind, sub))
