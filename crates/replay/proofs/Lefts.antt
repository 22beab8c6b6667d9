-- A slice that is left, beside what an answer says of it, part by part.
-- Assumes nothing.
use Prim.Native.Nat.{ℕ, ◌≤◌, ◌<◌}
use mathlib.Core.Bool.{true, false, ◌&&◌}
use mathlib.Core.List.{List}
use mathlib.Core.Path.{◌≡◌, sym, ap, ◌∙◌}
use lib.Dec.{leb}
use lib.ListN.{length, take, drop, replicate, length-replicate}
use borrow.Author.Tests.{le-leb, lt-leb}
use Rattle.std.specs.Prelude.{Option, Some, None, is_some, nat_eq}
use Rattle.std.specs.List.{starts_with}
use Rattle.record.specs.declared.refusal.Cause.{Cause}
use Rattle.replay.specs.Bytes.{zeros}
use Rattle.replay.specs.Said.{front_said, left_as, same}
use Rattle.replay.specs.declared.layout.Part.{Part}
use Rattle.replay.proofs.Sames.{same_parts, zeros_first}

module _ (p : Part) (written left lent : List ℕ) where
  -- the bytes that were written come first
  pub left_accepted :
      (cause : Option Cause) → is_some cause ≡ false →
      starts_with nat_eq left written && same (drop (length written) left) (drop (length written) lent)
      ≡ same left (left_as cause p written lent)
  unfolding left_as front_said
  left_accepted None e = sym (same_parts left written (drop (length written) lent))
  left_accepted (Some c) e = cc

  -- zeros come first
  zeros_before :
      (c : Cause) →
      (leb p.changed (length left) && zeros (take p.changed left)) && same (drop p.changed left) (drop p.changed lent)
      ≡ same left (left_as (Some c) p written lent)
  unfolding left_as front_said
  zeros_before c =
      let front : List ℕ = replicate p.changed 0 in
      rw (← zeros_first left p.changed)
      (ap (λ n. starts_with nat_eq left front && same (drop n left) (drop n lent)) (sym (length-replicate p.changed 0))
      ∙ sym (same_parts left front (drop (length front) lent)))

  pub left_refused :
      (cause : Option Cause) → is_some cause ≡ true → p.changed ≤ length left →
      zeros (take p.changed left) && same (drop p.changed left) (drop p.changed lent) ≡ same left (left_as cause p written lent)
  left_refused None none room = cc
  left_refused (Some c) some room = rw (le-leb p.changed (length left) room) at (zeros_before c)

  -- for which there is no room
  pub left_short :
      (cause : Option Cause) → is_some cause ≡ true → length left < p.changed → false ≡ same left (left_as cause p written lent)
  left_short None none short = cc
  left_short (Some c) some short = rw (lt-leb p.changed (length left) short) at (zeros_before c)
