-- What an answer says: the reply, and both slices at exit; and whether the lowering of its book gives the same.
-- Assumes nothing.
use Rattle.std.specs.Prelude.{ℕ, Bool, true, false, ◌&&◌, Option, Some, None, List, [], ◌∷◌, ◌++◌, ◌↔◌, ◌≡◌, eqb, length, drop, replicate}
use Rattle.record.specs.Refused.{number_of}
use Rattle.record.specs.declared.refusal.Cause.{Cause}
use Rattle.lower.specs.LowerBook.{Reply, accepted, refused, Outcome}
use Rattle.replay.specs.declared.layout.Header.{Header}
use Rattle.replay.specs.declared.layout.Part.{Part}

-- the reply: accepted with these counts, or refused for a cause
abbrev pub reply_by : Option Cause → ℕ → ℕ → ℕ → ℕ → Reply
reply_by None results diagnostics constants place = accepted results diagnostics constants
reply_by (Some cause) results diagnostics constants place = refused (number_of cause) place

unfoldable pub reply_said : Header → Reply
reply_said h = reply_by h.cause h.results.count h.diagnostics.count h.constants h.place

-- the front of a slice at exit: the bytes that follow the book if it is accepted, else zeros, as many as changed (none
-- at causes 1 to 8)
unfoldable pub front_said : Option Cause → Part → List ℕ → List ℕ
front_said None p written = written
front_said (Some cause) p written = replicate p.changed 0

-- a slice at exit: that front, and behind it all as lent
unfoldable pub left_as : Option Cause → Part → List ℕ → List ℕ → List ℕ
left_as cause p written lent =
    let front : List ℕ = front_said cause p written in
    front ++ drop (length front) lent

-- the reply and the two slices at exit, of which the last two were lent
unfoldable pub said : Header → List ℕ → List ℕ → List ℕ → List ℕ → Outcome
said h results diagnostics own_results own_diagnostics =
    record {
      reply = reply_said h;
      results = left_as h.cause h.results results own_results;
      diagnostics = left_as h.cause h.diagnostics diagnostics own_diagnostics;
    }

-- two replies are the same
unfoldable pub same_reply : Reply → Reply → Bool
same_reply (accepted r d c) (accepted r' d' c') = eqb r r' && eqb d d' && eqb c c'
same_reply (accepted r d c) (refused n p) = false
same_reply (refused n p) (accepted r d c) = false
same_reply (refused n p) (refused n' p') = eqb n n' && eqb p p'

-- two slices are the same, byte for byte
unfoldable pub same : List ℕ → List ℕ → Bool
same [] [] = true
same [] (y ∷ ys) = false
same (x ∷ xs) [] = false
same (x ∷ xs) (y ∷ ys) = eqb x y && same xs ys

-- two outcomes are the same: the reply, and each byte of both slices
unfoldable pub agrees_with : Outcome → Outcome → Bool
agrees_with x y = same_reply x.reply y.reply && same x.results y.results && same x.diagnostics y.diagnostics

-- What is claimed of this: it tells whether two outcomes are equal. The proof is in proofs/Sames.antt.
abbrev pub AgreesIfEqual : Type 0
AgreesIfEqual = (x y : Outcome) → (agrees_with x y ≡ true) ↔ (x ≡ y)
