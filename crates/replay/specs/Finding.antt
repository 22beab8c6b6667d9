-- What is found of one answer.
-- Assumes nothing.
use Rattle.std.specs.Prelude.{ℕ, Bool, true, ◌&&◌, List, Some, None, ◌↔◌, ◌≡◌, eqb, length}
use Rattle.lower.specs.LowerBook.{Reply, accepted, refused, lower_book}
use Rattle.replay.specs.Agree.{follows, agrees, suits}
use Rattle.replay.specs.Lent.{lent_results, lent_diagnostics}
use Rattle.replay.specs.Said.{said, agrees_with}
use Rattle.replay.specs.declared.layout.Header.{Header}
use Rattle.replay.specs.declared.answer.Finding.{Finding}

-- all that is written stands there, and no more
unfoldable pub complete : Header → ℕ → ℕ → ℕ → Bool
complete h book results diagnostics =
    eqb book h.book
    && eqb results (follows h.cause h.results)
    && eqb diagnostics (follows h.cause h.diagnostics)

-- the form of an answer, before its book is lowered
unfoldable pub formed : Header → ℕ → ℕ → ℕ → Bool
formed h book results diagnostics = agrees h && suits h book && complete h book results diagnostics

-- whether an answer is right, and what the reply to its book counts: nothing if it is a refusal
unfoldable pub found : Bool → Reply → Finding
found right (accepted r d c) = record { right = right; counts = Some (record { results = r; diagnostics = d; constants = c }) }
found right (refused n p) = record { right = right; counts = None }

-- an answer whose book is lowered into two slices: it is right where its form is, and where that gives the reply and
-- the slices that it says
unfoldable pub finding_into : Header → List ℕ → List ℕ → List ℕ → List ℕ → List ℕ → Finding
finding_into h book results diagnostics own_results own_diagnostics =
    found
    (formed h (length book) (length results) (length diagnostics)
    && agrees_with (lower_book book own_results own_diagnostics) (said h results diagnostics own_results own_diagnostics))
    (lower_book book own_results own_diagnostics).reply

-- the same with slices as long as the answer says, filled as they are lent
unfoldable pub finding : Header → List ℕ → List ℕ → List ℕ → Finding
finding h book results diagnostics = finding_into h book results diagnostics (lent_results h) (lent_diagnostics h)

-- What is claimed of this: an answer is right exactly if its form is, and if lowering its book into the slices as lent
-- gives what it says. The proof is in proofs/Founds.antt.
abbrev pub RightIfLowered : Type 0
RightIfLowered =
    (h : Header) (book results diagnostics : List ℕ) →
    ((finding h book results diagnostics).right ≡ true) ↔
    ((formed h (length book) (length results) (length diagnostics) ≡ true)
    × (lower_book book (lent_results h) (lent_diagnostics h) ≡ said h results diagnostics (lent_results h) (lent_diagnostics h)))
