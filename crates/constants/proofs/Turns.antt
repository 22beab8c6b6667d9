-- Names that are done, and constants.
-- Assumes nothing.
use Prim.Native.Nat.{ℕ}
use mathlib.Core.Bool.{true, false, true≢false}
use mathlib.Core.List.Memᴰ
use mathlib.Core.List.{List, ◌∷◌}
use mathlib.Core.Path.{◌≡◌, refl, sym, ◌∙◌}
use borrow.Author.Tests.{ne_eqb}
use Rattle.book.specs.Lists.{any}
use Rattle.book.proofs.Trees.{not_so}
use Rattle.constants.specs.Order.{Constant, each, has, ready}
use Rattle.constants.proofs.Tests.{mem_has, is-ready}

-- a constant that is done is not ready
pub done_not_ready : (cs : List Constant) (done : List ℕ) (c : Constant) → has c.name done ≡ true → ready each cs done c ≡ false
done_not_ready cs done c h = not_so _ (λ e. true≢false (sym h ∙ (is-ready each cs done c e).fresh))

-- a name is done: itself, and others
pub has_own : (n : ℕ) (ns : List ℕ) → has n (n ∷ ns) ≡ true
has_own n ns = mem_has (Memᴰ.head refl)

pub has_other : (n m : ℕ) (ns : List ℕ) → (n ≡ m → ⊥) → has n (m ∷ ns) ≡ has n ns
unfolding any
has_other n m ns ne = rw (ne_eqb m n (λ e. ne (sym e)), any)
