-- The front of the zeros is what is to be lent; what `lower_counted` and `front_length` ensure is then all that the law
-- asks.
use Prim.Native.Nat.{ℕ, ◌*◌, min}
use mathlib.Core.List.{List}
use mathlib.Core.Path.{◌≡◌, ap, ◌∙◌}
use native.Mathlib.Omega.{arith}
use lib.ListN.{take, replicate}
use Rattle.lower.specs.LowerBook.{lower_book}
use Rattle.lower.specs.Counters.{counters_after}
use Rattle.lent.specs.Lent.{bytes_for}
use Rattle.lent.proofs.Stepping.{Lowers, step_few, stepped, zeros_for}
use Rattle.lent.proofs.step.lower_step.Goals as goal
use Rattle.lent.proofs.step.lower_step.Goals.{After-front_length-n}

lowers_here :
    (w : After-front_length-n) →
    let a = w.args in
    Lowers a.ctx a.book.now a.results.now a.room w.lower_counted-reply.result w.lower_counted-reply.new.results w.lower_counted-reply.new.diagnostics w.front_length-n.result
lowers_here w =
    let a = w.args in
    let n = w.min.result in
    let zeros : take {A = ℕ} (24 * n) (replicate 6144 0) ≡ bytes_for (min 256 a.room) =
    zeros_for n (omega (arith, w.min.ensures)) ∙ ap bytes_for w.min.ensures in
    record {
      bytes = record { byte = λ i. (w.type_inv.book i).fits };
      lowers = w.lower_counted-reply.ensures.lowered ∙ ap (λ (d : List ℕ). lower_book a.book.now a.results.now d) zeros;
      counters = w.lower_counted-reply.ensures.ctx_value ∙ ap (λ (d : List ℕ). counters_after a.ctx a.book.now a.results.now d) zeros;
      count = w.front_length-n.ensures;
    }

pub structs-requires : goal.structs-requires
structs-requires c = step_few (lowers_here (goal.at.structs-requires c).After-front_length-n)

pub returns : goal.returns
returns c = rw c.from.ensures (stepped (lowers_here (goal.at.returns c).After-front_length-n) _ c.structs.ensures)
