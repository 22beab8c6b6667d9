-- What `lower_lent` promises, from what its two callees ensure.
-- Assumes nothing.
use mathlib.Core.Path.{◌≡◌, ap, ◌∙◌}
use mathlib.Core.List.{List, ◌++◌}
use Prim.Native.Nat.{ℕ}
use lib.ListN.{length, take, drop}
use Rattle.types.specs.declared.LowerCtx.{LowerCtx}
use Rattle.lent.specs.declared.Diagnostic.{Diagnostic}
use Rattle.lent.specs.declared.step.Step.{Step}
use Rattle.lent.specs.Lent.{LoweredLent, lower_lent, Stepped, front_of}

-- what the step ensures for a list of the lent list's length, and what the append ensures, are the whole's promise
pub lent_of :
    (ctx : LowerCtx) (book results : List ℕ) (diagnostics : List Diagnostic) (x : Step) (results' : List ℕ) (diagnostics' : List Diagnostic) →
    Stepped ctx book results (length diagnostics) x results' →
    diagnostics' ≡ take x.count x.told ++ drop (length (take x.count x.told)) diagnostics →
    LoweredLent ctx book results diagnostics x.reply x.ctx results' diagnostics'
unfolding lower_lent
lent_of ctx book results diagnostics x results' diagnostics' s e =
    let d : diagnostics' ≡ front_of book results (length diagnostics) ++ drop (length (front_of book results (length diagnostics))) diagnostics =
    e ∙ ap (λ (l : List Diagnostic). l ++ drop (length l) diagnostics) s.front_is in
    λ i. record { reply = s.reply_is i; ctx = s.ctx_is i; results = s.results_are i; diagnostics = d i }
