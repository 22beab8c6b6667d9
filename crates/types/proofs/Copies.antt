-- One step of copying a type.
-- Assumes nothing.
use Rattle.std.proofs.Common.{◌≡◌, ℕ, suc, ◌+◌, ◌-◌, ◌<◌, ◌≤◌, refl, arith}
use Rattle.types.specs.Code.{State, Outcome, next, copy_one, copy_all}

copy_suc : (k m at by : ℕ) (s : State) (f : State → Outcome ℕ) → m ≡ suc k → copy_all m at by s f ≡ next (copy_one at by s) (λ n t. copy_all k (at + 1) by t f)
unfolding copy_all
copy_suc k m at by s f h = rw h refl

pub copy-more : (end at by : ℕ) (s : State) (f : State → Outcome ℕ) → at < end
    → copy_all (end - at) at by s f ≡ next (copy_one at by s) (λ n t. copy_all (end - (at + 1)) (at + 1) by t f)
copy-more end at by s f h = copy_suc (end - (at + 1)) (end - at) at by s f (omega arith)

pub copy-done : (end at by : ℕ) (s : State) (f : State → Outcome ℕ) → end ≤ at → copy_all (end - at) at by s f ≡ f s
unfolding copy_all
copy-done end at by s f h = let e : end - at ≡ 0 = omega arith in rw e refl

pub ruleset copies = (copy-more, copy-done)
