-- What the tables of the evaluation hold: names that were looked at. Constants by number.
-- Assumes nothing.
use Rattle.std.specs.Prelude.{ℕ, ◌≤◌, ◌<◌, Bool, true, false, ◌||◌, List, [], ◌++◌, ◌≡◌, eqb, length, get_or}
use Rattle.book.specs.Lists.{keep}
use Rattle.constants.specs.Expr.{Expr, expr_at, refs}
use Rattle.constants.specs.Order.{Constant, has, repeats}

-- the names that are marked, among those that an expression names
abbrev pub marked : List Bool → Expr → List ℕ
marked marks e = keep (λ n. get_or marks n false) (refs e)

-- seen: the names that are among `ns` carry the stamp, of those that have a place, and no name a later one
pub record Seen (stamp : ℕ) (ns : List ℕ) (seen : List ℕ) : Type 0 where
  pub marks : (n : ℕ) → n < length seen → eqb (get_or seen n 0) stamp ≡ has n ns
  pub latest : (n : ℕ) → get_or seen n 0 ≤ stamp

-- names `new` are looked at, behind those in `ns`: whether one comes again, and what is seen then
pub record Looked (stamp : ℕ) (new ns : List ℕ) (again : Bool) (seen : List ℕ) : Type 0 where
  pub again_is : repeats (new ++ ns) ≡ again || repeats ns
  pub seen_is : Seen stamp (new ++ ns) seen

-- an expression names n
abbrev pub Names : Expr → ℕ → Type 0
Names e n = has n (refs e) ≡ true

-- constant i of a list
unfoldable pub constant_in : List Constant → ℕ → Constant
constant_in cs i = get_or cs i (record { place = 0; name = 0; expr = expr_at 0 [] 0 })
