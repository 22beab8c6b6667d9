-- Which kinds stand behind which, as far as the kind of the record before tells: what the code's table holds.
-- Assumes nothing.
use Rattle.std.specs.Prelude.{ℕ, Bool, cond, ◌&&◌, List, [], ◌∷◌, leb, eqb}
use Rattle.book.specs.Lists.{any}

-- a number is one of some
abbrev pub is_one_of : List ℕ → ℕ → Bool
is_one_of l k = any (eqb k) l

-- the kinds behind which kind k may stand; 0 is for no record before
unfoldable pub behind : ℕ → List ℕ
behind k =
    -- a declaration: at the start, and behind every declaration and item
    cond (leb 20 k && leb k 25) (0 ∷ 20 ∷ 21 ∷ 22 ∷ 23 ∷ 24 ∷ 25 ∷ 30 ∷ 31 ∷ 32 ∷ 33 ∷ 34 ∷ 35 ∷ 36 ∷ [])
    -- a field, a tombstone, a variant: behind a message, a union, and what is in them
    (cond (leb 31 k && leb k 33) (20 ∷ 21 ∷ 31 ∷ 32 ∷ 33 ∷ 34 ∷ 35 ∷ 36 ∷ [])
    -- the others: each by a list of its own
    (cond (eqb k 30) (23 ∷ 30 ∷ [])
    (cond (eqb k 34) (20 ∷ 31 ∷ 34 ∷ 35 ∷ [])
    (cond (eqb k 35) (34 ∷ 35 ∷ []) (cond (eqb k 36) (32 ∷ 36 ∷ []) [])))))

-- kind k may stand behind kind b
unfoldable pub follow_of : ℕ → ℕ → Bool
follow_of b k = is_one_of (behind k) b
