-- Which constants lead to which, and rings. Words in quotation marks are rules of docs/FORMAT.md in brief.
-- Assumes nothing.
use Rattle.std.specs.Prelude.{true, ◌≡◌}
use mathlib.Core.List.{List, Memᴰ}
use Rattle.constants.specs.Expr.{refs}
use Rattle.constants.specs.Order.{Constant, has}

-- "A constant leads to the declared constants that kind 11 names in its expression, and to whatever those lead to."
pub data Leads (cs : List Constant) : Constant → Constant → Type 0 where
  names : {c d : Constant} → Memᴰ d cs → has d.name (refs c.expr) ≡ true → Leads cs c d
  further :
      {c d e : Constant} → Memᴰ d cs → has d.name (refs c.expr) ≡ true → Leads cs d e → Leads cs c e

-- "It lies on a ring if it leads to itself"
abbrev pub LiesOnRing : List Constant → Constant → Type 0
LiesOnRing cs c = Leads cs c c

-- "and leads into one if it leads to a constant that lies on one"
abbrev pub LeadsIntoRing : List Constant → Constant → Type 0
LeadsIntoRing cs c = (d : Constant) × Leads cs c d × LiesOnRing cs d
