-- What is claimed of two lists of constants of which one has the other's: added constants, another order, constants
-- taken away; and of rings. For either way, and any table of values beforehand that a claim allows. The proofs are in
-- proofs/Changes.antt.
-- Assumes nothing.
use Rattle.std.specs.Prelude.{ℕ, true, false, ◌↔◌, ◌⊎◌, ◌≡◌, ℤ}
use mathlib.Core.List.{List, Memᴰ}
use Rattle.std.proofs.Math.Option.{Option, some, none}
use Rattle.constants.specs.Eval.{Table}
use Rattle.constants.specs.Order.{Constant, Way, Reached, declares}
use Rattle.constants.specs.Leads.{Leads, LiesOnRing, LeadsIntoRing}
use Rattle.constants.specs.Theory.{Distinct, IsFinal, SettlesAs, Settles, Stores}

-- a list declares every constant of another with the same expression, wherever the two stand
abbrev pub DeclaresAll : List Constant → List Constant → Type 0
DeclaresAll ds cs =
    (c : Constant) → Memᴰ c cs → (d : Constant) × Memᴰ d ds × (d.name ≡ c.name) × (d.expr ≡ c.expr)

-- no constant has a value beforehand
abbrev pub NoneBefore : Table → List Constant → Type 0
NoneBefore t cs = (c : Constant) → Memᴰ c cs → t c.name ≡ none

-- c rests on no value from beforehand that a constant without one of its own keeps
abbrev pub RestsOnNoneKept : Way → Table → List Constant → Constant → Type 0
RestsOnNoneKept w t cs c = (d : Constant) → Leads cs c d → SettlesAs w t cs d none → t d.name ≡ none

-- Rings: nothing on one or leading into one is reached; so nothing there is stored, whatever the table has
abbrev pub RingsAreUnreached : Type 0
RingsAreUnreached =
    (w : Way) (cs : List Constant) (c : Constant) → Reached w cs c → LiesOnRing cs c ⊎ LeadsIntoRing cs c → ⊥

abbrev pub NothingOnRings : Type 0
NothingOnRings =
    (w : Way) (t : Table) (cs : List Constant) → Distinct cs →
    (c : Constant) (z : ℤ) → SettlesAs w t cs c (some z) → LiesOnRing cs c ⊎ LeadsIntoRing cs c → ⊥

-- Extension: a stored constant is stored with the same value, if the names that are added have no value beforehand and
-- it rests on none that is kept
abbrev pub Extension : Type 0
Extension =
    (w : Way) (t : Table) (cs ds : List Constant) → Distinct cs → Distinct ds → DeclaresAll ds cs →
    ((d : Constant) → Memᴰ d ds → declares cs d.name ≡ false → t d.name ≡ none) →
    (c : Constant) (z : ℤ) → SettlesAs w t cs c (some z) → RestsOnNoneKept w t cs c → Stores w t ds c.name z

-- all that such a constant leads to is stored
abbrev pub RestsOnStored : Type 0
RestsOnStored =
    (w : Way) (t : Table) (cs : List Constant) → Distinct cs →
    (c : Constant) (z : ℤ) → SettlesAs w t cs c (some z) → RestsOnNoneKept w t cs c →
    (d : Constant) → Leads cs c d → (y : ℤ) × SettlesAs w t cs d (some y)

-- where no constant has a value beforehand every stored constant is kept
abbrev pub ExtensionKeeps : Type 0
ExtensionKeeps =
    (w : Way) (t : Table) (cs ds : List Constant) → Distinct cs → Distinct ds → DeclaresAll ds cs → NoneBefore t ds →
    (n : ℕ) (z : ℤ) → Stores w t cs n z → Stores w t ds n z

-- Another order, over any table: the same names are reached, with the same values or none, and the final table is the
-- same
abbrev pub Reordering : Type 0
Reordering =
    (w : Way) (t : Table) (cs ds : List Constant) → Distinct cs → Distinct ds → DeclaresAll ds cs → DeclaresAll cs ds →
    (n : ℕ) (o : Option ℤ) → Settles w t cs n o ↔ Settles w t ds n o

abbrev pub ReorderingLeavesTable : Type 0
ReorderingLeavesTable =
    (w : Way) (t : Table) (cs ds : List Constant) → Distinct cs → Distinct ds → DeclaresAll ds cs → DeclaresAll cs ds →
    (one other : Table) → IsFinal w t cs one → IsFinal w t ds other → (n : ℕ) → one n ≡ other n

-- Removal, of the names that cs declares and ds does not. Over any table: what is left and avoids them is reached
-- alike, with the same value or none
abbrev pub RemovalKeeps : Type 0
RemovalKeeps =
    (w : Way) (t : Table) (cs ds : List Constant) → Distinct cs → Distinct ds → DeclaresAll cs ds →
    (c : Constant) → Memᴰ c cs →
    declares ds c.name ≡ true → ((d : Constant) → Leads cs c d → declares ds d.name ≡ true) →
    (o : Option ℤ) → Settles w t cs c.name o ↔ Settles w t ds c.name o

-- where no constant has a value beforehand: what leads to one of them has none left
abbrev pub RemovalLoses : Type 0
RemovalLoses =
    (w : Way) (t : Table) (cs ds : List Constant) → Distinct cs → Distinct ds → DeclaresAll cs ds → NoneBefore t cs →
    (c d : Constant) → Memᴰ c cs → Leads cs c d → declares ds d.name ≡ false →
    (z : ℤ) → Stores w t ds c.name z → ⊥

-- and nothing has a value that it had not
abbrev pub RemovalAddsNone : Type 0
RemovalAddsNone =
    (w : Way) (t : Table) (cs ds : List Constant) → Distinct cs → Distinct ds → DeclaresAll cs ds → NoneBefore t cs →
    (n : ℕ) (z : ℤ) → Stores w t ds n z → Stores w t cs n z
