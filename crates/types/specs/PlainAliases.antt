-- What the code does with plain aliases.
-- Assumes nothing.
use Rattle.std.specs.Prelude.{ℕ, Bool, true, false, List, [], ◌∷◌}
use Rattle.record.specs.declared.kind.Kind.TheVariants.{LoweredAlias}
use Rattle.record.specs.declared.Record.{Record}
use Rattle.record.specs.Kind.{kind_from}
use Rattle.record.specs.Made.{bare_record}
use Rattle.book.specs.Outline.{Book, ◌!◌}
use Rattle.types.specs.Tables.{aliased}
use Rattle.types.specs.Code.{State, Outcome, done, next, emit}
use Rattle.types.specs.Walk.{walked}
use Rattle.types.specs.Registry.{is_plain, parameter_behind}

-- from here on record n is being lowered
abbrev pub placed : ℕ → State → State
placed n s = record s { place = n }

-- the result record of a plain alias, over the root of its type
abbrev pub lowered_alias : Record → ℕ → Record
lowered_alias r root = record (bare_record LoweredAlias 0 r.a root 0) { span = r.span }

-- the type of a plain alias stands from `first` on, and its name is known by it
abbrev pub with_alias : Record → ℕ → ℕ → State → State
with_alias r first root s = record s { names = aliased s.names r.a (record { first = first; root = root }) }

-- what is done when its type is resolved
abbrev pub finish_alias : Record → ℕ → ℕ → State → Outcome (Unit {0})
finish_alias r first root s = next (emit (lowered_alias r root) s) (λ _ t. done tt (with_alias r first root t))

-- the plain alias at record n
unfoldable pub lower_alias : ℕ → State → Outcome (Unit {0})
lower_alias n s =
    next (walked (s.book ! n).b (placed n s)) (λ root t. finish_alias (s.book ! n) s.results.count root t)

abbrev pub is_plain_alias : Book → ℕ → Bool
is_plain_alias book n = is_plain (kind_from (book ! n).kind) (parameter_behind book n)

-- a declaration, if it is a plain alias
abbrev pub if_alias : Bool → ℕ → State → Outcome (Unit {0})
if_alias true n s = lower_alias n s
if_alias false n s = done tt s

-- the plain aliases among some declarations, one after the other
unfoldable pub lower_aliases : List ℕ → State → Outcome (Unit {0})
lower_aliases [] s = done tt s
lower_aliases (n ∷ ns) s = next (if_alias (is_plain_alias s.book n) n s) (λ _ t. lower_aliases ns t)
