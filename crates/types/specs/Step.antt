-- Steps of a lowering that know the names so far; the records of a resolved type. Words in quotation marks are rules of
-- docs/FORMAT.md in brief.
-- Assumes nothing.
use Rattle.std.specs.Prelude.{ℕ, List, [], ◌∷◌, Bool, ◌&&◌, eqb}
use Rattle.book.specs.Faults.{is_kind}
use Rattle.record.specs.declared.Record.{Record}
use Rattle.record.specs.declared.Span.{Span}
use Rattle.record.specs.Named.{named_record}
use Rattle.types.specs.Lowering.{Lowering, done, lowering, diagnostic, result, and_then}
use Rattle.types.specs.Resolved.{ResolvedType, primitive, sub_byte, semantic, named, one_child, two_children, inline_bits}
use Rattle.types.specs.Resolved.{Names, POISON}

-- a lowering from the names so far, with the names behind it
abbrev pub Step : Type 0 → Type 0
Step A = Names → Lowering (A × Names)

infixl 20 ◌>>=◌
infixl 20 ◌>>◌
-- one step after the other
abbrev pub ◌>>=◌ : {A B : Type 0} → Step A → (A → Step B) → Step B
◌>>=◌ m f s = and_then (m s) (λ x. f x.0 x.1)

-- the same where the first gives nothing of use
abbrev pub ◌>>◌ : {A B : Type 0} → Step A → Step B → Step B
◌>>◌ m k s = and_then (m s) (λ x. k x.1)

-- an answer, and nothing else
abbrev pub give : {A : Type 0} → A → Step A
give a s = done (a, s)

-- from here on record n is "declaration or item being lowered"
abbrev pub at : ℕ → Step Unit
at n s = lowering n (done (tt, s))

-- one result record; its number
abbrev pub emit : Record → Step ℕ
emit r s = result r (λ n. done (n, s))

-- one diagnostic record: `ctx.emit`
abbrev pub tell : Record → Step Unit
tell r s = diagnostic r (done (tt, s))

-- the names change
abbrev pub change : (Names → Names) → Step Unit
change f s = done (tt, f s)

-- one step for each of some records
unfoldable pub for_each : (ℕ → Step Unit) → List ℕ → Step Unit
for_each f [] = give tt
for_each f (n ∷ ns) = f n >> for_each f ns

-- a record without a span: "the rest have 0, as have unused fields"
abbrev pub bare : ℕ → ℕ → ℕ → ℕ → ℕ → ℕ → Record
bare kind sub a b c v =
    record { kind = kind; sub = sub; a = a; b = b; c = c; v = v; span = record { offset = 0; len = 0 } }

-- the result records of a type, "children first, left before right, never shared"; the number of its root
unfoldable pub emit_type : ResolvedType → Step ℕ
emit_type (primitive p) = emit (bare 1 p 0 0 0 0)
emit_type (sub_byte p bits) = emit (bare 2 p bits 0 0 0)
emit_type (semantic p) = emit (bare 3 p 0 0 0 0)
emit_type (named n) = emit (named_record n)
emit_type (one_child p size t) = emit_type t >>= λ a. emit (bare 7 p a 0 0 size)
emit_type (two_children p l r) = emit_type l >>= λ a. emit_type r >>= λ b. emit (bare 8 p a b 0 0)
emit_type (inline_bits n) = emit (bare 9 0 n 0 0 0)

-- a resolved type, with the number of its root among the results
pub record Resolved : Type 0 where
  pub root : ℕ
  pub type : ResolvedType

-- a type that is known as a whole: all its records at once
unfoldable pub whole : ResolvedType → Step Resolved
whole t = emit_type t >>= λ n. give (record { root = n; type = t })

-- a type over children that have been resolved
unfoldable pub over_one : ℕ → ℕ → Resolved → Step Resolved
over_one p size t =
    emit (bare 7 p t.root 0 0 size) >>= λ n. give (record { root = n; type = one_child p size t.type })

-- the same over two
unfoldable pub over_two : ℕ → Resolved → Resolved → Step Resolved
over_two p l r =
    emit (bare 8 p l.root r.root 0 0)
    >>= λ n. give (record { root = n; type = two_children p l.type r.type })

-- "Diagnostic 50: sub message; a name, in message 2 namespace and b name"
abbrev pub message : ℕ → ℕ → ℕ → ℕ → Span → Record
message m a b class span = record { kind = 50; sub = m; a = a; b = b; c = 0; v = class; span = span }

-- a message, and poison for the type; "v 0 `UnresolvedType`, 1 `AliasTargetNotFound` (message 3)"
unfoldable pub poison : ℕ → ℕ → ℕ → ℕ → Span → Step Resolved
poison m a b class span = tell (message m a b class span) >> whole (named POISON)

-- the record is a 41 marked stored: "41 reached constant (sub 1 stored [..])"
abbrev pub is_stored : Record → Bool
is_stored r = is_kind 41 r && eqb r.sub 1
