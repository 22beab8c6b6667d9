-- What the code's methods do, over its tables and what it has written.
-- Assumes nothing.
use Rattle.std.specs.Prelude.{◌≡◌, ℕ, zero, suc, ◌+◌, ◌-◌, min, Bool, true, false, nat_lt, if◌then◌else◌, Option, Some, None, Result, Ok, Err}
use Rattle.record.specs.declared.kind.Kind.{Kind}
use Rattle.record.specs.declared.kind.Kind.TheVariants.{Primitive, SubByte, Semantic, Named, Qualified, Generic, OverOne, OverTwo, InlineBits, Diagnostic}
use Rattle.record.specs.declared.kind.UnknownKind.{UnknownKind}
use Rattle.record.specs.declared.Record.{Record}
use Rattle.record.specs.declared.Span.{Span}
use Rattle.record.specs.declared.refusal.Refusal.{Refusal}
use Rattle.record.specs.declared.refusal.Cause.{Cause}
use Rattle.record.specs.declared.refusal.Cause.TheVariants.{Full}
use Rattle.record.specs.declared.write.Full.{Full as NoRoom}
use Rattle.record.specs.declared.type_id.TypeId.{TypeId}
use Rattle.record.specs.Kind.{kind_from}
use Rattle.record.specs.Made.{bare_record}
use Rattle.record.specs.Named.{named_record}
use Rattle.record.specs.Written.{Written, shown, pushed, number_given, read_at}
use Rattle.book.specs.Outline.{Book, ◌!◌}
use Rattle.types.specs.declared.names.Place.{Place}
use Rattle.types.specs.declared.names.Generic as generics
use Rattle.types.specs.declared.lowering.Lowering.{Lowering}
use Rattle.types.specs.declared.lowering.TypeExpr.{TypeExpr}
use Rattle.types.specs.declared.lowering.TypeExpr.TheVariants.{Plain, Name, One, Two}
use Rattle.types.specs.declared.lowering.TypeExpr.TheVariants as types
use Rattle.types.specs.declared.lowering.Found.{Found}
use Rattle.types.specs.declared.lowering.Found.TheVariants.{Alias, Known, Stub, Unresolved}
use Rattle.types.specs.declared.lowering.Head.{Head}
use Rattle.types.specs.declared.lowering.Head.TheVariants as head
use Rattle.types.specs.declared.diagnostic.Message.TheVariants as messages
use Rattle.types.specs.Messages.{message_number, message_class, class_number}
use Rattle.types.specs.Tables.{Tables, tables, number_in, alias_in, is_marked, pair_in, generic_in, stubbed, paired}

pub record State : Type 0 where
  pub book : Book
  pub names : Tables
  pub results : Written
  pub diagnostics : Written
  -- the declaration or item being lowered
  pub place : ℕ

abbrev pub state_of : (N P : ℕ) → Lowering N P → State
state_of N P l =
    record {
      book = l.book.now;
      names = tables N P l.names.now;
      results = shown l.results.now l.written;
      diagnostics = shown l.diagnostics.now l.told;
      place = l.place;
    }

-- an answer or a refusal, and the state behind it
pub record Outcome (A : Type 0) : Type 0 where
  pub answer : Result A Refusal
  pub state : State

abbrev pub done : {A : Type 0} → A → State → Outcome A
done a s = record { answer = Ok a; state = s }

abbrev pub refuse : {A : Type 0} → Cause → State → Outcome A
refuse c s = record { answer = Err (record { cause = c; place = s.place }); state = s }

-- what a method answers and leaves behind is what this step does, and what it lends from stays the same
abbrev pub Steps : {A : Type 0} → (N P : ℕ) → Lowering N P → Lowering N P → Result A Refusal → (State → Outcome A) → Type 0
Steps N P old new result step =
    (result ≡ (step (state_of N P old)).answer)
    × (state_of N P new ≡ (step (state_of N P old)).state)
    × (new.names.ghost_name ≡ old.names.ghost_name)
    × (new.results.ghost_name ≡ old.results.ghost_name)
    × (new.diagnostics.ghost_name ≡ old.diagnostics.ghost_name)

-- one step after another
abbrev pub after : {A B : Type 0} → Result A Refusal → State → (A → State → Outcome B) → Outcome B
after (Ok a) s f = f a s
after (Err e) s f = record { answer = Err e; state = s }

abbrev pub next : {A B : Type 0} → Outcome A → (A → State → Outcome B) → Outcome B
next o f = after o.answer o.state f

-- no room is cause 10
abbrev pub or_full : ℕ → Result ℕ NoRoom → Result ℕ Refusal
or_full place (Ok n) = Ok n
or_full place (Err e) = Err (record { cause = Full; place = place })

-- one more result; its number
unfoldable pub emit : Record → State → Outcome ℕ
emit r s =
    record {
      answer = or_full s.place (number_given s.results);
      state = record s { results = pushed s.results r };
    }

-- one more diagnostic
unfoldable pub tell : Record → State → Outcome ℕ
tell r s =
    record {
      answer = or_full s.place (number_given s.diagnostics);
      state = record s { diagnostics = pushed s.diagnostics r };
    }

abbrev pub message : ℕ → ℕ → ℕ → ℕ → Span → Record
message m a b class span = record (bare_record Diagnostic m a b class) { span = span }

-- the type that a record is, by its kind
abbrev pub type_expr : Record → Result Kind UnknownKind → TypeExpr
type_expr r (Ok Primitive) = Plain Primitive r.sub 0
type_expr r (Ok SubByte) = Plain SubByte r.sub r.a
type_expr r (Ok Semantic) = Plain Semantic r.sub 0
type_expr r (Ok Named) = Name r.a
type_expr r (Ok Qualified) = types.Qualified r.a r.b
type_expr r (Ok Generic) = types.Generic r.a r.b
type_expr r (Ok OverOne) = One r.sub r.v r.a
type_expr r (Ok OverTwo) = Two r.sub r.a r.b
type_expr r kind = Plain InlineBits 0 r.a

-- the type at record n
abbrev pub type_at : Book → ℕ → TypeExpr
type_at book n = type_expr (book ! n) (kind_from (book ! n).kind)

-- a message, and poison for the type
unfoldable pub poison : ℕ → ℕ → ℕ → ℕ → Span → State → Outcome ℕ
poison m a b class span s = next (tell (message m a b class span) s) (λ n t. emit (named_record 4294967295) t)

-- a record of a type, so much further on: its references move along
abbrev pub shifted : ℕ → Record → Result Kind UnknownKind → Record
shifted by r (Ok OverOne) = record r { a = min (r.a + by) 65535 }
shifted by r (Ok OverTwo) = record r { a = min (r.a + by) 65535; b = min (r.b + by) 65535 }
shifted by r kind = r

abbrev pub copied : ℕ → Option Record → State → Outcome ℕ
copied by (Some r) s = emit (shifted by r (kind_from r.kind)) s
copied by None s = refuse Full s

unfoldable pub copy_one : ℕ → ℕ → State → Outcome ℕ
copy_one at by s = copied by (read_at s.results at) s

-- so many records from a place on, and then what follows
unfoldable pub copy_all : ℕ → ℕ → ℕ → State → (State → Outcome ℕ) → Outcome ℕ
copy_all zero at by s f = f s
copy_all (suc k) at by s f = next (copy_one at by s) (λ n t. copy_all k (at + 1) by t f)

-- the type that stands at a place, once more
unfoldable pub copy_type : Place → State → Outcome ℕ
copy_type place s =
    let by = s.results.count - place.first in
    copy_all (place.root - place.first) place.first by s (λ t. copy_one place.root by t)

-- the number that a result record is
abbrev pub number_at : Option Record → Option ℕ
number_at None = None
number_at (Some r) = number_of_kind r (kind_from r.kind)
  where
    number_of_kind : Record → Result Kind UnknownKind → Option ℕ
    number_of_kind r (Ok Named) = Some r.v
    number_of_kind r kind = None

abbrev pub alias_number : Option Place → State → Option ℕ
alias_number None s = None
alias_number (Some place) s = number_at (read_at s.results place.root)

abbrev pub or_alias : Option TypeId → ℕ → State → Option ℕ
or_alias (Some n) name s = Some n.0
or_alias None name s = alias_number (alias_in s.names name) s

-- the number of a name: its own, or that of a plain alias to one
abbrev pub look_up : ℕ → State → Option ℕ
look_up name s = or_alias (number_in s.names name) name s

abbrev pub unknown : Option TypeId → Bool → Found
unknown (Some n) wildcards = Known n
unknown None true = Stub
unknown None false = Unresolved messages.Unresolved

abbrev pub unless_ambiguous : Bool → Option TypeId → Bool → Found
unless_ambiguous true own wildcards = Unresolved messages.Ambiguous
unless_ambiguous false own wildcards = unknown own wildcards

abbrev pub by_own : Option TypeId → ℕ → State → Found
by_own (Some n) name s =
    if nat_lt n.0 s.names.types then Known n
    else unless_ambiguous (is_marked s.names name) (Some n) s.book.wildcards
by_own None name s = unless_ambiguous (is_marked s.names name) None s.book.wildcards

abbrev pub by_alias : Option Place → ℕ → State → Found
by_alias (Some place) name s = Alias place
by_alias None name s = by_own (number_in s.names name) name s

-- what a name is found to be
abbrev pub find_name : ℕ → State → Found
find_name name s = by_alias (alias_in s.names name) name s

abbrev pub head_by_alias : Option generics.Generic → Head
head_by_alias None = head.NoAlias
head_by_alias (Some g) = head.Alias g

abbrev pub head_by_number : Option ℕ → State → Head
head_by_number None s = head.NoNumber
head_by_number (Some n) s = head_by_alias (generic_in s.names n)

-- what the head of a generic is found to be
abbrev pub find_head : ℕ → State → Head
find_head name s = head_by_number (look_up name s) s

-- a stub for a name
unfoldable pub add_stub : ℕ → State → Outcome ℕ
add_stub name s =
    next (emit (named_record s.names.next) s) (λ n t. done n (record t { names = stubbed t.names name }))

-- a stub for a qualified name
unfoldable pub add_pair : ℕ → ℕ → State → Outcome ℕ
add_pair space name s =
    next (emit (named_record s.names.next) s) (λ n t. done n (record t { names = paired t.names space name }))

abbrev pub by_found : ℕ → Span → Found → State → Outcome ℕ
by_found name span (Alias place) s = copy_type place s
by_found name span (Known n) s = emit (named_record n.0) s
by_found name span Stub s = add_stub name s
by_found name span (Unresolved m) s = poison (message_number m) name 0 (class_number (message_class m)) span s

-- the type that a name is
unfoldable pub resolve_name : ℕ → Span → State → Outcome ℕ
resolve_name name span s = by_found name span (find_name name s) s

abbrev pub by_space : Option ℕ → ℕ → ℕ → Span → State → Outcome ℕ
by_space (Some n) space name span s = add_pair space name s
by_space None space name span s = poison 2 space name 0 span s

abbrev pub by_pair : Option TypeId → ℕ → ℕ → Span → State → Outcome ℕ
by_pair (Some n) space name span s = emit (named_record n.0) s
by_pair None space name span s = by_space (look_up space s) space name span s

-- the type that a qualified name is
unfoldable pub resolve_qualified : ℕ → ℕ → Span → State → Outcome ℕ
resolve_qualified space name span s = by_pair (pair_in s.names space name) space name span s
