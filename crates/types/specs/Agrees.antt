-- What the code does is what the definitions say, from every state of the code that stands for names and a state of a
-- lowering. The proofs are in proofs/Agreeing.antt.
-- Assumes nothing.
use Rattle.std.specs.Prelude.{◌≡◌, ℕ, ◌≤◌, ◌<◌, true, [], length}
use Rattle.std.proofs.Math.Option.{none}
use mathlib.Core.List.{Memᴰ}
use Rattle.record.specs.declared.Record.{Record}
use Rattle.record.specs.declared.Span.{Span}
use Rattle.book.specs.Accepted.{IsRead}
use Rattle.book.specs.Faults.{is_kind, is_declaration}
use Rattle.book.specs.Outline.{Book, ◌!◌, numbers_of}
use Rattle.types.specs.Lowering.{State, start}
use Rattle.types.specs.Resolved.{Names, named, own_number, pair_number, alias_of, with_stub, with_pair}
use Rattle.types.specs.Step.{Step, Resolved, emit, tell, whole, poison, for_each}
use Rattle.types.specs.Numbers.{register_declarations, plain_aliases}
use Rattle.types.specs.Resolve.{resolve_name, resolve_qualified, resolve_type}
use Rattle.types.specs.Resolve.{resolve_type_expr, resolve_type_expr_with_substitution}
use Rattle.types.specs.Alias.{lower_alias}
use Rattle.types.specs.Below.{names_below}
use Rattle.types.specs.Tables.{Tables}
use Rattle.types.specs.Registry.{nothing_known, registered}
use Rattle.types.specs.Begun.{begun}
use Rattle.types.specs.Code as code
use Rattle.types.specs.Walk as walk
use Rattle.types.specs.PlainAliases.{lower_aliases}
use Rattle.types.specs.Stands.{Lent, Knows, Stands, Does, Refines, Always, SameNumber, Resolves}

-- registering: in tables with an entry for each name of a book that is read, and room for as many generic aliases and
-- pairs as it has records, the code knows of names what the definitions begin with
abbrev pub RegistersAsDefined : Type 0
RegistersAsDefined =
    (book : Book) → IsRead book → (n room : ℕ) → names_below n book.records ≡ true → length book.records ≤ room →
    Knows book (registered book (numbers_of is_declaration book) (nothing_known n room)) (register_declarations book) []

-- a lowering with tables that know so begins where one of the definitions does
abbrev pub BeginsAsDefined : Type 0
BeginsAsDefined =
    (lent : Lent) (book : Book) (t : Tables) (k : Names) → Knows book t k [] →
    Stands lent book (begun book t lent.results lent.diagnostics) k start

-- one more result, under its number
abbrev pub EmitsAsDefined : Type 0
EmitsAsDefined = (book : Book) (r : Record) → Refines book SameNumber (λ c. code.emit r c) (emit r)

-- one more diagnostic
abbrev pub TellsAsDefined : Type 0
TellsAsDefined = (book : Book) (r : Record) → Refines book Always (λ c. code.tell r c) (tell r)

-- a step of the code resolves a type as a step of the definitions does, wherever it begins
abbrev pub ResolvesAs : Book → (code.State → code.Outcome ℕ) → Step Resolved → Type 0
ResolvesAs book f m =
    (lent : Lent) (c : code.State) (k : Names) (s : State) → Stands lent book c k s → Resolves lent book (f c) m k s

-- a message, and poison for the type
abbrev pub PoisonsAsDefined : Type 0
PoisonsAsDefined =
    (book : Book) (m a b class : ℕ) (span : Span) →
    ResolvesAs book (λ c. code.poison m a b class span c) (poison m a b class span)

-- a stub for a name that has no number
abbrev pub StubsAsDefined : Type 0
StubsAsDefined =
    (book : Book) (n : ℕ) (lent : Lent) (c : code.State) (k : Names) (s : State) → Stands lent book c k s →
    n < c.names.bound → own_number k n ≡ none →
    Resolves lent book (code.add_stub n c) (λ k. whole (named k.next) (with_stub n k)) k s

-- a stub for the qualified name at record m, if it has no number
abbrev pub PairsAsDefined : Type 0
PairsAsDefined =
    (book : Book) (m : ℕ) → is_kind 5 (book ! m) ≡ true →
    (lent : Lent) (c : code.State) (k : Names) (s : State) → Stands lent book c k s →
    pair_number k (book ! m).a (book ! m).b ≡ none →
    Resolves lent book (code.add_pair (book ! m).a (book ! m).b c)
    (λ k. whole (named k.next) (with_pair (book ! m).a (book ! m).b k)) k s

-- the type that the name at record m is
abbrev pub NamesAsDefined : Type 0
NamesAsDefined =
    (book : Book) (m : ℕ) (span : Span) → is_kind 4 (book ! m) ≡ true →
    ResolvesAs book (λ c. code.resolve_name (book ! m).a span c) (resolve_name book (book ! m).a span)

-- the type that the qualified name at record m is
abbrev pub QualifiedAsDefined : Type 0
QualifiedAsDefined =
    (book : Book) (m : ℕ) (span : Span) → is_kind 5 (book ! m) ≡ true →
    ResolvesAs book (λ c. code.resolve_qualified (book ! m).a (book ! m).b span c)
    (resolve_qualified (book ! m).a (book ! m).b span)

-- the first resolver, with so many steps left
abbrev pub WalksAsDefined : Type 0
WalksAsDefined =
    (book : Book) (left : ℕ) → left ≤ 64 → (n : ℕ) (span : Span) →
    ResolvesAs book (λ c. walk.resolve left n span c) (resolve_type_expr left book n span)

-- and the second, inside a generic's target
abbrev pub WalksInsideAsDefined : Type 0
WalksInsideAsDefined =
    (book : Book) (left : ℕ) → left ≤ 64 → (parameter argument n : ℕ) (span : Span) →
    ResolvesAs book (λ c. walk.resolve_inside left parameter argument n span c)
    (resolve_type_expr_with_substitution left book (record { parameter = parameter; argument = argument }) n span)

-- the type of a declaration or an item
abbrev pub ResolvesAsDefined : Type 0
ResolvesAsDefined = (book : Book) (n : ℕ) → ResolvesAs book (λ c. walk.walked n c) (resolve_type book n)

-- the plain aliases of a book that is read, none of them being lowered yet
abbrev pub AliasesAsDefined : Type 0
AliasesAsDefined =
    (book : Book) → IsRead book → (lent : Lent) (c : code.State) (k : Names) (s : State) → Stands lent book c k s →
    ((n : ℕ) → Memᴰ n (plain_aliases book) → alias_of k (book ! n).a ≡ none) →
    Does {A = Unit {0}} {B = Unit {0}} lent book Always (lower_aliases (numbers_of is_declaration book) c)
    (for_each (lower_alias book) (plain_aliases book)) k s
