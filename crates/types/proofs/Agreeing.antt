-- The code does what the definitions say: the claims of specs/Agrees, one by one.
-- Assumes nothing.
use Rattle.std.proofs.Common.{◌≡◌, refl}
use Rattle.types.specs.Agrees.{RegistersAsDefined, BeginsAsDefined, EmitsAsDefined, TellsAsDefined, PoisonsAsDefined}
use Rattle.types.specs.Agrees.{StubsAsDefined, PairsAsDefined, NamesAsDefined, QualifiedAsDefined, WalksAsDefined}
use Rattle.types.specs.Agrees.{WalksInsideAsDefined, ResolvesAsDefined, AliasesAsDefined}
use Rattle.book.specs.Outline.{◌!◌}
use Rattle.types.specs.Step.{tell}
use Rattle.types.specs.Stands.{Always}
use Rattle.types.specs.Code as code
use Rattle.types.proofs.Refining.{does_map}
use Rattle.types.proofs.Emits.{does_emit_same, does_tell}
use Rattle.types.proofs.Writes.{does_poison}
use Rattle.types.proofs.Resolves.{new_stub, new_pair, a_name, a_pair, resolves, resolves_inside, does_resolve_type}
use Rattle.types.proofs.Begun.{begun, stands_first}
use Rattle.types.proofs.Declared.{plain_distinct}
use Rattle.types.proofs.PlainAliases.{does_aliases}

pub registers_as_defined : RegistersAsDefined
registers_as_defined book read n room low held = begun book read n room low held

pub begins_as_defined : BeginsAsDefined
begins_as_defined lent book t k h = stands_first lent book t k h

pub emits_as_defined : EmitsAsDefined
emits_as_defined book r lent c k s h = does_emit_same lent book c k s h r

pub tells_as_defined : TellsAsDefined
tells_as_defined book r lent c k s h =
    does_map lent book (λ n u k' rs. (k' ≡ k) × (rs ≡ s.results)) Always (code.tell r c) (tell r) k s (λ n u k' rs v. tt)
    (does_tell lent book c k s h r)

pub poisons_as_defined : PoisonsAsDefined
poisons_as_defined book m a b class span lent c k s h = does_poison lent book c k s h m a b class span

pub stubs_as_defined : StubsAsDefined
stubs_as_defined book n lent c k s h inside free = new_stub lent book c k s h n inside free

pub pairs_as_defined : PairsAsDefined
pairs_as_defined book m kind lent c k s h free =
    new_pair lent book c k s h m (book ! m).a (book ! m).b
    (record { kind = kind; space_is = refl; name_is = refl }) free

pub names_as_defined : NamesAsDefined
names_as_defined book m span kind lent c k s h =
    a_name lent book c k s h (book ! m).a span (h.knows.uses_below m kind)

pub qualified_as_defined : QualifiedAsDefined
qualified_as_defined book m span kind lent c k s h =
    a_pair lent book c k s h m (book ! m).a (book ! m).b
    (record { kind = kind; space_is = refl; name_is = refl }) span

pub walks_as_defined : WalksAsDefined
walks_as_defined book left few n span lent c k s h = resolves lent book left few n span c k s h

pub walks_inside_as_defined : WalksInsideAsDefined
walks_inside_as_defined book left few parameter argument n span lent c k s h =
    resolves_inside lent book left few parameter argument n span c k s h

pub resolves_as_defined : ResolvesAsDefined
resolves_as_defined book n lent c k s h = does_resolve_type lent book n c k s h

pub aliases_as_defined : AliasesAsDefined
aliases_as_defined book read lent c k s h none_yet =
    does_aliases lent book c k s h (plain_distinct book read) none_yet
