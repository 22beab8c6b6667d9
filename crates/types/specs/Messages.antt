-- The messages of a lowering and their classes, by their numbers. Words in quotation marks are rules of docs/FORMAT.md
-- in brief.
-- Assumes nothing.
use Rattle.std.specs.Prelude.{ℕ, zero, suc}
use Rattle.types.specs.declared.diagnostic.ErrorClass.{ErrorClass}
use Rattle.types.specs.declared.diagnostic.ErrorClass.TheVariants.{UnresolvedType, AliasTargetNotFound, ConstRefNotFound}
use Rattle.types.specs.declared.diagnostic.Message.{Message}
use Rattle.types.specs.declared.diagnostic.Message.TheVariants.{Ambiguous, Unresolved, UnresolvedNamespace, NotGeneric, UnresolvedHead, NoValue}

abbrev pub message_number : Message → ℕ
message_number Ambiguous = 0
message_number Unresolved = 1
message_number UnresolvedNamespace = 2
message_number NotGeneric = 3
message_number UnresolvedHead = 4
message_number NoValue = 5

abbrev pub message_class : Message → ErrorClass
message_class NotGeneric = AliasTargetNotFound
message_class NoValue = ConstRefNotFound
message_class m = UnresolvedType

-- "v 0 `UnresolvedType`, 1 `AliasTargetNotFound` (message 3), 2 `ConstRefNotFound` (message 5)"
abbrev pub class_number : ErrorClass → ℕ
class_number UnresolvedType = 0
class_number AliasTargetNotFound = 1
class_number ConstRefNotFound = 2

-- and the class by its number; no diagnostic has one above 2
abbrev pub class_of : ℕ → ErrorClass
class_of zero = UnresolvedType
class_of (suc zero) = AliasTargetNotFound
class_of (suc (suc n)) = ConstRefNotFound
