-- How the code looks for a name that is not below a number.
-- Assumes nothing.
use Rattle.std.specs.Prelude.{ℕ, Bool, true, false, ◌&&◌, nat_le, Result, Ok}
use Rattle.std.specs.List.{range_with_len, list_any}
use Rattle.record.specs.declared.kind.Kind.{Kind}
use Rattle.record.specs.declared.kind.Kind.TheVariants.{Named, Message, Union, Newtype, Alias, Constant, Ambiguous}
use Rattle.record.specs.declared.kind.UnknownKind.{UnknownKind}
use Rattle.record.specs.Kind.{kind_from}
use Rattle.book.specs.Outline.{Book, ◌!◌}

-- a kind whose name has an entry in the tables by name
abbrev pub has_entry : Result Kind UnknownKind → Bool
has_entry (Ok Named) = true
has_entry (Ok Message) = true
has_entry (Ok Union) = true
has_entry (Ok Newtype) = true
has_entry (Ok Alias) = true
has_entry (Ok Constant) = true
has_entry (Ok Ambiguous) = true
has_entry kind = false

-- record m has such a name, and it is not below n
unfoldable pub is_over : ℕ → Book → ℕ → Bool
is_over n book m = has_entry (kind_from (book ! m).kind) && nat_le n (book ! m).a

-- one of the first records has
abbrev pub any_over : ℕ → Book → ℕ → Bool
any_over n book count = list_any (λ m. is_over n book m) (range_with_len 0 count)
