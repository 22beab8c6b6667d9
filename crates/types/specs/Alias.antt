-- Plain aliases: `lower_alias` of the original. Words in quotation marks are rules of docs/FORMAT.md in brief.
-- Assumes nothing.
use Rattle.std.specs.Prelude.{ℕ}
use Rattle.record.specs.declared.Record.{Record}
use Rattle.book.specs.Outline.{Book, ◌!◌}
use Rattle.types.specs.Resolved.{with_alias}
use Rattle.types.specs.Step.{Step, ◌>>=◌, ◌>>◌, at, emit, change}
use Rattle.types.specs.Resolve.{resolve_type}

-- "40 plain alias (a, b type)"; 40 keeps the book's span. The alias is there for names from here on.
unfoldable pub lower_alias : Book → ℕ → Step Unit
lower_alias book n =
    let r : Record = book ! n in
    do
      at n
      t ← resolve_type book r.b
      emit (record { kind = 40; sub = 0; a = r.a; b = t.root; c = 0; v = 0; span = r.span })
      change (with_alias r.a t.type)
