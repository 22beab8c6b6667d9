-- The records of a book that are no part of a tree, by their numbers: what is looked for again and again is noted once.
-- Assumes nothing.
use Rattle.std.specs.Prelude.{ℕ, Bool, false, List, [], ltb, Result, Ok, Err}
use Rattle.record.specs.Kind.{is_declaration_kind, is_item_kind}
use Rattle.record.specs.declared.Record.{Record}
use Rattle.record.specs.declared.kind.Kind.{Kind}
use Rattle.record.specs.declared.kind.UnknownKind.{UnknownKind}
use Rattle.book.specs.Faults.{is_declaration}
use Rattle.book.specs.Outline.{Book, numbers_of}

-- a declaration or an item: no part of a tree of types, expressions or constraints, which have kinds 1 to 16
abbrev pub is_outside : Record → Bool
is_outside r = ltb 16 r.kind

-- the numbers of the declarations, and of the declarations and items, in book order
pub record Noted : Type 0 where
  pub declarations : List ℕ
  pub outside : List ℕ

-- none
abbrev pub nothing_noted : Noted
nothing_noted = record { declarations = []; outside = [] }

-- those of a book
abbrev pub noted_of : Book → Noted
noted_of book = record { declarations = numbers_of is_declaration book; outside = numbers_of is_outside book }

-- the kind is that of a declaration, or of an item
abbrev pub declares : Result Kind UnknownKind → Bool
declares (Ok kind) = is_declaration_kind kind
declares (Err e) = false

abbrev pub is_item : Result Kind UnknownKind → Bool
is_item (Ok kind) = is_item_kind kind
is_item (Err e) = false
