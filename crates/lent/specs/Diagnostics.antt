-- A diagnostic as a struct: which one a record is, and the record that a struct stands for. Words in quotation marks
-- are rules of docs/FORMAT.md in brief.
-- Assumes nothing.
use Rattle.std.specs.Prelude.{ℕ}
use mathlib.Core.List.{List, flat_map, map}
use Rattle.record.specs.declared.Record.{Record}
use Rattle.record.specs.Layout.{encode_record}
use Rattle.types.specs.declared.diagnostic.ErrorClass.TheVariants.{UnresolvedType}
use Rattle.types.specs.Messages.{class_number, class_of}
use Rattle.lent.specs.declared.Diagnostic.{Diagnostic}

-- "Diagnostic 50: sub message; a name, in message 2 namespace and b name; v" its class
unfoldable pub diagnostic_of : Record → Diagnostic
diagnostic_of r =
    record {
      kind = r.kind;
      message = r.sub;
      name = r.a;
      member = r.b;
      class = class_of r.v;
      span = r.span;
    }

-- the record that a struct stands for; unused fields are 0
unfoldable pub record_of : Diagnostic → Record
record_of d =
    record {
      kind = d.kind;
      sub = d.message;
      a = d.name;
      b = d.member;
      c = 0;
      v = class_number d.class;
      span = d.span;
    }

-- structs as bytes, 24 for each
unfoldable pub encoded : List Diagnostic → List ℕ
encoded ds = flat_map encode_record (map record_of ds)

-- the zero one, which is none
abbrev pub no_diagnostic : Diagnostic
no_diagnostic =
    record {
      kind = 0;
      message = 0;
      name = 0;
      member = 0;
      class = UnresolvedType;
      span = record { offset = 0; len = 0 };
    }
