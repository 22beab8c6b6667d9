-- Records as they are made, by their kind.
-- Assumes nothing.
use Rattle.std.specs.Prelude.{ℕ}
use Rattle.record.specs.Kind.{code_of}
use Rattle.record.specs.declared.Record.{Record}
use Rattle.record.specs.declared.kind.Kind.{Kind}

-- a record with this first byte and these fields; c and the span are 0
abbrev pub bare_record_by_code : ℕ → ℕ → ℕ → ℕ → ℕ → Record
bare_record_by_code code sub a b v =
    record { kind = code; sub = sub; a = a; b = b; c = 0; v = v; span = record { offset = 0; len = 0 } }

-- a record of a kind
abbrev pub bare_record : Kind → ℕ → ℕ → ℕ → ℕ → Record
bare_record kind = bare_record_by_code (code_of kind)
