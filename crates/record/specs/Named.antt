-- The result record of a type number.
-- Assumes nothing.
use Rattle.std.specs.Prelude.{ℕ}
use Rattle.record.specs.declared.Record.{Record}

-- "4 with type number in v"; its unused fields and its span are 0
abbrev pub named_record : ℕ → Record
named_record n = record { kind = 4; sub = 0; a = 0; b = 0; c = 0; v = n; span = record { offset = 0; len = 0 } }
