-- The records of reached constants. Words in quotation marks are rules of docs/FORMAT.md in brief.
-- Assumes nothing.
use Rattle.std.specs.Prelude.{ℕ, suc, List, [], ◌∷◌, map, ℤ}
use Rattle.std.proofs.Math.Option.{Option, some, none}
use Rattle.record.specs.declared.Record.{Record}
use Rattle.arith.specs.Word.{word}
use Rattle.book.specs.Lists.{keep}
use Rattle.book.specs.Faults.{is_kind}
use Rattle.book.specs.Outline.{Book, ◌!◌}
use Rattle.constants.specs.Order.{Settled}
use Rattle.types.specs.Step.{Step, ◌>>=◌, ◌>>◌, give, at, emit, tell, message}
use Rattle.types.specs.Resolve.{resolve_type}

-- "reached without a value gives message 5", which "takes the expression's span"; "v [..] 2 `ConstRefNotFound` (message
-- 5)"
unfoldable pub tell_unless : Option ℤ → Record → Step Unit
tell_unless (some z) r = give tt
tell_unless none r = tell r

-- "41 reached constant (sub 1 stored, a, b type, v value or 0)"
unfoldable pub constant_record : Option ℤ → Record → ℕ → Record
constant_record (some z) r type =
    record { kind = 41; sub = 1; a = r.a; b = type; c = 0; v = word z; span = r.span }
constant_record none r type = record { kind = 41; sub = 0; a = r.a; b = type; c = 0; v = 0; span = r.span }

-- a reached constant: its type, message 5 if it has no value, its 41
unfoldable pub lower_constant : Book → Settled → Step Unit
lower_constant book c =
    let n : ℕ = c.constant.place in
    let r : Record = book ! n in
    do
      at n
      t ← resolve_type book r.b
      tell_unless c.value (message 5 r.a 0 2 (book ! r.c).span)
      emit (constant_record c.value r t.root)
      give tt

-- `evaluate_constants`: the reached ones in their order
unfoldable pub lower_constants : Book → List Settled → Step Unit
lower_constants book [] = give tt
lower_constants book (c ∷ cs) = lower_constant book c >> lower_constants book cs

-- "the counts of [..] stored constants"
unfoldable pub stored_count : List Settled → ℕ
stored_count [] = 0
stored_count (c ∷ cs) = plus c.value (stored_count cs)
  where
    plus : Option ℤ → ℕ → ℕ
    plus none n = n
    plus (some z) n = suc n

-- a 41 as a, sub and v; the 41s among some records
abbrev pub said : Record → ℕ × ℕ × ℕ
said r = (r.a, r.sub, r.v)

unfoldable pub constants_in : List Record → List (ℕ × ℕ × ℕ)
constants_in rs = map said (keep (is_kind 41) rs)

-- what the 41 of a constant says: its name; whether it is stored; its "value or 0"
unfoldable pub constant_of : Settled → ℕ × ℕ × ℕ
constant_of x = elim x.value [ some z ↦ (x.constant.name, 1, word z) | none ↦ (x.constant.name, 0, 0) ]
