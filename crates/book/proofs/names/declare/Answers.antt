-- `book::names::declare` meets its contract. Each name has a byte in the table, and each set a bit in it; whether the
-- byte of the record's name had the bit of its set is the answer.
-- Assumes nothing.
use mathlib.Core.Bool.{not}
use mathlib.Core.Path.{◌≡◌, refl, ap}
use Rattle.std.specs.Prelude.{◌<◌, Some}
use Rattle.record.specs.declared.refusal.Cause.TheVariants as code
use Rattle.book.specs.Tables.{unless, set_of}
use Rattle.book.specs.declared.names.NameSet.{NameSet}
use Rattle.book.specs.declared.shape.Shaped.{Shaped}
use Rattle.book.proofs.Cells.{kind_is, shaped}
use Rattle.book.proofs.Declares.{shaped_name, no_set_of, set_bit_of, name_low, declares_none, declares_again, declares_new}
use Rattle.book.proofs.names.declare.Goals as goal

-- what declares a name has one below 4,096
low : (s : Shaped) (set : NameSet) → Some set ≡ set_of s.row.now.kind → s.record.now.a < 4096
low s set some =
    let (bit, other) = set_bit_of _ s.record.now (kind_is s.is_row) set some refl in
    name_low s.record.now bit other (shaped_name s.record.now (shaped s.is_row))

pub returns-in_default : goal.returns-in_default
returns-in_default c = λ rs known less is.
    let (f, k) = declares_none known less is (no_set_of _ _ (kind_is c.args.shaped.now.is_row) c.in_default.ensures) in
    record { answer_is = ap (λ b. unless (not b) code.Name c.args.n) f; names_are = k }

pub bounds-names-name : goal.bounds-names-name
bounds-names-name c = rw c.from-name.ensures (low c.args.shaped.now c.in-Some.set c.in-Some.ensures)

pub bounds-names-name-2 : goal.bounds-names-name-2
bounds-names-name-2 c = rw c.from-name.ensures (low c.args.shaped.now c.in-Some.set c.in-Some.ensures)

pub bounds-names-name-3 : goal.bounds-names-name-3
bounds-names-name-3 c = rw c.from-name.ensures (low c.args.shaped.now c.in-Some.set c.in-Some.ensures)

pub returns-then-names-name-ne0 : goal.returns-then-names-name-ne0
returns-then-names-name-ne0 c = λ rs known less is.
    let r = c.args.shaped.now.record.now in
    let (bit, some) = set_bit_of _ r (kind_is c.args.shaped.now.is_row) c.in-Some.set c.in-Some.ensures c.bit-bit.ensures in
    let below : r.a < 4096 = low c.args.shaped.now c.in-Some.set c.in-Some.ensures in
    let (f, k) = declares_again known less is bit some below (rw c.from-name.ensures at c.if-names-name-ne0.true) in
    record { answer_is = ap (λ b. unless (not b) code.Name c.args.n) f; names_are = k }

pub returns : goal.returns
returns c = λ rs known less is.
    let r = c.args.shaped.now.record.now in
    let (bit, some) = set_bit_of _ r (kind_is c.args.shaped.now.is_row) c.in-Some.set c.in-Some.ensures c.bit-bit.ensures in
    let below : r.a < 4096 = low c.args.shaped.now c.in-Some.set c.in-Some.ensures in
    let (f, k) = declares_new known less is bit some below (rw c.from-name.ensures at c.if-names-name-ne0.false) in
    rw c.from-name.ensures
    record { answer_is = ap (λ b. unless (not b) code.Name c.args.n) f; names_are = k }
