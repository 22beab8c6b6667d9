use Rattle.std.proofs.Common.{◌≡◌, drop}
use Rattle.types.specs.Tables.{tables}
use Rattle.types.specs.Registry.{with_types}
use Rattle.types.proofs.names.Names.register_types.Given as goal

abbrev pub invariant-loop-n : goal.invariant-loop-n
invariant-loop-n g l =
    with_types l.book (drop l.n-index l.declarations) (tables g.row.N g.row.R l.self)
    ≡ with_types l.book l.declarations (tables g.row.N g.row.R l.initial.self)
