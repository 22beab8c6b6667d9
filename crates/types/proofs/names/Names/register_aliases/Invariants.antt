use Rattle.std.proofs.Common.{◌≡◌, drop}
use Rattle.types.specs.Tables.{tables}
use Rattle.types.specs.Registry.{with_aliases}
use Rattle.types.proofs.names.Names.register_aliases.Given as goal

abbrev pub invariant-loop-n : goal.invariant-loop-n
invariant-loop-n g l =
    with_aliases l.book (drop l.n-index l.declarations) (tables g.row.N g.row.R l.self)
    ≡ with_aliases l.book l.declarations (tables g.row.N g.row.R l.initial.self)
