use Rattle.std.proofs.Common.{◌≡◌, ◌+◌, drop}
use Rattle.types.specs.Registry.{parameter_in}
use Rattle.types.proofs.registry.first_parameter.Given as goal

abbrev pub invariant-loop-m : goal.invariant-loop-m
invariant-loop-m l = parameter_in (drop l.m l.book.records) ≡ parameter_in (drop (l.n + 1) l.book.records)
