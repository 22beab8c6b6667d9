use Rattle.std.proofs.Common.{◌≡◌, drop}
use Rattle.bodies.specs.Annotated.{key_code}
use Rattle.bodies.specs.Code.{first_string}
use Rattle.bodies.proofs.item.first_string.Given as goal

abbrev pub invariant-loop-m : goal.invariant-loop-m
invariant-loop-m l = first_string l.book (key_code l.key) (drop l.m-index l.behind) ≡ first_string l.book (key_code l.key) l.behind
