use Rattle.std.proofs.Common.{◌≡◌, drop}
use Rattle.bodies.specs.Annotated.{no_annotations}
use Rattle.bodies.specs.Code.{seen_behind}
use Rattle.bodies.proofs.encoding.annotations_of.Given as goal

abbrev pub invariant-loop-m : goal.invariant-loop-m
invariant-loop-m l = seen_behind l.book (drop l.m-index l.behind) l.seen ≡ seen_behind l.book l.behind no_annotations
