use Rattle.std.proofs.Common.{◌≡◌, ◌≤◌, take, length}
use Rattle.book.specs.Lists.{keep, up_to}
use Rattle.book.specs.Outline.{◌!◌}
use Rattle.book.specs.Faults.{is_declaration}
use Rattle.book.specs.Noted.{is_outside}
use Rattle.book.proofs.outline.Outline.note_all.Given as goal

abbrev pub invariant-loop-n : goal.invariant-loop-n
invariant-loop-n g l = record {
  declared_is : take l.declared l.self-inside.declarations ≡ keep (λ n. is_declaration (l.book ! n)) (up_to l.n);
  noted_is : take l.noted l.self-inside.outside ≡ keep (λ n. is_outside (l.book ! n)) (up_to l.n);
  few : l.declared ≤ l.n;
  few_too : l.noted ≤ l.n;
  room : length l.self-inside.declarations ≡ g.row.R;
  room_too : length l.self-inside.outside ≡ g.row.R;
}
