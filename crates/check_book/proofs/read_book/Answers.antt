-- Each turn puts what it read behind what was read before. At the end the room is full, or the reader at its end.
use Rattle.std.proofs.Common.{arith, ◌≡◌, ◌-◌, ◌≤◌, ◌<◌, ◌∙◌, ℕ, List, take, length, subst, sym, length-take-le}
use Rattle.std.specs.Prelude.{IfSome}
use borrow.Rule.Slice.PartMut.{mid_of, same_len_mid, mid_len}
use Rattle.check_book.proofs.Taking.{read_more, stopped, filled}
use Rattle.check_book.proofs.read_book.Goals as goal
use Rattle.check_book.proofs.read_book.Goals.{else-loop-at-test, then-loop-at-test+in_ok-n+then-n-eq0}

pub loop-at-preserved : goal.loop-at-preserved
loop-at-preserved g c =
    let known = g.R.Read.remaining in
    let at = c.loop-at.at in
    let room = c.loop-at.room in
    let front : length (take at room) ≡ at = length-take-le at room (omega arith) in
    let part : length (mid_of at (32769 - at) room) ≡ 32769 - at = mid_len at 32769 room (omega arith) in
    let few = c.in_ok-n.ensures.bound.0 in
    record {
      within = omega (arith, few, c.read.auto.buf);
      whole = same_len_mid at (32769 - at) room c.read.new.buf c.read.auto.buf ∙ c.loop-at.invariant.whole;
      bytes = read_more (known c.args.reader.now) (known c.loop-at.reader) (known c.read.new.self) (take at room) c.read.new.buf _
          at c.in_ok-n.n front few c.loop-at.invariant.bytes c.in_ok-n.ensures.bytes.0;
    }

pub shared_ref_as_front-result : goal.shared_ref_as_front-result
shared_ref_as_front-result g c = c.loop-at.invariant.within

pub returns : goal.returns
returns g c =
    let known = g.R.Read.remaining in
    let at = c.loop-at.at in
    let room = c.loop-at.room in
    let front : length (take at room) ≡ at = length-take-le at room (omega arith) in
    let Holds = λ (l : List ℕ). IfSome (known c.args.reader.now) (λ (input : List ℕ). take at l ≡ take 32769 input) in
    elim c.loop-at-test.branch [
      | else-loop-at-test w ↦
          let full : at ≡ 32769 = omega (arith, w.loop-at-test.false, c.loop-at.invariant.within) in
          subst Holds (sym w.room-is)
          (filled (known c.args.reader.now) (known c.loop-at.reader) (take at room) 32769 c.loop-at.invariant.bytes (front ∙ full))
      | then-loop-at-test+in_ok-n+then-n-eq0 w ↦
          let part : length (mid_of at (32769 - at) room) ≡ 32769 - at = mid_len at 32769 room (omega arith) in
          let some : 0 < length w.read.new.buf = omega (arith, part, w.read.auto.buf, w.loop-at-test.true) in
          subst Holds (sym w.room-is)
          (stopped (known c.args.reader.now) (known c.loop-at.reader) (known w.read.new.self) (take at room) w.read.new.buf _
          at w.in_ok-n.n 32769 front w.if-n-eq0.true some c.loop-at.invariant.within c.loop-at.invariant.bytes
          w.in_ok-n.ensures.bytes.0 w.in_ok-n.ensures.bytes.1)
    ]
