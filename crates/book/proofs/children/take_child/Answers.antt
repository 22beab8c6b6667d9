-- `book::children::take_child` meets its contract: what is found in the tree's place tells whether the child is right.
-- Assumes nothing.
use Rattle.std.proofs.Common.{◌≡◌, refl, subst, rules, List, set}
use Rattle.std.specs.Prelude.{None, true}
use Rattle.book.specs.Shape.{Child}
use Rattle.book.specs.Tables.{TakenAll, wrong}
use Rattle.book.proofs.Marks.{take_none, take_late, take_used, take_other, take_right}
use Rattle.book.proofs.children.take_child.Goals as goal

pub returns-in_default : goal.returns-in_default
returns-in_default c = λ rs cs u.
    subst (λ (l : List Child). TakenAll rs c.args.n cs l 0 c.args.trees.now) c.in_default.ensures (take_none u)

pub returns-else-x-n : goal.returns-else-x-n
returns-else-x-n c = λ rs cs u.
    (subst (λ (l : List Child). wrong rs c.args.n cs l ≡ true) c.in-Some.ensures (take_late u c.in-Some.group c.args.x c.if-x-n.false), refl)

pub returns-in_default-tree : goal.returns-in_default-tree
returns-in_default-tree c = λ rs cs u.
    let is = rw c.from.ensures at (c.in_default-tree.is) in
    (subst (λ (l : List Child). wrong rs c.args.n cs l ≡ true) c.in-Some.ensures (take_used u c.in-Some.group c.args.x c.if-x-n.true is), refl)

pub returns-else-eq : goal.returns-else-eq
returns-else-eq c = λ rs cs u.
    let is = rw c.from.ensures at (c.in-Some-tree.is) in (
      subst (λ (l : List Child). wrong rs c.args.n cs l ≡ true) c.in-Some.ensures
          (take_other u c.in-Some.group c.args.x c.if-x-n.true c.in-Some-tree.tree is (search rules)),
      refl,
    )

pub returns-then-eq : goal.returns-then-eq
returns-then-eq c = λ rs cs u.
    let same : c.in-Some-tree.tree.group ≡ c.in-Some.group = search rules in
    let is = rw c.from.ensures at (c.in-Some-tree.is) in
    rw c.from-then-x-n.ensures
    (subst (λ (l : List Child). TakenAll rs c.args.n cs l c.in-Some-tree.tree.levels (set c.args.trees.now c.args.x None)) c.in-Some.ensures
    (take_right u c.in-Some.group c.args.x c.if-x-n.true c.requires c.in-Some-tree.tree is same))
