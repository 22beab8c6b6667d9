-- `constants::tree::eval_const_expr` meets its contract, by the record at the top of the expression.
-- Assumes nothing.
use Rattle.std.proofs.Common.{rules, refl, ap, None}
use Rattle.arith.specs.Checked.{answer}
use Rattle.constants.specs.Given.{table_in}
use Rattle.constants.proofs.Trees.{eval-value, eval-name, eval-other, eval-left, eval-right, eval-sides}
use Rattle.constants.proofs.tree.+eval_const_expr.Goals as goal

pub returns-in-Value : goal.returns-in-Value
returns-in-Value g t c = eval-value _ c.args.book.now c.args.n _ _ _ c.in-Value.ensures.value c.literal_value.ensures

pub returns-in-Name : goal.returns-in-Name
unfolding table_in
returns-in-Name g t c = eval-name _ c.args.book.now c.args.n _ _ c.in-Name.ensures.value (ap answer c.of.ensures)

pub returns-in-Other : goal.returns-in-Other
returns-in-Other g t c = eval-other _ c.args.book.now c.args.n None c.in-Other.ensures.value refl

pub returns-in_err-x-in-Sides : goal.returns-in_err-x-in-Sides
returns-in_err-x-in-Sides g t c =
    eval-left _ c.args.book.now c.args.n _ _ _ _ c.in-Sides.ensures.value c.in-Sides.ensures.earlier c.in_err-x-in-Sides.ensures (search rules)

pub returns-in_err-y-in-Sides : goal.returns-in_err-y-in-Sides
returns-in_err-y-in-Sides g t c =
    eval-right _ c.args.book.now c.args.n _ _ _ _ c.in-Sides.ensures.value c.in-Sides.ensures.earlier _ c.in_ok-x-in-Sides.ensures c.in_err-y-in-Sides.ensures
    (search rules)

pub returns-in_ok-y-in-Sides : goal.returns-in_ok-y-in-Sides
returns-in_ok-y-in-Sides g t c =
    eval-sides _ c.args.book.now c.args.n _ _ _ _ c.in-Sides.ensures.value c.in-Sides.ensures.earlier _ _ c.in_ok-x-in-Sides.ensures c.in_ok-y-in-Sides.ensures
    (search rules) (search rules) c.apply.ensures
