use Rattle.constants.proofs.tree.+eval_const_expr.Given as goal

abbrev pub decreases-eval_const_expr : goal.decreases-eval_const_expr
decreases-eval_const_expr g l = l.n
