use Rattle.bodies.proofs.constraint.+lower_where_expr.Given as goal

abbrev pub decreases-lower_where_expr : goal.decreases-lower_where_expr
decreases-lower_where_expr g l = l.n
