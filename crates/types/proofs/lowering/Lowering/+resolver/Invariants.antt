use Rattle.types.proofs.lowering.Lowering.+resolver.Given as goal

abbrev pub decreases-resolve_type_expr : goal.decreases-resolve_type_expr
decreases-resolve_type_expr g l = l.left

abbrev pub decreases-resolve_type_expr_with_substitution : goal.decreases-resolve_type_expr_with_substitution
decreases-resolve_type_expr_with_substitution g l = l.left
