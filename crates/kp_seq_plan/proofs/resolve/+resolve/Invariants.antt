use Rattle.std.proofs.Common.{◌+◌, ◌*◌, max, take}
use Rattle.kp_ast.{specs.declared.tree.ExprKind.TheViews.size-Expr, proofs.Weight.weight, proofs.Weight.weight_of}
use Rattle.kp_seq_plan.specs.Plans.{AllMean}
use Rattle.kp_seq_plan.proofs.resolve.+resolve.Given as goal

abbrev pub decreases-plan_of : goal.decreases-plan_of
decreases-plan_of l = 4 * goal.size-plan_of l + 4 * weight l.decls.now

abbrev pub decreases-part_of : goal.decreases-part_of
decreases-part_of l = (4 * goal.size-part_of l + 1) + 4 * weight l.decls.now

abbrev pub decreases-parts_of : goal.decreases-parts_of
decreases-parts_of l = (4 * max (goal.size-parts_of l) (size-Expr l.b.now) + 2) + 4 * weight l.decls.now

abbrev pub decreases-plans_of : goal.decreases-plans_of
decreases-plans_of l = (4 * goal.size-plans_of l + 1) + 4 * weight l.decls.now

abbrev pub decreases-call_of : goal.decreases-call_of
decreases-call_of l = 4 * weight l.decls.now + 1

abbrev pub decreases-body_of : goal.decreases-body_of
decreases-body_of l = 4 * weight l.earlier.now + 4 * weight_of l.decl.now

abbrev pub invariant-plans_of-loop-e : goal.invariant-plans_of-loop-e
invariant-plans_of-loop-e l = AllMean l.decls l.scope (take l.e-index l.es) l.plans.items
