use Rattle.std.{proofs.Common.◌<◌, proofs.Common.subst, specs.Prelude.All}
use Rattle.kp_net.specs.declared.node.Kind.{Kind}
use Rattle.kp_cycle_plan.specs.Plans.{reads}
use Rattle.kp_cycle_plan.proofs.order.mark_operands.Goals as goal

pub returns-in-Mux-clause-others : goal.returns-in-Mux-clause-others
returns-in-Mux-clause-others c = λ i j h l. let P : Kind → Type 0 = λ k. All (λ a. a.0 < i) (reads k) in c.mark_all-in-Mux.ensures.others i j (subst P c.in-Mux.is h) l
