use Rattle.std.{proofs.Common.◌+◌, proofs.Common.◌*◌, proofs.Common.take, specs.Prelude.sum_by}
use Rattle.kp_ast.specs.Size.{size}
use Rattle.kp_net.specs.Growth.{Grown}
use Rattle.kp_build.specs.inner.Showing.{AllInside, AllShow, values_in}
use Rattle.kp_build.proofs.Work.{steps, all_steps, work, work_of}
use Rattle.kp_build.proofs.walk.+walk.Given as goal

abbrev pub decreases-node_for : goal.decreases-node_for
decreases-node_for l = 4 * steps l.e.now + 4 * work l.env.now.decls

abbrev pub decreases-two_for : goal.decreases-two_for
decreases-two_for l = (4 * (steps l.a.now + steps l.b.now) + 1) + 4 * work l.env.now.decls

abbrev pub decreases-nodes_for : goal.decreases-nodes_for
decreases-nodes_for l = (4 * all_steps l.es.now + 1) + 4 * work l.env.now.decls

abbrev pub decreases-called : goal.decreases-called
decreases-called l = 4 * work l.decls.now + 1

abbrev pub decreases-body : goal.decreases-body
decreases-body l = 4 * work l.earlier.now + 4 * work_of l.decl.now

abbrev pub invariant-nodes_for-loop-e : goal.invariant-nodes_for-loop-e
invariant-nodes_for-loop-e l = record {
  inside : AllInside l.pool l.nodes.items;
  shows : AllShow l.pool l.nodes.items (values_in l.initial.pool l.env (take l.e-index l.es));
  grown : Grown l.initial.pool l.pool (8 * sum_by (size l.env.decls) (take l.e-index l.es));
}
