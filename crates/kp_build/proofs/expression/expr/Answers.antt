use Rattle.std.proofs.lemmas.Result.{IfOk-weaker}
use Rattle.kp_build.proofs.Calls.{gives_means}
use Rattle.kp_build.proofs.expression.expr.Goals as goal

pub returns-clause-means : goal.returns-clause-means
returns-clause-means c = IfOk-weaker _ _ _ (λ n h. gives_means c.args.pool.now c.args.env.now c.args.e.now c.node_for.new.pool n h) c.node_for.ensures.gives
