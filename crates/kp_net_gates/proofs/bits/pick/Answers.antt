use Rattle.std.proofs.Common.{ℕ, ap, ◌∙◌, ◌==◌}
use Rattle.kp_net.specs.Nodes.{at, on}
use Rattle.kp_net_gates.proofs.Truths.{pick_bit}
use Rattle.kp_net_gates.proofs.bits.pick.Goals as goal

pub returns-clause-value : goal.returns-clause-value
unfolding on
returns-clause-value c = λ x. ap (λ (n : ℕ). n == 1) (c.choose.ensures.value x)
    ∙ pick_bit (on x c.args.pool.now.nodes c.args.test.0) (at x c.args.pool.now.nodes c.args.yes.0) (at x c.args.pool.now.nodes c.args.no.0)
