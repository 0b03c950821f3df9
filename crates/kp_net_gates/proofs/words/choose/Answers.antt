use Rattle.std.proofs.Common.{ap, refl, ◌∙◌}
use Rattle.kp_bits.specs.Word as words
use Rattle.kp_net.specs.Nodes.{word_at, at, on}
use Rattle.kp_net_gates.proofs.Truths.{chosen_value}
use Rattle.kp_net_gates.proofs.words.choose.Goals as goal

pub returns-clause-value : goal.returns-clause-value
unfolding at on
returns-clause-value c = λ x. ap (λ (w : words.Word). w.value) (c.node.ensures.exact x refl)
    ∙ chosen_value (on x c.args.pool.now.nodes c.args.test.0) (word_at x c.args.pool.now.nodes c.args.yes.0) (word_at x c.args.pool.now.nodes c.args.no.0)
