use Rattle.std.proofs.Common.{ap, refl}
use Rattle.kp_bits.specs.Word as words
use Rattle.kp_net.specs.Nodes.{at}
use Rattle.kp_net_gates.proofs.words.constant.Goals as goal

pub returns-clause-value : goal.returns-clause-value
unfolding at
returns-clause-value c = λ x. ap (λ (w : words.Word). w.value) (c.node.ensures.exact x refl)
