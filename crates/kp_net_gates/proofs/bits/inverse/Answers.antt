use Rattle.std.proofs.Common.{ap, ◌∙◌, ◌==◌}
use Rattle.kp_bits.specs.Word as words
use Rattle.kp_net.specs.Nodes.{at, on}
use Rattle.kp_net_gates.proofs.Truths.{not_bit, wire_bit, wire_wide}
use Rattle.kp_net_gates.proofs.bits.inverse.Goals as goal

pub returns-clause-value : goal.returns-clause-value
unfolding on at
returns-clause-value c = λ x. ap (λ (w : words.Word). w.value == 1) (c.complement.ensures.word x) ∙ not_bit _ _ (wire_wide _ _ 1 x c.requires.wire) (wire_bit _ _ x c.requires.wire)
