use Rattle.std.proofs.Common.{ap, ◌∙◌, ◌==◌}
use Rattle.kp_bits.specs.Word as words
use Rattle.kp_net.specs.Nodes.{at, on}
use Rattle.kp_net_gates.proofs.Truths.{and_bits, wire_bit}
use Rattle.kp_net_gates.proofs.bits.both.Goals as goal

pub returns-clause-value : goal.returns-clause-value
unfolding on at
returns-clause-value c = λ x. ap (λ (w : words.Word). w.value == 1) (c.binary.ensures.word x) ∙ and_bits _ _ (wire_bit _ _ x c.requires.first) (wire_bit _ _ x c.requires.second)
