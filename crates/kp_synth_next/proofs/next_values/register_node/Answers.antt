use Rattle.kp_synth_next.proofs.Transport.{gives_out}
use Rattle.kp_synth_next.proofs.next_values.register_node.Goals as goal

pub returns-clause-next : goal.returns-clause-next
returns-clause-next c = gives_out _ _ _ _ c.next_register.ensures.gives
