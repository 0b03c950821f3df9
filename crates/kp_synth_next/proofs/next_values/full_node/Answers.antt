use Rattle.kp_synth_next.proofs.Transport.{test_out}
use Rattle.kp_synth_next.proofs.next_values.full_node.Goals as goal

pub returns-clause-next : goal.returns-clause-next
returns-clause-next c = test_out _ _ _ _ c.next_full.ensures.is_test
