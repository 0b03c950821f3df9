use Rattle.kp_synth_next.proofs.Transport.{valid_next, value_next}
use Rattle.kp_synth_next.proofs.next_values.result_node.Goals as goal

pub returns-clause-valid : goal.returns-clause-valid
returns-clause-valid c = valid_next _ _ _ c.next_result.result.value _ c.next_result.ensures.gives

pub returns-clause-value_next : goal.returns-clause-value_next
returns-clause-value_next c = value_next _ _ c.next_result.result.enabled _ _ c.next_result.ensures.gives
