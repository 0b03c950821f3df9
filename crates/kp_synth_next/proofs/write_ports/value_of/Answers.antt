use Rattle.kp_synth_next.proofs.Writes.{value_is}
use Rattle.kp_synth_next.proofs.write_ports.value_of.Goals as goal

pub returns-clause-gives : goal.returns-clause-gives
returns-clause-gives c =
    value_is _ _ _ _ _ _ _ _ c.leaves-came.result.enabled c.leaves-came.result.value c.constant-zero.result _ c.constant-zero.ensures.grown.kept c.leaves-came.ensures.enabled c.leaves-came.ensures.value c.leaves-came.ensures.gives c.constant-zero.ensures.value c.choose.ensures.value
