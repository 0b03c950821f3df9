use Rattle.kp_synth_registers.proofs.Growth.{says_kept, test_kept, ready_kept}
use Rattle.kp_synth_next.proofs.write_ports.write_of.Goals as goal

pub value_of-value-requires-clause-ready : goal.value_of-value-requires-clause-ready
value_of-value-requires-clause-ready c = ready_kept _ _ _ _ _ c.enable_of-enabled.ensures.grown.kept c.requires.ready

pub value_of-value-requires-clause-says : goal.value_of-value-requires-clause-says
value_of-value-requires-clause-says c = says_kept _ _ _ _ _ _ c.enable_of-enabled.ensures.grown.kept c.requires.says

pub returns-clause-is_test : goal.returns-clause-is_test
returns-clause-is_test c = test_kept _ _ _ _ 1 _ _ c.value_of-value.ensures.grown.kept c.enable_of-enabled.ensures.wire c.enable_of-enabled.ensures.is_test
