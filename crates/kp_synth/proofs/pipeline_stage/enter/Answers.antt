use Rattle.kp_net.proofs.Growing.{kept_then, wire_kept}
use Rattle.kp_synth_registers.proofs.Growth.{test_kept, ready_kept}
use Rattle.kp_synth.proofs.Spoken.{slots_kept, pipes_kept, hints_kept}
use Rattle.kp_synth.proofs.pipeline_stage.enter.Goals as goal

pub returns-clause-entered : goal.returns-clause-entered
returns-clause-entered c =
    let g = c.ext_in-ext.ensures.grown.kept in
    let a = kept_then _ _ _ _ _ c.full_in-full.ensures.grown.kept g in
    let pipes = c.in_ok-pipes.ensures in
    let hints = c.in_ok-hints.ensures in
    let full = c.full_in-full.ensures in
    record {
      pipes = slots_kept _ _ _ _ _ a pipes.nodes;
      pipe_values = pipes_kept _ _ _ _ _ _ a pipes.nodes pipes.values;
      hints = slots_kept _ _ _ _ _ a hints.nodes;
      hint_values = hints_kept _ _ _ _ _ a hints.nodes hints.values;
      full_wire = wire_kept _ _ _ _ _ g full.wire;
      full_is_test = test_kept _ _ _ _ 1 _ _ g full.wire full.is_test;
      ext_wire = c.ext_in-ext.ensures.wire;
      ext_is_test = c.ext_in-ext.ensures.is_test;
    }

pub hints_in-requires-clause-ready : goal.hints_in-requires-clause-ready
hints_in-requires-clause-ready c = ready_kept _ _ _ _ _ c.in_ok-pipes.ensures.grown.kept c.requires.ready

pub full_in-full-requires-clause-ready : goal.full_in-full-requires-clause-ready
full_in-full-requires-clause-ready c = ready_kept _ _ _ _ _ c.in_ok-pipes.ensures.grown.kept c.requires.ready

pub ext_in-ext-requires-clause-ready : goal.ext_in-ext-requires-clause-ready
ext_in-ext-requires-clause-ready c = ready_kept _ _ _ _ _ (kept_then _ _ _ _ _ c.in_ok-pipes.ensures.grown.kept c.full_in-full.ensures.grown.kept) c.requires.ready
