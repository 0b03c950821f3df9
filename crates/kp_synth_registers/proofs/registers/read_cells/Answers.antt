use Rattle.kp_synth_registers.proofs.Cells.{ready_read}
use Rattle.kp_synth_registers.proofs.registers.read_cells.Goals as goal

pub returns-clause-ready : goal.returns-clause-ready
returns-clause-ready c =
    ready_read c.args.layout.now c.registers.new.pool c.samples.new.pool c.stall_word-ext.new.pool _ _ _ c.in_ok-keys.ensures c.in_ok-samples.ensures.added.kept c.stall_word-ext.ensures.added.kept
    c.in_ok-registers.ensures.count c.in_ok-registers.ensures.read c.in_ok-samples.ensures.count c.in_ok-samples.ensures.read c.stall_word-ext.ensures.wire c.stall_word-ext.ensures.value
