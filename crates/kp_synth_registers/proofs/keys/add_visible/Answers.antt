use Rattle.std.proofs.Common.{arith}
use Rattle.kp_machine.specs.Slots.{targets_of}
use Rattle.kp_design.specs.Numbers.{no_slot}
use Rattle.kp_synth_registers.proofs.{Listed.visible, Steps.turn, Steps.done}
use Rattle.kp_synth_registers.proofs.keys.add_visible.Goals as goal

pub loop-t-preserved : goal.loop-t-preserved
loop-t-preserved c =
    turn _ visible (targets_of c.args.layout.now.decls) no_slot c.loop-t.keys.items _ c.loop-t.t _ c.is_register.result (omega (arith, c.loop-t-test.true, c.target_count-t-end.ensures))
    c.is_register.ensures c.in_ok-add_if.ensures c.loop-t.invariant

pub returns : goal.returns
returns c = done _ visible (targets_of c.args.layout.now.decls) no_slot c.loop-t.keys.items _ c.loop-t.t (omega (arith, c.loop-t-test.false, c.target_count-t-end.ensures)) c.loop-t.invariant
