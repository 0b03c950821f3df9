use Rattle.std.proofs.Common.{arith}
use Rattle.kp_machine.specs.Slots.{pipes_of}
use Rattle.kp_design.specs.Numbers.{no_slot}
use Rattle.kp_synth_registers.proofs.{Listed.pipes, Steps.turn, Steps.done}
use Rattle.kp_synth_registers.proofs.keys.add_pipes.Goals as goal

pub loop-x-preserved : goal.loop-x-preserved
loop-x-preserved c =
    turn _ (pipes c.args.layout.now c.args.stage) (pipes_of c.args.layout.now.decls) no_slot c.loop-x.keys.items _ c.loop-x.x _ c.is_piped.result (omega (arith, c.loop-x-test.true, c.pipe_count-x-end.ensures))
    c.is_piped.ensures c.in_ok-add_if.ensures c.loop-x.invariant

pub returns : goal.returns
returns c = done _ (pipes c.args.layout.now c.args.stage) (pipes_of c.args.layout.now.decls) no_slot c.loop-x.keys.items _ c.loop-x.x (omega (arith, c.loop-x-test.false, c.pipe_count-x-end.ensures)) c.loop-x.invariant
