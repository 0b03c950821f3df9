use Rattle.std.proofs.Common.{true, refl, arith}
use Rattle.kp_machine.specs.Slots.{hints_of}
use Rattle.kp_design.specs.Numbers.{no_slot}
use Rattle.kp_synth_registers.proofs.{Listed.hints, Steps.turn, Steps.done}
use Rattle.kp_synth_registers.proofs.keys.add_hints.Goals as goal

pub loop-h-preserved : goal.loop-h-preserved
loop-h-preserved c =
    turn _ hints (hints_of c.args.layout.now.decls) no_slot c.loop-h.keys.items _ c.loop-h.h _ true (omega (arith, c.loop-h-test.true, c.hint_count-h-end.ensures))
    refl c.in_ok-push.ensures.items c.loop-h.invariant

pub returns : goal.returns
returns c = done _ hints (hints_of c.args.layout.now.decls) no_slot c.loop-h.keys.items _ c.loop-h.h (omega (arith, c.loop-h-test.false, c.hint_count-h-end.ensures)) c.loop-h.invariant
