use Rattle.std.proofs.Common.{take}
use Rattle.kp_base.specs.Writer.{Wrote}
use Rattle.kp_vwrite.specs.Texts.{values_text}
use Rattle.kp_vwrite.proofs.state.write_values.Given as goal

abbrev pub invariant-loop-reg : goal.invariant-loop-reg
invariant-loop-reg g l =
    Wrote g.K.Sink.held g.K.Sink.faults l.initial.out l.out (values_text l.margin l.sign (take l.reg-index l.regs))
