use Rattle.std.proofs.Common.{take}
use Rattle.kp_base.specs.Writer.{Wrote}
use Rattle.kp_vwrite.specs.Texts.{regs_text}
use Rattle.kp_vwrite.proofs.header.write_regs.Given as goal

abbrev pub invariant-loop-reg : goal.invariant-loop-reg
invariant-loop-reg g l =
    Wrote g.K.Sink.held g.K.Sink.faults l.initial.out l.out (regs_text (take l.reg-index l.regs))
