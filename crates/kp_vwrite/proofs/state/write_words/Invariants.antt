use Rattle.std.proofs.Common.{take}
use Rattle.kp_base.specs.Writer.{Wrote}
use Rattle.kp_vwrite.specs.Texts.{words_text}
use Rattle.kp_vwrite.proofs.state.write_words.Given as goal

abbrev pub invariant-loop-address : goal.invariant-loop-address
invariant-loop-address g l =
    Wrote g.K.Sink.held g.K.Sink.faults l.initial.out l.out (words_text l.name l.width 0 (take l.address l.words))
