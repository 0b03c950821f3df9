use Rattle.std.proofs.Common.{◌∙◌, sym, refl}
use Rattle.kp_tool.proofs.Outside.{bad_words_end, over_nothing}
use Rattle.kp_tool.proofs.run.Goals as goal

pub returns-in-None-clause-ends : goal.returns-in-None-clause-ends
returns-in-None-clause-ends g c =
    bad_words_end g.K.Sink.held g.K.Sink.faults _ _ _ (sym c.in_ok-of.ensures.command ∙ c.in-None.is) _ _ _ c.finish.ensures

pub returns-in-Generate-clause-ends : goal.returns-in-Generate-clause-ends
returns-in-Generate-clause-ends g c =
    over_nothing g.K.Sink.held g.K.Sink.faults _ _ c.in-Some.command _ (sym c.in_ok-of.ensures.command ∙ c.in-Some.is) (rw c.in-Generate.is refl) _ _ _ c.carry_out.ensures
