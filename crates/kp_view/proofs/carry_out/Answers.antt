use Rattle.std.{proofs.Common.ap, proofs.Common.None, specs.Prelude.⊤}
use Rattle.kp_base.specs.Causes.{Rose}
use Rattle.kp_view_words.specs.Asked.{asked, file_asked}
use Rattle.kp_view.proofs.Outside.{bad_words_end, help_end, version_end}
use Rattle.kp_view.proofs.carry_out.Goals as goal

pub returns-in-BadWords-clause-ends : goal.returns-in-BadWords-clause-ends
returns-in-BadWords-clause-ends g c =
    bad_words_end g.K.Sink.held g.K.Sink.faults (Rose (g.S.Source.faults c.args.source.now) (g.S.Source.faults c.args.source.now)) ⊤ (asked c.args.request.now)
    c.in-BadWords.topic (g.S.Source.left c.args.source.now) (file_asked (asked c.args.request.now)) c.args.out.now (ap asked c.in-BadWords.is)

pub returns-in-Help-clause-ends : goal.returns-in-Help-clause-ends
returns-in-Help-clause-ends g c =
    help_end g.K.Sink.held g.K.Sink.faults (Rose (g.S.Source.faults c.args.source.now) (g.S.Source.faults c.args.source.now)) (asked c.args.request.now)
    c.in-Help.topic (g.S.Source.left c.args.source.now) (file_asked (asked c.args.request.now)) None (ap asked c.in-Help.is) _ _ _
    (rw c.help_of.ensures at c.print.ensures)

pub returns-in-Version-clause-ends : goal.returns-in-Version-clause-ends
returns-in-Version-clause-ends g c =
    version_end g.K.Sink.held g.K.Sink.faults (Rose (g.S.Source.faults c.args.source.now) (g.S.Source.faults c.args.source.now)) (asked c.args.request.now)
    (g.S.Source.left c.args.source.now) (file_asked (asked c.args.request.now)) None (ap asked c.in-Version.is) _ _ _
    (rw c.version.ensures at c.print-in-Version.ensures)
