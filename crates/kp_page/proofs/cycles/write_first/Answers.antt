use Rattle.kp_page.proofs.Lines.{first_is, writes_as}
use Rattle.kp_page.proofs.cycles.write_first.Goals as goal

pub returns-clause-text : goal.returns-clause-text
returns-clause-text g c =
    writes_as (g.K.Sink.held c.args.sink.now) (g.K.Sink.held c.write_cycle.new.sink) _ _ c.write_cycle.result
    (first_is c.args.job.now.design.job c.args.now.now c.requires.now) c.write_cycle.ensures.text
