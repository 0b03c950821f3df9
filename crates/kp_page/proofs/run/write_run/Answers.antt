use Rattle.kp_page.proofs.{Lines.writes_as, Running.text_is}
use Rattle.kp_page.proofs.run.write_run.Goals as goal

pub returns-clause-text : goal.returns-clause-text
returns-clause-text g c =
    let n = c.args.count in
    writes_as (g.K.Sink.held c.args.sink.now) (g.K.Sink.held c.write_states.new.sink) _ _ c.write_states.result
    (text_is c.args.job.now.design.job c.args.now.now.net n c.requires.shows (c.a_job_gives_its_own_inputs.ensures.seen n) (c.a_job_gives_its_own_inputs.ensures.quiet n))
    c.write_states.ensures.text
