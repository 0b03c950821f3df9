use Rattle.std.proofs.Common.{◌∙◌, sym, refl, ap}
use Rattle.kp_timing.specs.Unfit.{untimed}
use Rattle.kp_tool.proofs.Ends.{untimed_job, timed_job}
use Rattle.kp_tool.proofs.timing.timing.Goals as goal

pub returns-in-Some : goal.returns-in-Some
returns-in-Some g c =
    untimed_job g.K.Sink.held g.K.Sink.faults c.args.count c.args.job.now.design.job c.in-Some.refusal
    (sym (c.untimed.ensures ∙ ap untimed c.job.ensures.job) ∙ c.in-Some.is) c.args.sink.now

pub returns-in_ok-timing-in-None : goal.returns-in_ok-timing-in-None
returns-in_ok-timing-in-None g c =
    timed_job g.K.Sink.held g.K.Sink.faults c.args.count c.args.job.now.design.job _ (sym (c.untimed.ensures ∙ ap untimed c.job.ensures.job) ∙ c.in-None.is)
    (rw (c.in_ok-timing-in-None.ensures.job, c.in_ok-timing-in-None.ensures.count) refl) _ _ _ c.finish.ensures
