use Rattle.std.proofs.Common.{refl}
use Rattle.kp_tool.{specs.Saying.Says, proofs.Ends.said}
use Rattle.kp_report.specs.States.{sequential_text}
use Rattle.kp_tool.proofs.seq.seq.Goals as goal

pub returns : goal.returns
returns g c =
    let run = c.in_ok-run.ensures in
    said g.K.Sink.held g.K.Sink.faults (Says 0 (sequential_text c.args.count c.args.job.now.design.job)) 0 _ (refl, rw (run.count, run.job, run.state) refl) _ _ _ c.finish.ensures
