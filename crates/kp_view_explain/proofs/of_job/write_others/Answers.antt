use Rattle.kp_view_explain.proofs.Places.{further}
use Rattle.kp_view_explain.proofs.of_job.write_others.Goals as goal

pub loop-finding-preserved : goal.loop-finding-preserved
loop-finding-preserved c =
    let (message, (line, (e, is, (more, all)))) = c.in_ok-write_finding.ensures in further _ _ _ _ _ _ _ c.loop-finding.invariant all
