use Rattle.std.proofs.Common.{ap}
use Rattle.kp_depth.specs.declared.{stages.Path.Path, time.Time.Time}
use Rattle.kp_depth.proofs.Latest.{longest_of}
use Rattle.kp_depth.proofs.stages.longest.Goals as goal

pub returns : goal.returns
returns c =
    let p : Path = record { end = c.in-Some.end; steps = c.in_ok-steps.steps; length = c.at-length.result.arrival } in
    longest_of c.args.net.now.nodes c.args.times.now.inside c.args.times.now.all.items c.args.stage c.args.sort c.args.ends.now p c.nodes-nodes.ensures.right.right c.requires
    c.in-Some.ensures c.in_ok-steps.ensures.path c.in_ok-steps.ensures.length (ap (λ (v : Time). v.arrival) c.at-length.ensures)
