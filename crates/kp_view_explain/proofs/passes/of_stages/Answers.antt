use Rattle.std.proofs.Common.{◌∙◌, ap, map}
use Rattle.kp_stage.specs.Findings.{refusal_of}
use Rattle.kp_view_explain.proofs.Found.{all_heads, of_stages}
use Rattle.kp_view_explain.proofs.passes.of_stages.Goals as goal

pub returns : goal.returns
returns c =
    let all = c.loop-finding.all.items in
    of_stages c.args.job.now all
    (all_heads refusal_of all c.as_slice-found.result.now c.in_ok-found.found.found c.loop-finding.finding-index c.loop-finding-test.false c.as_slice-found.ensures c.loop-finding.invariant
    ∙ ap (map refusal_of) c.in_ok-found.ensures)
