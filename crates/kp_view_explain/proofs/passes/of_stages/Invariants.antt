use Rattle.std.proofs.Common.{◌≡◌, map, take}
use Rattle.kp_stage.specs.Findings.{refusal_of}
use Rattle.kp_view_explain.specs.inner.Found.{head_of}
use Rattle.kp_view_explain.proofs.passes.of_stages.Given as goal

abbrev pub invariant-loop-finding : goal.invariant-loop-finding
invariant-loop-finding l = map head_of l.all.items ≡ map refusal_of (take l.finding-index l.found)
