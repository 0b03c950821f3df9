use Rattle.std.proofs.Common.{◌≡◌, drop}
use Rattle.kp_design.specs.Spans.{last_write, last_use}
use Rattle.kp_design.proofs.uses.last_use.Given as goal

abbrev pub invariant-loop-decl : goal.invariant-loop-decl
invariant-loop-decl l = last_write l.name l.last (drop l.decl-index l.job.decls) ≡ last_use l.job l.name
