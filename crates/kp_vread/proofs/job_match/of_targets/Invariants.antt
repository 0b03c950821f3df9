use Rattle.std.proofs.Common.{◌≡◌, drop}
use Rattle.kp_vread.specs.Matching.{of_targets}
use Rattle.kp_vread.proofs.job_match.of_targets.Given as goal

abbrev pub invariant-loop-decl : goal.invariant-loop-decl
invariant-loop-decl l = of_targets l.parts l.decl (drop l.decl l.decls) ≡ of_targets l.parts 0 l.decls
