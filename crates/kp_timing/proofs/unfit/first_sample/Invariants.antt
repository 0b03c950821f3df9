use Rattle.std.proofs.Common.{◌≡◌, drop}
use Rattle.kp_timing.specs.Unfit.{first_of, first_place, samples_at}
use Rattle.kp_timing.proofs.unfit.first_sample.Given as goal

abbrev pub invariant-loop-decl : goal.invariant-loop-decl
invariant-loop-decl l = first_of l.first (samples_at (drop l.decl-index l.decls)) ≡ first_place (samples_at l.decls)
