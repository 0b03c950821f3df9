use Rattle.std.proofs.Common.{◌≡◌, drop}
use Rattle.kp_stage.specs.Start.{laid_over}
use Rattle.kp_image.proofs.state.register_value.Given as goal

abbrev pub invariant-loop-e : goal.invariant-loop-e
invariant-loop-e l = laid_over (drop l.e-index l.entries) l.name 0 l.value ≡ laid_over l.entries l.name 0 l.start
