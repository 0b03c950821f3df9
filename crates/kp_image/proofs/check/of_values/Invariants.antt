use Rattle.std.proofs.Common.{◌≡◌, drop}
use Rattle.kp_image.specs.Sections.{values_of}
use Rattle.kp_image.proofs.check.of_values.Given as goal

abbrev pub invariant-loop-lit : goal.invariant-loop-lit
invariant-loop-lit l = values_of l.name l.declared l.address (drop l.lit-index l.values) ≡ values_of l.name l.declared l.first l.values
