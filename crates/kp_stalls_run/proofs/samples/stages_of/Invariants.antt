use Rattle.std.proofs.Common.{◌≡◌, ◌++◌, drop}
use Rattle.kp_machine.specs.Slots.{sample_stages}
use Rattle.kp_stalls_run.proofs.samples.stages_of.Given as goal

abbrev pub invariant-loop-decl : goal.invariant-loop-decl
invariant-loop-decl l = l.stages.items ++ sample_stages (drop l.decl-index l.decls) ≡ sample_stages l.decls
