use Rattle.std.proofs.Common.{◌≡◌, ◌++◌, drop}
use Rattle.kp_machine.specs.Slots.{targets_of, pipes_of, samples_of, hints_of}
use Rattle.kp_synth_stage.proofs.slots.Slots.of.Given as goal

abbrev pub invariant-loop-decl : goal.invariant-loop-decl
invariant-loop-decl l = record {
  targets : l.slots.targets.items ++ targets_of (drop l.decl-index l.d.job.decls) ≡ targets_of l.d.job.decls;
  pipes : l.slots.pipes.items ++ pipes_of (drop l.decl-index l.d.job.decls) ≡ pipes_of l.d.job.decls;
  samples : l.slots.samples.items ++ samples_of (drop l.decl-index l.d.job.decls) ≡ samples_of l.d.job.decls;
  hints : l.slots.hints.items ++ hints_of (drop l.decl-index l.d.job.decls) ≡ hints_of l.d.job.decls;
}
