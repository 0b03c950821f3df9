use Rattle.std.proofs.Common.{◌≡◌, ◌++◌, drop, map}
use Rattle.kp_machine.specs.Slots.{targets_of, pipes_of, hints_of, samples_of}
use Rattle.kp_design.specs.inner.Tables.{sized, short_piped, short_aimed, bytes_of}
use Rattle.kp_design.proofs.tables.Declared.of.Given as goal

abbrev pub invariant-loop-decl : goal.invariant-loop-decl
invariant-loop-decl l = record {
  targets : l.all.targets.items ++ map sized (targets_of (drop l.decl-index l.job.decls)) ≡ map sized (targets_of l.job.decls);
  pipes : l.all.pipes.items ++ map (short_piped l.job) (pipes_of (drop l.decl-index l.job.decls)) ≡ map (short_piped l.job) (pipes_of l.job.decls);
  hints : l.all.hints.items ++ map (short_aimed l.job) (hints_of (drop l.decl-index l.job.decls)) ≡ map (short_aimed l.job) (hints_of l.job.decls);
  samples : l.all.samples.items ++ bytes_of (samples_of (drop l.decl-index l.job.decls)) ≡ bytes_of (samples_of l.job.decls);
}
