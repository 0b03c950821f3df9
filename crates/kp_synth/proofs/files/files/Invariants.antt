use Rattle.std.proofs.Common.{◌≡◌, ◌+◌, ◌++◌, length, drop}
use Rattle.kp_machine.specs.Slots.{targets_of}
use Rattle.kp_synth.specs.inner.Built.{file_count, net_files, AllSpelled, SpelledFile}
use Rattle.kp_synth.proofs.files.files.Given as goal

abbrev pub invariant-loop-decl : goal.invariant-loop-decl
invariant-loop-decl l = record {
  targets : l.t + length (targets_of (drop l.decl-index l.layout.decls)) ≡ length (targets_of l.layout.decls);
  count : l.f + file_count (drop l.decl-index l.layout.decls) ≡ file_count l.layout.decls;
  files : l.files.items ++ net_files l.layout l.words l.ports l.t l.f (drop l.decl-index l.layout.decls) ≡ net_files l.layout l.words l.ports 0 0 l.layout.decls;
  spelled : AllSpelled SpelledFile l.files.items;
}
