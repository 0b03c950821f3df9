use Rattle.std.proofs.Common.{◌≡◌, ◌+◌, ◌++◌, length, drop}
use Rattle.kp_machine.specs.Slots.{samples_of}
use Rattle.kp_synth.specs.inner.Built.{net_ports, AllSpelled, SpelledPort}
use Rattle.kp_synth.proofs.files.sample_ports.Given as goal

abbrev pub invariant-loop-decl : goal.invariant-loop-decl
invariant-loop-decl l = record {
  samples : l.x + length (samples_of (drop l.decl-index l.layout.decls)) ≡ length (samples_of l.layout.decls);
  ports : l.ports.items ++ net_ports l.layout l.x (drop l.decl-index l.layout.decls) ≡ net_ports l.layout 0 l.layout.decls;
  spelled : AllSpelled SpelledPort l.ports.items;
}
