use Rattle.std.proofs.Common.{◌≡◌, ◌≤◌, length}
use Rattle.kp_machine.specs.{Slots.targets_of, Machine.registers_before}
use Rattle.kp_synth.proofs.Entered.{AllBare}
use Rattle.kp_synth.proofs.stage_inputs.sources_in.Given as goal

abbrev pub invariant-loop-t : goal.invariant-loop-t
invariant-loop-t l = record {
  count : length l.sources.items ≡ l.t;
  bare : AllBare l.layout l.pool l.sources.items;
  registers : l.registers ≡ registers_before (targets_of l.layout.decls) l.t;
  few : l.registers ≤ l.t;
}
