use Rattle.std.proofs.Common.{◌≡◌, ◌≤◌, drop}
use Rattle.kp_base.specs.inner.Bytes.{WrittenUpTo}
use Rattle.kp_machine.specs.Slots.{targets_of}
use Rattle.kp_seq.specs.Running.{state}
use Rattle.kp_report.specs.States.{state_lines, no_counts}
use Rattle.kp_report.proofs.states.write_state.Given as goal

abbrev pub invariant-loop-decl : goal.invariant-loop-decl
invariant-loop-decl g l = record {
  text : WrittenUpTo (state_lines 0 no_counts (state l.machine) l.decls) (state_lines l.t no_counts (state l.machine) (drop l.decl-index l.decls))
      (g.K.Sink.held l.initial.sink) (g.K.Sink.held l.sink);
  later : g.K.Sink.faults l.initial.sink ≤ g.K.Sink.faults l.sink;
  counted : drop l.t (targets_of l.decls) ≡ targets_of (drop l.decl-index l.decls);
  few : l.t ≤ l.decl-index;
}
