use Rattle.std.proofs.Common.{◌≡◌, ◌≤◌, drop}
use Rattle.kp_base.specs.inner.Bytes.{WrittenUpTo}
use Rattle.kp_debug.specs.{Inspecting.printed, Inspecting.ends_in, inner.Standing.IsUnderWay, inner.Standing.run_of}
use Rattle.kp_debug.proofs.commands.run_commands.Given as goal

abbrev pub invariant-loop-command : goal.invariant-loop-command
invariant-loop-command g l = record {
  net : l.session.net ≡ l.net;
  under : IsUnderWay l.job.design.job l.session;
  text : WrittenUpTo (printed l.job.design.job (run_of l.job.design.job l.initial.session) l.initial.session.cycle l.commands)
      (printed l.job.design.job (run_of l.job.design.job l.session) l.session.cycle (drop l.command-index l.commands))
      (g.K.Sink.held l.initial.sink) (g.K.Sink.held l.sink);
  ends : ends_in (run_of l.job.design.job l.initial.session) l.initial.session.cycle l.commands ≡ ends_in (run_of l.job.design.job l.session) l.session.cycle (drop l.command-index l.commands);
  later : g.K.Sink.faults l.initial.sink ≤ g.K.Sink.faults l.sink;
}
