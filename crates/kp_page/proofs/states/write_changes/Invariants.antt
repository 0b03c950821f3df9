use Rattle.std.proofs.Common.{◌≡◌, ◌≤◌, drop}
use Rattle.kp_base.specs.inner.Bytes.{WrittenUpTo}
use Rattle.kp_machine.specs.Slots.{targets_of}
use Rattle.kp_page.specs.{States.change_lines, inner.Seen.seen, inner.Seen.seen_before}
use Rattle.kp_page.proofs.states.write_changes.Given as goal

abbrev pub invariant-loop-decl : goal.invariant-loop-decl
invariant-loop-decl g l = record {
  text : WrittenUpTo (change_lines 0 (seen_before l.is_first l.job.design.job l.before) (seen l.job.design.job l.now) l.decls)
      (change_lines l.t (seen_before l.is_first l.job.design.job l.before) (seen l.job.design.job l.now) (drop l.decl-index l.decls))
      (g.K.Sink.held l.initial.sink) (g.K.Sink.held l.sink);
  later : g.K.Sink.faults l.initial.sink ≤ g.K.Sink.faults l.sink;
  counted : drop l.t (targets_of l.decls) ≡ targets_of (drop l.decl-index l.decls);
  few : l.t ≤ l.decl-index;
}
