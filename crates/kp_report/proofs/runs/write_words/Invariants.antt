use Rattle.std.proofs.Common.{◌-◌, ◌≤◌}
use Rattle.kp_base.specs.inner.Bytes.{WrittenUpTo}
use Rattle.kp_machine.specs.Words.{target}
use Rattle.kp_run.specs.Boards.{due_behind}
use Rattle.kp_report.specs.States.{lines_of_words}
use Rattle.kp_report.proofs.runs.write_words.Given as goal

abbrev pub invariant-loop-address : goal.invariant-loop-address
invariant-loop-address g l = record {
  text : WrittenUpTo (lines_of_words l.name (target l.board.design.now.job l.t).width l.behind (due_behind l.board.design.now.job l.board.cycles.rows.items l.t) 0 l.count)
      (lines_of_words l.name (target l.board.design.now.job l.t).width l.behind (due_behind l.board.design.now.job l.board.cycles.rows.items l.t) l.address (l.count - l.address))
      (g.K.Sink.held l.initial.sink) (g.K.Sink.held l.sink);
  later : g.K.Sink.faults l.initial.sink ≤ g.K.Sink.faults l.sink;
}
