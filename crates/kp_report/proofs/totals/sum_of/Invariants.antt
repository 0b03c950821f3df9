use Rattle.std.proofs.Common.{◌≡◌, ◌≤◌, ◌+◌, ◌%◌, ◌^◌, drop}
use Rattle.kp_machine.specs.Slots.{targets_of}
use Rattle.kp_run.specs.Boards.{due_behind}
use Rattle.kp_report.specs.Line.{registers_sum}
use Rattle.kp_report.proofs.totals.sum_of.Given as goal

abbrev pub invariant-loop-decl : goal.invariant-loop-decl
invariant-loop-decl l = record {
  summed : (l.sum + registers_sum l.t (due_behind l.board.design.now.job l.board.cycles.rows.items) (drop l.decl-index l.decls)) % 2 ^ 64
      ≡ registers_sum 0 (due_behind l.board.design.now.job l.board.cycles.rows.items) l.decls % 2 ^ 64;
  counted : drop l.t (targets_of l.decls) ≡ targets_of (drop l.decl-index l.decls);
  few : l.t ≤ l.decl-index;
}
