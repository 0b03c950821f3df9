use Rattle.std.proofs.Common.{◌≡◌, length, drop}
use Rattle.kp_sched.specs.Rows.{rows_seen}
use Rattle.kp_diagram.specs.{Diagram.account_from, Diagram.spent_from, Claims.cycles_of}
use Rattle.kp_diagram_text.{specs.Charts.ext_of, specs.Charts.rows_of, specs.Losses.account_shown, specs.Losses.losses_shown, proofs.Accounts.onto}
use Rattle.kp_diagram_text.proofs.account.account_after.Given as goal

abbrev pub invariant-loop-cycle : goal.invariant-loop-cycle
invariant-loop-cycle l = record {
  length : length l.losses ≡ 12;
  sum : cycles_of (account_shown l.account) ≡ l.cycle;
  so_far : onto (spent_from l.last (ext_of l.chart) l.cycle (losses_shown l.losses) (rows_seen l.chart.stages (drop l.cycle l.chart.rows.now))) (account_shown l.account)
      ≡ account_from l.last (ext_of l.chart) 0 (losses_shown l.initial.losses) (rows_of l.chart);
}
