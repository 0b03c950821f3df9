use Rattle.std.proofs.Common.{◌≡◌, ℕ, ◌+◌, ◌<◌, ◌++◌, get_or, length}
use Rattle.kp_stage.specs.Start.{stall_word}
use Rattle.kp_pipeline.specs.Rows.{counts}
use Rattle.kp_sched.specs.Rows.{rows_seen}
use Rattle.kp_net.specs.Netlist.{run}
use Rattle.kp_run.specs.Cycles.{HasRows, after_cycles, inputs_to}
use Rattle.kp_diagram_run.specs.inner.Words.{words_to}
use Rattle.kp_diagram_run.proofs.window.recorded.Given as goal

abbrev pub invariant-loop-cycle : goal.invariant-loop-cycle
invariant-loop-cycle l =
    let job = l.job.design.job in
    let net = l.initial.sim.net in
    let all = (run net (inputs_to job l.from)).rows ++ l.rows.items in
    record {
      at : l.sim ≡ after_cycles job net (l.from + l.cycle);
      room : length l.room ≡ length l.initial.room;
      has : HasRows job net (l.from + l.cycle) all l.monitor;
      count : length l.rows.items ≡ l.cycle;
      words : l.words.items ≡ words_to (λ T. stall_word job (l.from + T)) l.cycle;
      numbered : length l.numbers.items ≡ l.cycle;
      numbers : (T : ℕ) → T < l.cycle → get_or l.numbers.items T 0 ≡ counts job.stages.value (rows_seen job.stages.value all) (l.from + T) 0;
    }
