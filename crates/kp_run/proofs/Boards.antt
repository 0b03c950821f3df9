-- The machines after a run have the specified values.
use Rattle.std.proofs.Common.{◌≡◌, ◌∙◌, ℕ, ◌<◌, ◌^◌, List, length, get_or, ap, sym, subst, arith}
use Rattle.std.proofs.lemmas.Grind.{get_or_default_zero}
use Rattle.kp_base.specs.declared.row.Row.{Row}
use Rattle.kp_ast.specs.declared.tree.Job.{Job}
use Rattle.kp_pipeline.specs.{Accepted.Accepted, Rows.taken}
use Rattle.kp_pipeline.specs.Rows as law
use Rattle.kp_stage.specs.Start.{input, AreSamples}
use Rattle.kp_machine.specs.{Machine.machine_of, Machine.sequential, Machine.inputs_from, Machine.values_in, Slots.Slot, Slots.targets_of}
use Rattle.kp_machine.specs.Words.{HasWord, no_slot}
use Rattle.kp_sched.{specs.Rows.rows_seen, specs.Runs.passes, specs.Runs.due_value, proofs.Counting.seen_length}
use Rattle.kp_seq.specs.Running.{Running, state}
use Rattle.kp_run.specs.{Boards.due_behind, inner.Boards.IsBoard, Columns.Taken, Columns.row_taken, Columns.AreColumns, Homes.AreHomes, Homes.home_of}
use Rattle.kp_run.{specs.inner.Lanes.HaveRun, specs.inner.Lanes.lane_state, proofs.Gathering.taken_is}
use Rattle.kp_run.proofs.Machines.{homes_within, home_passes, home_shows, lane_at}

pub board_is : (job : Job) (rows : List Row) (columns : List Taken) (machines : List Running) (homes : List ℕ) → Accepted (machine_of job)
    → ((cycle : ℕ) → AreSamples job.decls (input job cycle)) → AreColumns job rows columns
    → HaveRun job (λ i. values_in (row_taken columns i)) (rows_seen job.stages.value rows) machines → AreHomes job homes → IsBoard job rows machines homes
unfolding due_value
board_is job rows columns machines homes acc given are ran shown =
    let seen : List law.Row = rows_seen job.stages.value rows in
    let many : length seen ≡ length rows = seen_length job.stages.value rows in
    record {
      homes = shown;
      count = λ t. omega (arith, homes_within job acc t, ran.count);
      jobs = ran.jobs;
      passes = λ t. home_passes job seen acc (length seen) t ∙ ap (λ (T : ℕ). passes job seen T t) many;
      values = λ t a.
          home_shows job seen acc (λ i. values_in (row_taken columns i)) machines ran t a
          ∙ ap (λ (g : ℕ → ℕ → ℕ). sequential job g (passes job seen (length seen) t) t a) (taken_is job rows columns given are)
          ∙ ap (λ (T : ℕ). sequential job (taken (machine_of job) (inputs_from job 0 T) seen) (passes job seen T t) t a) many;
    }

module _ (job : Job) (rows : List Row) (machines : List Running) (homes : List ℕ) (is : IsBoard job rows machines homes) where
  -- the machine at the home of a target
  pub home_at : (t d : ℕ) → t < length (targets_of job.decls) → get_or homes t d ≡ home_of job t
  home_at t d h =
      let there : t < length homes = omega (arith, h, is.homes.count) in
      get_or_default_zero homes t d there ∙ is.homes.homes t there

  pub machine_shows : (k t a : ℕ) (d : Running) → k ≡ home_of job t → state (get_or machines k d) t a ≡ due_behind job rows t a
  machine_shows k t a d at =
      let there : k < length machines = omega (arith, at, is.count t) in
      ap (λ (s : ℕ → ℕ → ℕ). s t a) (sym (lane_at machines k d there) ∙ ap (lane_state machines) at) ∙ is.values t a
