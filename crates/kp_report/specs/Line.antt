-- The line that reports the run of a generated job: the size of the machine, how many cycles it ran, how many instructions retired, how many cycles
-- accepted none, and the sum of its registers after them.
use Rattle.std.specs.Prelude.{ℕ, ◌+◌, ◌-◌, ◌%◌, ◌^◌, List, [], ◌∷◌, ◌++◌, length, codes, decimal}
use Rattle.kp_ast.specs.declared.tree.{Decl.Decl, Job.Job}
use Rattle.kp_ast.specs.declared.tree.Decl.TheVariants as decls
use Rattle.kp_pipeline.specs.Rows.{Row, passed}
use Rattle.kp_stage.specs.Counts.{summary_of}
use Rattle.kp_machine.specs.Machine.{pipe_of, inputs_from}
use Rattle.kp_sched.specs.Runs.{due_value}
use Rattle.kp_report.specs.{Runs.counts_behind, States.State, States.targets_in, declared.line.Totals.Totals}
use Rattle.kp_gen.specs.Generated.{gen_job}

-- the value that a declaration adds to the sum: that of a register, and otherwise 0
abbrev pub summand : Decl → ℕ → ℕ
summand (decls.Reg n width start) v = v
summand _ v = 0

-- the sum of the registers' values in a state, where the first of these targets has number t
abbrev pub registers_sum : ℕ → State → List Decl → ℕ
registers_sum t state [] = 0
registers_sum t state (d ∷ ds) = summand d (state t 0) + registers_sum (t + targets_in d) state ds

-- the totals of a job with these rows, followed by this state: `waits` counts the cycles in which stage 0 accepted no instruction
abbrev pub totals_of : Job → List Row → State → Totals
totals_of job rows state = record {
  stages = job.stages.value;
  registers = (summary_of job).regs;
  cycles = length rows;
  retired = counts_behind job.stages.value rows (job.stages.value - 1);
  waits = length rows - passed rows 0 (length rows);
  sum = registers_sum 0 state job.decls % 2 ^ 64;
}

-- `gen 0 stages 10 registers 12`
unfoldable pub machine_words : ℕ → Totals → List ℕ
machine_words number t = codes "gen " ++ decimal number ++ codes " stages " ++ decimal t.stages ++ codes " registers " ++ decimal t.registers

-- ` cycles 1 retired 0 waits 0 sum 78`
unfoldable pub run_words : Totals → List ℕ
run_words t =
    codes " cycles " ++ decimal t.cycles ++ codes " retired " ++ decimal t.retired ++ codes " waits " ++ decimal t.waits ++ codes " sum " ++ decimal t.sum
    ++ codes "\n"

-- all in one line, with the number of the job
abbrev pub totals_line : ℕ → Totals → List ℕ
totals_line number t = machine_words number t ++ run_words t

-- GEN TEXT: the line of the generated job over the given number of cycles of its own stall words: from the rows of its pipelined machine, and the
-- values of the sequential machine after as many instructions as are completed in these rows.
unfoldable pub gen_text : ℕ → ℕ → List ℕ
gen_text number count =
    let job = gen_job number in
    let ins = inputs_from job 0 count in
    let rows = (pipe_of job ins).rows in
    totals_line number (totals_of job rows (due_value job ins rows count))
