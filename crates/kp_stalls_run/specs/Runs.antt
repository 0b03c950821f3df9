-- THE LINES OF A JOB.
use Rattle.std.specs.Prelude.{ℕ, zero, suc, ◌==◌, ◌&&◌, List, Option, Some, None, Bool, true, length, get_or, map, if◌then◌else◌}
use Rattle.kp_bits.specs.Word.{Word}
use Rattle.kp_ast.specs.declared.tree.Job.{Job}
use Rattle.kp_pipeline.specs.{Pipeline.PipelineState, Pipeline.pipeline_start, Rows.state_after}
use Rattle.kp_diagram.specs.Claims.{stalls_of}
use Rattle.kp_stage.specs.Start.{input, start_of}
use Rattle.kp_machine.specs.Machine.{inputs_from, machine_of, pipe_of, start_hints, state_of, taken_of, values_in}
use Rattle.kp_machine.specs.Slots.{sample_stages}
use Rattle.kp_stalls.specs.declared.cause.{Cause.Cause, Cause.TheVariants.Squashed, Guess.Guess, Line.Line}
use Rattle.kp_stalls.specs.{Claims.read_site, Occupants.report, Cycles.lines_from}
use Rattle.kp_sites.specs.Sites.{sited}
use Rattle.kp_stalls_run.specs.Guessed.{guessed_word}
use Rattle.kp_pipeline.specs.Machine.{Samples}

-- Sample x, if it is one of stage k, has in cycle T the value that instruction i takes.
abbrev pub settles : Job → Samples → (T k i x : ℕ) → Bool
settles job given T k i x =
    if get_or (sample_stages job.decls) x job.stages.value == k then values_in (input job T) x == given i x else true

-- the first n samples
abbrev pub settles_to : Job → Samples → (T k i n : ℕ) → Bool
settles_to job given T k i zero = true
settles_to job given T k i (suc n) = settles_to job given T k i n && settles job given T k i n

-- The samples of stage k have in cycle T the values that instruction i takes.
abbrev pub settled : Job → Samples → (T k i : ℕ) → Bool
settled job given T k i = settles_to job given T k i (length (sample_stages job.decls))

-- The sample values that the instructions take in a run of n cycles under the job's own stall words and samples.
abbrev pub given_in : (cycles : ℕ) → Job → Samples
given_in n job = taken_of job (inputs_from job 0 n)

-- The lines of that run, without the values that were guessed.
abbrev pub run_lines : ℕ → Job → List Line
run_lines n job =
    lines_from (sited job) (stalls_of (inputs_from job 0 n)) (settled job (given_in n job)) (report job (given_in n job)) 0 (λ k. 0)
    (pipe_of job (inputs_from job 0 n)).rows

-- THE GUESSED VALUES. The state of the pipelined machine after T cycles.
abbrev pub state_at : Job → ℕ → PipelineState
state_at job T = state_after (machine_of job) (pipeline_start (state_of job (start_of job)) (start_hints job)) (inputs_from job 0 T) T

-- the value that stage k holds in cycle T as its guess of read i
abbrev pub guessed_in : Job → (T k i : ℕ) → Option Word
guessed_in job T k i = guessed_word job (read_site job i).target ((state_at job T).stage k).pending

-- A guess with this value. It is no wrong guess if the stage doesn't hold it, or if it is the value of its register.
abbrev pub guess_with : Guess → Option Word → Option Guess
guess_with g None = None
guess_with g (Some w) = if w.value == g.value.value then None else Some (record { read = g.read; guessed = Some w; value = g.value; producer = g.producer })

abbrev pub wrong_with : Job → (T k : ℕ) → Option Guess → Option Guess
wrong_with job T k None = None
wrong_with job T k (Some g) = guess_with g (guessed_in job T k g.read)

abbrev pub cause_with : Job → (T k : ℕ) → Cause → Cause
cause_with job T k (Squashed w) = Squashed (record { last = w.last; guess = wrong_with job T k w.guess })
cause_with job T k c = c

abbrev pub line_with : Job → Line → Line
line_with job l = record { cycle = l.cycle; number = l.number; stage = l.stage; cause = cause_with job l.cycle l.stage l.cause }

-- THE LINES of that run.
abbrev pub job_stalls : ℕ → Job → List Line
job_stalls n job = map (line_with job) (run_lines n job)
