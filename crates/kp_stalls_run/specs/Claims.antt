-- WHAT THE LINES OF A JOB SAY of the run of its pipelined machine.
use Rattle.std.specs.{Prelude.◌≡◌, Prelude.ℕ, Prelude.◌<◌, Prelude.Some, List.All}
use Rattle.kp_bits.specs.Word.{Word}
use Rattle.kp_ast.specs.declared.tree.Job.{Job}
use Rattle.kp_stage.specs.Start.{start_of}
use Rattle.kp_pipeline.specs.RightPath.{IsRightFrom, Moment, held}
use Rattle.kp_machine.specs.Machine.{inputs_at, inputs_from, machine_of, sequential, start_hints, state_of}
use Rattle.kp_stalls.specs.declared.cause.{Cause.TheVariants.Squashed, Cause.TheVariants.Value, Guess.Guess, Line.Line, Wait.Wait, Wrong.Wrong}
use Rattle.kp_stalls.specs.{Claims.IsCause, Claims.read_site, Claims.run_moment, Occupants.value_before}
use Rattle.kp_stalls_run.specs.{Guessed.guessed_word, Runs.given_in, Runs.job_stalls}

-- The moment of cycle T in the run of n cycles under the job's own stall words and samples.
abbrev pub moment_in : ℕ → Job → ℕ → Moment
moment_in n job T = run_moment job (start_hints job) (inputs_from job 0 n) T

-- What a line claims of a guess that it names: in the cycle of the line its stage holds a guess of this register, with this value, and none with another
-- value. The register has another value in the sequential machine before the instruction, so the guess is wrong.
pub record IsWrongGuess (job : Job) (n : ℕ) (l : Line) (g : Guess) : Type 0 where
  pub guessed : Word
  pub recorded : g.guessed ≡ Some guessed
  pub held : guessed_word job (read_site job g.read).target ((moment_in n job l.cycle).state.stage l.stage).pending ≡ Some guessed
  pub value : g.value ≡ value_before job (sequential job (given_in n job) l.number) (read_site job g.read)
  pub wrong : guessed.value ≡ g.value.value → ⊥

-- What a line claims of its instruction: in the cycle of the line it is in the stage of the line. If the line names a wait, and in that cycle no
-- guess is wrong from this stage on, the wait has this cause: the stage that is named is the nearest that may write what is read, and isn't ready.
-- And a guess that it names is wrong.
pub record IsTrueOf (job : Job) (n : ℕ) (l : Line) : Type 0 where
  pub cycle : l.cycle < n
  pub there : held (moment_in n job l.cycle) l.stage ≡ Some l.number
  pub cause : (w : Wait) → l.cause ≡ Value w
      → IsRightFrom (machine_of job) (state_of job (start_of job)) (given_in n job) (moment_in n job l.cycle) (inputs_at job l.cycle) l.stage
      → IsCause job (given_in n job) (moment_in n job l.cycle) (inputs_at job l.cycle) l.stage w
  pub guess : (w : Wrong) (g : Guess) → l.cause ≡ Squashed w → w.guess ≡ Some g → IsWrongGuess job n l g

abbrev pub ShowCauses : Job → ℕ → Type 0
ShowCauses job n = All (IsTrueOf job n) (job_stalls n job)
