-- A sequential machine that runs: its present state.
use Rattle.std.specs.Prelude.{ℕ, List}
use Rattle.kp_bits.specs.Word.{Word, word}
use Rattle.kp_ast.specs.declared.tree.Job.{Job}
use Rattle.kp_machine.specs.Words.{target, state_in}
use Rattle.kp_seq.specs.Recorded.{Recorded}
use Rattle.kp_pipeline.specs.Machine.{State}

-- a job, the words of the targets of its machine, and the record of the last recorded instruction, which is unspecified before the first
pub record Running : Type 0 where
  pub job : Job
  pub words : List (List ℕ)
  pub last : Recorded

-- the present state of a machine
abbrev pub state : Running → State
state m = state_in m.words

-- a value of a target as a word of its width
abbrev pub word_shown : Running → ℕ → ℕ → Word
word_shown m t a = word (target m.job t).width (state m t a)
