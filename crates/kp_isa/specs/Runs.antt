-- What is said of each processor.
use Rattle.std.specs.Prelude.{◌≡◌, ℕ, ◌+◌, ◌-◌, ◌*◌, ◌^◌, ◌<◌, ◌≤◌, List, All, false, length}
use Rattle.kp_ast.specs.{Expressions.is_same_name, declared.tree.Image.Image, declared.tree.Job.Job}
use Rattle.kp_lex.specs.declared.token.Lexed.{Lexed}
use Rattle.kp_stage.specs.Start.{start_of}
use Rattle.kp_pipeline.specs.{Claims.Moves, Claims.stall_free_cycles, Pipeline.Inputs, Rows.Trace, Rows.passed}
use Rattle.kp_machine.specs.{Machine.machine_of, Machine.state_of, Slots.targets_of, Words.target}
use Rattle.kp_implements.specs.Legal.{IsLegalFrom}
use Rattle.kp_frontend.specs.Judging.{IsSentenceOf}
use Rattle.kp_described.specs.Sections.{IsWith, HasSections}
use Rattle.kp_pipeline.specs.Machine.{State}

-- the values of registers and files at the start of a job, with what its image section puts there
abbrev pub start_state : Job → State
start_state job = state_of job (start_of job)

-- each value is one of its register's or file's width
abbrev pub Fits : Job → State → Type 0
Fits job s = (t a : ℕ) → t < length (targets_of job.decls) → s t a < 2 ^ (target job t).width

-- no entry of an image section has this name
abbrev pub Leaves : List ℕ → List Image → Type 0
Leaves name image = All (λ (e : Image). is_same_name e.name.name name ≡ false) image

-- Any n stall-free cycles of a machine of n stages retire an instruction: between the times T and U there are at most n - 1 more of them than n times the
-- instructions that leave the last stage.
abbrev pub Retires : ℕ → List Inputs → Trace → Type 0
Retires n ins trace =
    (T U : ℕ) → T ≤ U → U ≤ length trace.rows
    → stall_free_cycles n ins U - stall_free_cycles n ins T ≤ n * (passed trace.rows (n - 1) U - passed trace.rows (n - 1) T) + (n - 1)

-- A PROCESSOR: each text that begins with the head describes the job, with some sections; each legal run of it, from values that are ready, follows the
-- instruction set; and a run that moves retires instructions.
pub record IsProcessor (head : List ℕ) (base : Job) (Ready : State → Type 0) (Follows : State → Trace → Type 0) : Type 0 where
  pub text : (input : List ℕ) (lexed : Lexed) (job : Job) → IsWith head input → IsSentenceOf input lexed job → HasSections base job
  pub runs : (job : Job) (s : State) (ins : List Inputs) (trace : Trace) → HasSections base job → Fits job s → IsLegalFrom job s ins trace → Ready s → Follows s trace
  pub retires : (job : Job) (ins : List Inputs) (trace : Trace) → HasSections base job → Moves (machine_of job) ins trace → Retires base.stages.value ins trace
