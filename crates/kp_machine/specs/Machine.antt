-- The machine of a job: the abstract machine that its declarations and blocks describe, with its start state and its inputs.
use Rattle.std.specs.Prelude.{ℕ, zero, suc, ◌-◌, max, List, [], ◌∷◌, length, take, Option, Some, None, Bool, true, is_some, ◌==◌, get_or, map, slice_get, slice_index, if◌then◌else◌}
use Rattle.std.specs.List.{filter}
use Rattle.kp_bits.specs.Word.{Word}
use Rattle.kp_ast.specs.declared.tree.{Named.Named, ResultDecl.ResultDecl, Decl.Decl, Job.Job}
use Rattle.kp_ast.specs.declared.tree.Decl.TheVariants as decls
use Rattle.kp_stage.specs.{Facts.At, Facts.Facts, Facts.facts_of, Facts.stmts_in, Start.start_of, Start.is_stalled, Start.stalls_of, Start.input}
use Rattle.kp_stage.specs.declared.start.Start.{Start}
use Rattle.kp_pipeline.specs.{Machine.Machine, Machine.Tree, Pipeline.Inputs, Rows.Trace, Rows.pipe, Rows.taken, Sequential.seq}
use Rattle.kp_machine.specs.Slots.{Slot, targets_of, pipes_of, hints_of, sample_stages, number_of, is_register, result_to}
use Rattle.kp_machine.specs.Trees.{entered, tree_of}
use Rattle.kp_pipeline.specs.Machine.{Samples, State}

-- What stage k does, given the values of the samples and of the pipes.
unfoldable pub stage_tree : Job → ℕ → (ℕ → ℕ) → (ℕ → ℕ) → Tree
stage_tree job k samples pipes = tree_of job.decls (entered job.decls samples pipes) (stmts_in (slice_get job.blocks k))

-- The result of a target: the first that names it.
unfoldable pub result_for : Job → ℕ → Option ResultDecl
result_for job t = result_to (targets_of job.decls) job.decls t

abbrev pub write_stage_of : Option ResultDecl → ℕ
write_stage_of None = 0
write_stage_of (Some r) = r.stage.value

-- The first stage after the put of a pipe, and 0 if it isn't put.
abbrev pub after_put : Option At → ℕ
after_put None = 0
after_put (Some at) = suc at.stage

abbrev pub known_after : Facts → Option Named → ℕ
known_after facts None = 0
known_after facts (Some pipe) = after_put (facts.put pipe.name)

-- The intent of a result is known after the puts of its address and its enable pipe.
abbrev pub known_from_of : Facts → Option ResultDecl → ℕ
known_from_of facts None = 0
known_from_of facts (Some r) = max (known_after facts r.address) (known_after facts r.enable)

-- The value of a pipe among these pipes.
abbrev pub pipe_value : List Slot → (ℕ → ℕ) → Named → ℕ
pipe_value pipes values pipe = values (number_of pipes pipe.name)

-- A result is enabled if its enable pipe is 1, or if it has none.
abbrev pub is_enabled_by : List Slot → (ℕ → ℕ) → Option Named → Bool
is_enabled_by pipes values None = true
is_enabled_by pipes values (Some pipe) = pipe_value pipes values pipe == 1

-- It writes at the address in its address pipe. A register is written at address 0.
abbrev pub address_by : List Slot → (ℕ → ℕ) → Option Named → ℕ
address_by pipes values None = 0
address_by pipes values (Some pipe) = pipe_value pipes values pipe

abbrev pub enabled_of : List Slot → (ℕ → ℕ) → Option ResultDecl → Bool
enabled_of pipes values None = true
enabled_of pipes values (Some r) = is_enabled_by pipes values r.enable

abbrev pub address_in : List Slot → (ℕ → ℕ) → Option ResultDecl → ℕ
address_in pipes values None = 0
address_in pipes values (Some r) = address_by pipes values r.address

-- The stage that aims a hint, and 0 if none does.
abbrev pub stage_or_zero : Option At → ℕ
stage_or_zero None = 0
stage_or_zero (Some at) = at.stage

abbrev pub aim_stage : Facts → Option Slot → ℕ
aim_stage facts None = 0
aim_stage facts (Some hint) = stage_or_zero (facts.aim hint.name)

-- The machine of a job. No stage uses an undeclared sample.
unfoldable pub machine_of : Job → Machine
machine_of job = record {
  stages = job.stages.value;
  body = λ k samples pipes. stage_tree job k samples pipes;
  sample_stage = λ x. get_or (sample_stages job.decls) x job.stages.value;
  hint_stage = λ h. aim_stage (facts_of job) (slice_get (hints_of job.decls) h);
  has_result = λ t. is_some (result_for job t);
  write_stage = λ t. write_stage_of (result_for job t);
  known_from = λ t. known_from_of (facts_of job) (result_for job t);
  enabled = λ t pipes. enabled_of (pipes_of job.decls) pipes (result_for job t);
  address = λ t pipes. address_in (pipes_of job.decls) pipes (result_for job t);
  last_guessed = (facts_of job).top;
}

-- How many of the targets before number t are registers, and how many are files.
abbrev pub registers_before : List Slot → ℕ → ℕ
registers_before targets t = length (filter is_register (take t targets))

abbrev pub files_before : List Slot → ℕ → ℕ
files_before targets t = t - registers_before targets t

-- The words of a register, which has one, and those of a file.
abbrev pub register_words : Option Word → List ℕ
register_words None = []
register_words (Some w) = w.value ∷ []

abbrev pub file_words : Option (List ℕ) → List ℕ
file_words None = []
file_words (Some words) = words

-- The words of the target of number t in a state that has the values of the registers and the words of the files, each in the
-- order of declaration.
abbrev pub target_words : List Slot → Start → ℕ → Option Slot → List ℕ
target_words targets state t None = []
target_words targets state t (Some s) =
    if is_register s
    then register_words (slice_get state.regs (registers_before targets t))
    else file_words (slice_get state.files (files_before targets t))

-- The value of target number t at an address in such a state, or 0 if there is no such word.
unfoldable pub state_of : Job → Start → State
state_of job state t a =
    let targets = targets_of job.decls in
    slice_index (target_words targets state t (slice_get targets t)) a

-- The start values of the hints, in the order of declaration.
abbrev pub hint_starts : List Decl → List ℕ
hint_starts [] = []
hint_starts (decls.Hint n width start ∷ ds) = start.literal.value ∷ hint_starts ds
hint_starts (_ ∷ ds) = hint_starts ds

abbrev pub start_hints : Job → ℕ → ℕ
start_hints job h = slice_index (hint_starts job.decls) h

-- The values of the samples in a list of words, and 0 past its end.
abbrev pub values_in : List Word → ℕ → ℕ
values_in row x = slice_index (map (λ w. w.value) row) x

-- The external inputs of a cycle: the stall word from the stalls section, and the sample values from the inputs section.
abbrev pub inputs_at : Job → ℕ → Inputs
inputs_at job cycle = record { ext = λ k. is_stalled (stalls_of job) k cycle; samples = values_in (input job cycle) }

-- The inputs of n cycles from this one on.
abbrev pub inputs_from : Job → ℕ → ℕ → List Inputs
inputs_from job cycle zero = []
inputs_from job cycle (suc n) = inputs_at job cycle ∷ inputs_from job (suc cycle) n

-- The state of the sequential machine of a job after i instructions, where instruction j has the sample values `given j`.
abbrev pub sequential : Job → Samples → (instructions : ℕ) → State
sequential job given i = seq (machine_of job) (state_of job (start_of job)) given i

-- The run of the pipelined machine of a job with these inputs.
abbrev pub pipe_of : Job → List Inputs → Trace
pipe_of job inputs = pipe (machine_of job) (state_of job (start_of job)) (start_hints job) inputs

-- The sample values that its instructions take in that run, `taken_of job inputs i x` for instruction i and sample x:
-- the value that the sample has in the cycle in which the instruction leaves the sample's stage.
abbrev pub taken_of : Job → List Inputs → Samples
taken_of job inputs = taken (machine_of job) inputs (pipe_of job inputs).rows
