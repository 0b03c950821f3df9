-- WHAT AN INSTRUCTION COMPUTES: the values of its pipes, and its results.
use Rattle.std.specs.Prelude.{ℕ, ◌<◌, length, get_or, unwrap_or}
use Rattle.kp_ast.specs.declared.tree.Job.{Job}
use Rattle.kp_pipeline.specs.{Machine.State, Sequential.Instruction, Sequential.before_stage}
use Rattle.kp_machine.specs.{Machine.machine_of, Slots.Slot, Slots.pipes_of, Slots.targets_of, Words.no_slot}
use Rattle.kp_seq.specs.declared.computed.Computed.{Computed, TheVariants.Pipe, TheVariants.Result}

-- the value of a pipe, and the result of a target: 0 if no set of it was enabled
abbrev pub value_in : Instruction → Computed → ℕ
value_in c (Pipe p) = c.pipes p
value_in c (Result t) = unwrap_or (c.results t) 0

-- in the instruction on the state s with the sample values q, after its last stage
abbrev pub computed : Job → State → (ℕ → ℕ) → Computed → ℕ
computed job s q what = value_in (before_stage (machine_of job) s q (machine_of job).stages) what

-- the job has it
abbrev pub HasComputed : Job → Computed → Type 0
HasComputed job (Pipe p) = p < length (pipes_of job.decls)
HasComputed job (Result t) = t < length (targets_of job.decls)

-- the pipe, or the target
abbrev pub slot_for : Job → Computed → Slot
slot_for job (Pipe p) = get_or (pipes_of job.decls) p no_slot
slot_for job (Result t) = get_or (targets_of job.decls) t no_slot
