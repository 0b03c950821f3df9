-- UPPER BOUNDS on the number of nodes of each part.
use Rattle.std.specs.Prelude.{ℕ, ◌+◌, ◌*◌, length}
use Rattle.kp_ast.specs.declared.tree.Job.{Job}
use Rattle.kp_machine.specs.Slots.{targets_of, samples_of}
use Rattle.kp_synth_registers.specs.Keys.{keys_of}
use Rattle.kp_synth.specs.Stages.{stages_room}

-- the nodes that read registers, samples and the stall word
abbrev pub reading_room : Job → ℕ
reading_room job = length (keys_of job) + length (samples_of job.decls) + 1

-- those of the stages, which are most of them
unfoldable pub inside_room : Job → ℕ
inside_room job = stages_room job 0 job.stages.value + 1

-- and those that close the netlist
abbrev pub closing_room : Job → ℕ
closing_room job = 159 + 9 * length (keys_of job) + 9 * length (targets_of job.decls)
