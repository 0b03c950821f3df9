-- AN UPPER BOUND on the number of nodes of the stages, and the default for a stage that doesn't exist.
use Rattle.std.specs.Prelude.{ℕ, zero, suc, ◌+◌, ◌*◌, [], length}
use Rattle.kp_ast.specs.declared.tree.Job.{Job}
use Rattle.kp_machine.specs.Slots.{targets_of, pipes_of, hints_of}
use Rattle.kp_design.specs.Numbers.{guesses_of}
use Rattle.kp_synth_registers.specs.declared.outcome.Outcome.{Outcome}
use Rattle.kp_synth_stage.specs.Work.{stmts_at, costs_of}

-- The nodes for the guesses that may be pending in a stage: the truth of each is looked up in the stages above
abbrev pub guess_room : Job → ℕ → ℕ
guess_room job g = g * (20 * job.stages.value)

-- for a stage without what it adds to the targets, for a stage, and for d stages from k on
abbrev pub own_room : Job → ℕ → ℕ
own_room job k = costs_of job (stmts_at job k) + (length (pipes_of job.decls) + length (hints_of job.decls) + guess_room job (length (guesses_of job)) + 68)

abbrev pub stage_room : Job → ℕ → ℕ
stage_room job k = own_room job k + (20 * length (targets_of job.decls) + 1)

abbrev pub stages_room : Job → (from count : ℕ) → ℕ
stages_room job k zero = 0
stages_room job k (suc d) = stage_room job k + stages_room job (suc k) d

-- the default for the nodes of a stage that doesn't exist
abbrev pub no_outcome : Outcome
no_outcome = record { stall = record { 0 = 0 }; miss = record { 0 = 0 }; puts = []; sets = []; made = []; aims = [] }
