-- WHAT THE DEBUGGER PRINTS about a run: each command leads from the current cycle to another one, and prints something about that one.
use Rattle.std.specs.Prelude.{◌≡◌, ℕ, zero, suc, ◌+◌, ◌-◌, ◌<◌, ◌==◌, min, List, [], ◌∷◌, ◌++◌, length, All, Bool, true, if◌then◌else◌, Option, None, Some, slice_get, codes, decimal}
use Rattle.kp_bits.specs.Word.{Word}
use Rattle.kp_ast.specs.declared.tree.Job.{Job}
use Rattle.kp_pipeline.specs.Rows.{Row, Trace}
use Rattle.kp_machine.specs.{Machine.pipe_of, Machine.inputs_from, Slots.targets_of, Slots.is_register, Words.target}
use Rattle.kp_sched.specs.Lines.{row_line}
use Rattle.kp_debug_script.specs.declared.command.Command.{Command}
use Rattle.kp_debug_script.specs.declared.command.Command.TheVariants as commands
use Rattle.kp_report.specs.States.{state_lines, no_counts}

-- ---- the cycle that a command leads to

-- the target has this value at address 0, which is the value of a register
abbrev pub has_value : Trace → ℕ → Word → ℕ → Bool
has_value trace t v cycle = trace.visible cycle t 0 == v.value

-- the first cycle in which the condition is true, of this one and n more, or the last of them
abbrev pub first_from : (ℕ → Bool) → (from count : ℕ) → ℕ
first_from holds cycle zero = cycle
first_from holds cycle (suc n) = if holds cycle then cycle else first_from holds (cycle + 1) n

-- n cycles on, at most to the end of the run
abbrev pub ahead : Trace → (cycle count : ℕ) → ℕ
ahead trace cycle n = min (cycle + n) (length trace.rows)

abbrev pub reached : Trace → ℕ → Command → ℕ
reached trace cycle (commands.Step n) = ahead trace cycle n
reached trace cycle (commands.Back n) = cycle - n
reached trace cycle (commands.Until t v n) = first_from (has_value trace t v) cycle (ahead trace cycle n - cycle)
reached trace cycle commands.Show = cycle
reached trace cycle commands.Row = cycle

-- ---- what it prints there

-- `hit 3`, or `none 9`
abbrev pub found_word : Bool → List ℕ
found_word hit = if hit then codes "hit " else codes "none "

unfoldable pub hit_line : Bool → ℕ → List ℕ
hit_line hit cycle = found_word hit ++ decimal cycle ++ codes "\n"

-- `at 5`
unfoldable pub at_line : ℕ → List ℕ
at_line cycle = codes "at " ++ decimal cycle ++ codes "\n"

-- after the last cycle there is no row
abbrev pub row_or_end : ℕ → Option Row → List ℕ
row_or_end cycle (Some row) = row_line cycle row
row_or_end cycle None = codes "end\n"

-- the registers and files, without the numbers of instructions
abbrev pub shown : Job → Trace → ℕ → List ℕ
shown job trace cycle = at_line cycle ++ state_lines 0 no_counts (trace.visible cycle) job.decls

abbrev pub printed_by : Job → Trace → ℕ → Command → List ℕ
printed_by job trace cycle (commands.Step n) = []
printed_by job trace cycle (commands.Back n) = []
printed_by job trace cycle (commands.Until t v n) = hit_line (has_value trace t v cycle) cycle
printed_by job trace cycle commands.Show = shown job trace cycle
printed_by job trace cycle commands.Row = row_or_end cycle (slice_get trace.rows cycle)

-- ---- all commands, from a cycle on

abbrev pub printed : Job → Trace → ℕ → List Command → List ℕ
printed job trace cycle [] = []
printed job trace cycle (c ∷ cs) = printed_by job trace (reached trace cycle c) c ++ printed job trace (reached trace cycle c) cs

-- the cycle in which they end
abbrev pub ends_in : Trace → ℕ → List Command → ℕ
ends_in trace cycle [] = cycle
ends_in trace cycle (c ∷ cs) = ends_in trace (reached trace cycle c) cs

-- the register of an `until` is one of the job
abbrev pub IsOfTargets : Job → Command → Type 0
IsOfTargets job (commands.Until t v n) = (t < length (targets_of job.decls)) × (is_register (target job t) ≡ true)
IsOfTargets job _ = Unit {0}

abbrev pub AreOfJob : Job → List Command → Type 0
AreOfJob job commands = All (IsOfTargets job) commands

-- ---- the run of a job

-- the number of cycles of a run of the debugger
unfoldable pub all_cycles : ℕ
all_cycles = 100000

-- under the job's own stall words and samples
unfoldable pub whole_run : Job → Trace
whole_run job = pipe_of job (inputs_from job 0 all_cycles)

-- DEBUG TEXT
abbrev pub debug_text : Job → List Command → List ℕ
debug_text job commands = printed job (whole_run job) 0 commands

-- a job, and the current cycle
pub record Inspected : Type 0 where
  pub job : Job
  pub cycle : ℕ
