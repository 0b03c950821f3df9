-- The text of `timing N`: a line for each cycle, and one for the totals.
use Rattle.std.specs.Prelude.{ℕ, zero, suc, ◌+◌, ◌-◌, List, [], ◌++◌, Option, Some, None, Bool, codes, decimal, if◌then◌else◌}
use Rattle.kp_ast.specs.declared.tree.Job.{Job}
use Rattle.kp_pipeline.specs.{Machine.Machine, Pipeline.Inputs, Rows.bits, Rows.one_if}
use Rattle.kp_pipeline.specs.Timeline.{waits, moves_on, next_hold, start_hold}
use Rattle.kp_stage.specs.Start.{start_of}
use Rattle.kp_machine.specs.Machine.{machine_of, state_of, inputs_at}
use Rattle.kp_sched.specs.Lines.{digits}
use Rattle.kp_pipeline.specs.Machine.{Holds, State}

-- the instruction in a stage
abbrev pub held_text : Option ℕ → List ℕ
held_text None = codes "-"
held_text (Some i) = decimal i

-- the instructions in n stages from k on, each after a space
abbrev pub holds_text : Holds → ℕ → ℕ → List ℕ
holds_text hold zero k = []
holds_text hold (suc n) k = codes " " ++ held_text (hold k) ++ holds_text hold n (suc k)

-- `cycle 1 at 1 0 - wait 100 go 010`: the instructions in the stages before the cycle, which stages wait, and which move on
unfoldable pub timing_line : ℕ → ℕ → Holds → (ℕ → Bool) → (ℕ → Bool) → List ℕ
timing_line cycle n hold wait go =
    codes "cycle " ++ decimal cycle ++ codes " at" ++ holds_text hold n 0 ++ codes " wait " ++ digits (bits wait n 0) ++ codes " go "
    ++ digits (bits go n 0) ++ codes "\n"

-- `retired 2 waits 2`: how many instructions moved out of the last stage, and in how many cycles stage 0 didn't move
unfoldable pub total_line : ℕ → ℕ → List ℕ
total_line retired waited = codes "retired " ++ decimal retired ++ codes " waits " ++ decimal waited ++ codes "\n"

-- n cycles from one on, of the timeline with these instructions in the stages, where `retired` instructions were retired before and stage 0 stayed in
-- `waited` cycles
abbrev pub timing_from : Machine → State → (ℕ → Inputs) → ℕ → ℕ → Holds → ℕ → ℕ → List ℕ
timing_from m s inputs zero cycle hold retired waited = total_line retired waited
timing_from m s inputs (suc n) cycle hold retired waited =
    timing_line cycle m.stages hold (waits m s hold (inputs cycle)) (moves_on m s hold (inputs cycle))
    ++ timing_from m s inputs n (cycle + 1) (next_hold m s hold (inputs cycle))
    (retired + one_if (moves_on m s hold (inputs cycle) (m.stages - 1)))
    (waited + (if moves_on m s hold (inputs cycle) 0 then 0 else 1))

-- the text of n cycles of a job under its own stall words
unfoldable pub timing_text : Job → ℕ → List ℕ
timing_text job n = timing_from (machine_of job) (state_of job (start_of job)) (inputs_at job) n 0 start_hold 0 0
