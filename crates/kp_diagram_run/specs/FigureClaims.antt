-- WHAT A FIGURE SHOWS of the run of a pipelined machine, by the laws of diagrams.
use Rattle.std.specs.Prelude.{◌≡◌, ℕ, ◌-◌, ◌<◌, List, Option, None, length, get_or}
use Rattle.kp_ast.specs.declared.tree.Job.{Job}
use Rattle.kp_stage.specs.Start.{start_of}
use Rattle.kp_pipeline.specs.{Machine.Machine, Pipeline.Inputs, Pipeline.pipeline_start, Rows.passed, Rows.pipe}
use Rattle.kp_diagram.specs.Claims.{Counts, HasReasons, Holds, IsSpentFor, Shows, cycles_of, numbers_from}
use Rattle.kp_diagram.specs.Diagram.{Loss, retired_numbers}
use Rattle.kp_machine.specs.Machine.{inputs_from, machine_of, start_hints, state_of}
use Rattle.kp_diagram_text.specs.Figures.{Figure}
use Rattle.kp_pipeline.specs.Machine.{State}

-- The figure shows a run of a machine, from a start state by target and address and start values of the hints, under these inputs.
--
-- A fetch of instruction i has a cell in cycle T and stage k exactly where stage k is full in that cycle and holds instruction i
-- (`cells`, `all`). The mark of a cell has its reason in the machine (`marks`). The fetches that retire have the numbers 0, 1, 2 and so on, as
-- many as the account says (`retired`), and these are the instructions that leave the last stage (`leaving`).
--
-- The account adds up: the instructions that retired and all losses are the cycles of the run (`total`). Each cycle is counted under its
-- cause: there is a list of what the cycles were spent for (`spent`, `many`) in which each cycle has its cause in the machine (`causes`), and the
-- account counts its entries (`counted`).
pub record ShowsPipe (m : Machine) (s : State) (hints : ℕ → ℕ) (ins : List Inputs) (f : Figure) : Type 0 where
  pub stages : f.stages ≡ m.stages
  pub cycles : f.cycles ≡ length ins
  pub cells : (i T k : ℕ) → Shows f.fetches i T k → Holds m.stages (pipe m s hints ins).rows i T k
  pub all : (i T k : ℕ) → Holds m.stages (pipe m s hints ins).rows i T k → Shows f.fetches i T k
  pub marks : HasReasons m (pipeline_start s hints) ins f.fetches
  pub retired : retired_numbers f.stages f.fetches ≡ numbers_from 0 f.account.retired
  pub leaving : f.account.retired ≡ passed (pipe m s hints ins).rows (m.stages - 1) f.cycles
  pub total : cycles_of f.account ≡ f.cycles
  pub spent : List (Option Loss)
  pub many : length spent ≡ f.cycles
  pub causes : (T : ℕ) → T < f.cycles → IsSpentFor m (pipeline_start s hints) ins T (m.stages - 1) (get_or spent T None)
  pub counted : Counts f.account spent

-- The figure shows the run of the pipelined machine of a job over n cycles, from its start and under its own stall words and samples.
abbrev pub ShowsRun : Job → ℕ → Figure → Type 0
ShowsRun job n f = ShowsPipe (machine_of job) (state_of job (start_of job)) (start_hints job) (inputs_from job 0 n) f
