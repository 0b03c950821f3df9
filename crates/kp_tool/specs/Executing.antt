-- WHAT IS WRITTEN AND SHOWN OF A PROCESSOR: of each text that begins with its head, up to its first section.
use Rattle.std.specs.Prelude.{ℕ, List, Some}
use Rattle.kp_ast.specs.declared.tree.Job.{Job}
use Rattle.kp_pipeline.specs.{Pipeline.Inputs, Rows.Trace}
use Rattle.kp_words.specs.declared.commands.Command.TheVariants.{OnJob, Watch, Debug}
use Rattle.kp_words.specs.declared.commands.JobCommand.TheVariants.{Sim, Vcd, Pipe}
use Rattle.kp_described.specs.Sections.{IsWith}
use Rattle.kp_tool.specs.{Due.DueFor, Headline.IsVerilogWith, Headline.IsRunWith, Headline.IsDumpedWith, Headline.IsDebuggedWith, Headline.IsNetlistWith}
use Rattle.kp_pipeline.specs.Machine.{State}

-- What `pipe` writes has the fact from the start on, and from each reset on; what `sim N`, `vcd N` and `debug` show has that of a run from the start on; and
-- the run of another netlist that `watch N` shows has the last fact.
pub record ExecutesAs (From : Job → State → List Inputs → Trace → Type 0) (Runs Shows : Job → List Inputs → Trace → Type 0) (head : List ℕ) : Type 0 where
  pub pipe : (input text : List ℕ) → IsWith head input → DueFor (Some (OnJob Pipe)) input 0 text → IsVerilogWith From input text
  pub sim : (n : ℕ) (input text : List ℕ) → IsWith head input → DueFor (Some (OnJob (Sim n))) input 0 text → IsRunWith Runs n input text
  pub vcd : (n : ℕ) (input text : List ℕ) → IsWith head input → DueFor (Some (OnJob (Vcd n))) input 0 text → IsDumpedWith Runs n input text
  pub debug : (input text : List ℕ) → IsWith head input → DueFor (Some Debug) input 0 text → IsDebuggedWith Runs input text
  pub watch : (n : ℕ) (input text : List ℕ) → IsWith head input → DueFor (Some (Watch n)) input 0 text → IsNetlistWith Shows n input text
