-- THE OUTCOME OF `debug`, for a job and the script after its `end`.
use Rattle.std.specs.Prelude.{ℕ, List, Ok, Err, Result}
use Rattle.kp_base.specs.declared.refusal.Refusal.{Refusal}
use Rattle.kp_ast.specs.declared.tree.Job.{Job}
use Rattle.kp_debug_script.specs.{declared.command.Command.Command, Scripts.script_of}
use Rattle.kp_debug.specs.Inspecting.{debug_text}
use Rattle.kp_frontend.specs.Judging.{JudgesHead}
use Rattle.kp_report.specs.Texts.{refusal_line}
use Rattle.kp_tool.specs.Saying.{Says}

-- the outcome for a script of a job: what its commands print, or the first of E39 to E41 that it violates
abbrev pub DueOfScript : Job → Result (List Command) Refusal → ℕ → List ℕ → Type 0
DueOfScript job (Ok commands) = Says 0 (debug_text job commands)
DueOfScript job (Err refusal) = Says 2 (refusal_line refusal)

-- the outcome for a verdict on the job: a rule of the job comes before those of the script, which starts where the job ends
abbrev pub DueOfScriptHead : List ℕ → Result (Job × ℕ) Refusal → ℕ → List ℕ → Type 0
DueOfScriptHead input (Ok (job, rest)) status text = DueOfScript job (script_of job.decls input rest) status text
DueOfScriptHead input (Err refusal) status text = Says 2 (refusal_line refusal) status text

-- the outcome of `debug` on an input
abbrev pub DueOfDebug : List ℕ → ℕ → List ℕ → Type 0
DueOfDebug input status text = (verdict : Result (Job × ℕ) Refusal) × JudgesHead input verdict × DueOfScriptHead input verdict status text
