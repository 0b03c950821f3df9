-- THE OUTCOME OF `watch N`, for a job and the netlist that the Verilog text after its `end` denotes.
use Rattle.std.specs.Prelude.{ℕ, List, ◌++◌, take, Ok, Err, Result}
use Rattle.kp_base.specs.{Refusal.v_rule, declared.refusal.Refusal.Refusal}
use Rattle.kp_bits.specs.Word.{word}
use Rattle.kp_ast.specs.declared.tree.Job.{Job}
use Rattle.kp_net.specs.Netlist.{Net}
use Rattle.kp_sched.specs.Lines.{row_lines}
use Rattle.kp_implements.specs.Shows.{IsOfJob}
use Rattle.kp_machine.specs.Words.{target}
use Rattle.kp_frontend.specs.Judging.{JudgesHead}
use Rattle.kp_watch.specs.Watching.{own_due, Agrees, IsFirstDifference}
use Rattle.kp_run.specs.Cycles.{own_trace}
use Rattle.kp_report.specs.{Texts.refusal_line, Texts.differs_line, Runs.run_text}
use Rattle.kp_tool.specs.{Saying.Says, Read.ReadsVerilog}

-- the rows of the netlist's own run, followed by the counts and the values of its registers and files
abbrev pub own_text : ℕ → Job → Net → List ℕ
own_text n job net = run_text job (own_trace job net n).rows ((own_trace job net n).visible n)

-- the rows of the cycles before T, and the line of target t at address a in the state at T
abbrev pub differing_text : ℕ → Job → Net → (cycle target address : ℕ) → List ℕ
differing_text n job net T t a =
    row_lines 0 (take T (own_trace job net n).rows)
    ++ differs_line T (target job t) a (word (target job t).width ((own_trace job net n).visible T t a)) (word (target job t).width (own_due job net n T t a))

-- the outcome for a run of n cycles: the complete run if it agrees with the sequential machine, and otherwise the run up to the first difference
pub data DueOfRun (n : ℕ) (job : Job) (net : Net) (status : ℕ) (text : List ℕ) : Type 0 where
  agrees : Agrees job net n → Says 0 (own_text n job net) status text → DueOfRun n job net status text
  differs : (T t a : ℕ) → IsFirstDifference job net n T t a → Says 7 (differing_text n job net T t a) status text → DueOfRun n job net status text

-- V6
abbrev pub wrong_netlist : Refusal
wrong_netlist = v_rule 6 (record { line = 1; col = 1 })

-- the outcome for a netlist and a job
pub data DueOfNetlist (n : ℕ) (job : Job) (net : Net) (status : ℕ) (text : List ℕ) : Type 0 where
  of_other : (IsOfJob net job → ⊥) → Says 6 (refusal_line wrong_netlist) status text → DueOfNetlist n job net status text
  of_job : IsOfJob net job → DueOfRun n job net status text → DueOfNetlist n job net status text

-- the outcome for a verdict on the Verilog text: a rule of V1 to V5 comes before V6
abbrev pub DueOfText : ℕ → Job → Result Net Refusal → ℕ → List ℕ → Type 0
DueOfText n job (Ok net) status text = DueOfNetlist n job net status text
DueOfText n job (Err refusal) status text = Says 6 (refusal_line refusal) status text

-- the outcome for a verdict on the job: a rule of the job comes before those of the text
abbrev pub DueOfHead : ℕ → List ℕ → Result (Job × ℕ) Refusal → ℕ → List ℕ → Type 0
DueOfHead n input (Ok (job, rest)) status text = (verdict : Result Net Refusal) × ReadsVerilog input rest verdict × DueOfText n job verdict status text
DueOfHead n input (Err refusal) status text = Says 2 (refusal_line refusal) status text

-- the outcome of `watch N` on an input
abbrev pub DueOfWatch : ℕ → List ℕ → ℕ → List ℕ → Type 0
DueOfWatch n input status text = (verdict : Result (Job × ℕ) Refusal) × JudgesHead input verdict × DueOfHead n input verdict status text
