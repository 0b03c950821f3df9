-- THE OUTCOME OF `equiv`, for a job and the netlists that the two Verilog texts after its `end` denote.
use Rattle.std.specs.Prelude.{ℕ, List, take, drop, Ok, Err, Result}
use Rattle.kp_base.specs.declared.refusal.Refusal.{Refusal}
use Rattle.kp_ast.specs.declared.tree.Job.{Job}
use Rattle.kp_net.specs.Netlist.{Net}
use Rattle.kp_implements.specs.Shows.{IsOfJob}
use Rattle.kp_vlog.specs.Splitting.{FirstEnds}
use Rattle.kp_equiv.specs.declared.verdict.Verdict.{Verdict, TheVariants.Same, TheVariants.Differs}
use Rattle.kp_equiv.specs.{Verdicts.IsVerdict, Texts.verdict_line}
use Rattle.kp_frontend.specs.Judging.{JudgesHead}
use Rattle.kp_report.specs.Texts.{refusal_line}
use Rattle.kp_tool.specs.{Saying.Says, Read.ReadsVerilog, Watched.wrong_netlist}

-- the status of a verdict
abbrev pub verdict_status : Verdict → ℕ
verdict_status Same = 0
verdict_status (Differs root) = 7

-- the outcome for two netlists: all their roots agree, or the first root that doesn't
abbrev pub DueOfPair : Net → Net → ℕ → List ℕ → Type 0
DueOfPair a b status text = (verdict : Verdict) × IsVerdict a b verdict × Says (verdict_status verdict) (verdict_line a b verdict) status text

-- what the rules V1 to V6 decide about the module that starts at an offset of a text: its netlist, if it is one of the job, or the first rule that it
-- violates
pub data ReadsModule (job : Job) (text : List ℕ) (from : ℕ) : Result Net Refusal → Type 0 where
  -- V1 to V5
  misread : {refusal : Refusal} → ReadsVerilog text from (Err refusal) → ReadsModule job text from (Err refusal)
  -- V6
  not_jobs : {net : Net} → ReadsVerilog text from (Ok net) → (IsOfJob net job → ⊥) → ReadsModule job text from (Err wrong_netlist)
  jobs : {net : Net} → ReadsVerilog text from (Ok net) → IsOfJob net job → ReadsModule job text from (Ok net)

-- the outcome for a verdict on the second module, given the netlist of the first
abbrev pub DueOfSecond : Net → Result Net Refusal → ℕ → List ℕ → Type 0
DueOfSecond a (Ok b) status text = DueOfPair a b status text
DueOfSecond a (Err refusal) status text = Says 6 (refusal_line refusal) status text

-- the outcome for a verdict on the first module: all rules are checked on it before any is checked on the second, which starts where the first one
-- ends
abbrev pub DueOfFirst : Job → List ℕ → ℕ → Result Net Refusal → ℕ → List ℕ → Type 0
DueOfFirst job input middle (Ok a) status text = (verdict : Result Net Refusal) × ReadsModule job input middle verdict × DueOfSecond a verdict status text
DueOfFirst job input middle (Err refusal) status text = Says 6 (refusal_line refusal) status text

-- the outcome for two modules after a job
abbrev pub DueOfModules : Job → List ℕ → (rest middle : ℕ) → ℕ → List ℕ → Type 0
DueOfModules job input rest middle status text =
    (verdict : Result Net Refusal) × ReadsModule job (take middle input) rest verdict × DueOfFirst job input middle verdict status text

-- the outcome for a verdict on the job: a rule of the job comes before those of the texts
abbrev pub DueOfPairHead : List ℕ → Result (Job × ℕ) Refusal → ℕ → List ℕ → Type 0
DueOfPairHead input (Ok (job, rest)) status text = (middle : ℕ) × FirstEnds rest (drop rest input) middle × DueOfModules job input rest middle status text
DueOfPairHead input (Err refusal) status text = Says 2 (refusal_line refusal) status text

-- the outcome of `equiv` on an input
abbrev pub DueOfCompare : List ℕ → ℕ → List ℕ → Type 0
DueOfCompare input status text = (verdict : Result (Job × ℕ) Refusal) × JudgesHead input verdict × DueOfPairHead input verdict status text
