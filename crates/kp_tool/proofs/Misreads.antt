-- The status is 6 exactly if the Verilog of the input violates a rule, and the text names the first one.
use Rattle.std.proofs.Common.{◌≡◌, ℕ, List, take, Some, None, Ok, Err, inl, inr, subst, arith}
use Rattle.std.specs.declared.{option.Option.Option, result.Result.Result}
use Rattle.kp_base.specs.declared.refusal.Refusal.{Refusal}
use Rattle.kp_ast.specs.declared.tree.Job.{Job}
use Rattle.kp_net.specs.Netlist.{Net}
use Rattle.kp_implements.specs.Shows.{IsOfJob}
use Rattle.kp_vlog.proofs.Ends.{one_end}
use Rattle.kp_words.specs.declared.commands.Command.{Command}
use Rattle.kp_words.specs.declared.commands.Command.TheVariants.{OnJob, Assemble, Read, Watch, Compare, Debug, Generate}
use Rattle.kp_words.specs.declared.commands.JobCommand.{JobCommand, TheVariants.Timing}
use Rattle.kp_frontend.{specs.Judging.JudgesHead, proofs.Verdicts.one_head}
use Rattle.kp_report.specs.Texts.{refusal_line}
use Rattle.kp_timing.specs.Unfit.{untimed}
use Rattle.kp_equiv.specs.declared.verdict.Verdict.TheVariants.{Same, Differs}
use Rattle.kp_debug_script.specs.{declared.command.Command.Command as Step, Scripts.script_of}
use Rattle.kp_tool.specs.{Due.DueFor, Due.DueOfJob, Due.DueOfTiming, Due.DueOfProgram, Due.program_of, Read.ReadsVerilog, Read.DueOfVerilog, Read.read_over, Read.read_within}
use Rattle.kp_tool.specs.Watched.{DueOfText, of_other, of_job, agrees, differs}
use Rattle.kp_tool.specs.Compared.{DueOfPair, DueOfSecond, DueOfFirst, DueOfModules, DueOfPairHead, ReadsModule, misread, not_jobs}
use Rattle.kp_tool.specs.{Scripted.DueOfScript, Misread.MisreadsModules, Misread.MisreadsPair, Misread.Misreads}
use Rattle.kp_tool.proofs.Outcomes.{one_reading, one_module_reading}

-- ---- status 6 names a rule

not_of_timing : (count : ℕ) (job : Job) (text : List ℕ) (found : Option Refusal) → DueOfTiming count job found 6 text → ⊥
not_of_timing count job text (Some refusal) said = omega (arith, said.0)
not_of_timing count job text None said = omega (arith, said.0)

not_of_job : (command : JobCommand) (job : Job) (text : List ℕ) → DueOfJob command job 6 text → ⊥
not_of_job (Timing count) job text said = not_of_timing count job text (untimed job) said
not_of_job _ job text said = omega (arith, said.0)

not_of_program : (found : Result (List ℕ) Refusal) (text : List ℕ) → DueOfProgram found 6 text → ⊥
not_of_program (Ok words) text said = omega (arith, said.0)
not_of_program (Err refusal) text said = omega (arith, said.0)

not_of_script : (job : Job) (found : Result (List Step) Refusal) (text : List ℕ) → DueOfScript job found 6 text → ⊥
not_of_script job (Ok commands) text said = omega (arith, said.0)
not_of_script job (Err refusal) text said = omega (arith, said.0)

not_of_pair : (a b : Net) (text : List ℕ) → DueOfPair a b 6 text → ⊥
not_of_pair a b text (Same, is, said) = omega (arith, said.0)
not_of_pair a b text (Differs root, is, said) = omega (arith, said.0)

of_verilog : (input : List ℕ) (verdict : Result Net Refusal) (text : List ℕ) → ReadsVerilog input 0 verdict → DueOfVerilog verdict 6 text
    → (refusal : Refusal) × ReadsVerilog input 0 (Err refusal) × (text ≡ refusal_line refusal)
of_verilog input (Ok net) text read said = absurd (omega (arith, said.0))
of_verilog input (Err refusal) text read said = (refusal, read, said.1)

-- a netlist after a job
of_text : (n : ℕ) (job : Job) (input : List ℕ) (rest : ℕ) (verdict : Result Net Refusal) (text : List ℕ) → ReadsVerilog input rest verdict
    → DueOfText n job verdict 6 text → (refusal : Refusal) × ReadsModule job input rest (Err refusal) × (text ≡ refusal_line refusal)
of_text n job input rest (Ok net) text read (of_other other said) = (_, not_jobs read other, said.1)
of_text n job input rest (Ok net) text read (of_job is (agrees all said)) = absurd (omega (arith, said.0))
of_text n job input rest (Ok net) text read (of_job is (differs T t a first said)) = absurd (omega (arith, said.0))
of_text n job input rest (Err refusal) text read said = (refusal, misread read, said.1)

-- two modules after a job
of_modules : (job : Job) (input : List ℕ) (rest middle : ℕ) (text : List ℕ) → DueOfModules job input rest middle 6 text
    → (refusal : Refusal) × MisreadsModules job input rest middle refusal × (text ≡ refusal_line refusal)
of_modules job input rest middle text (Err refusal, read, said) = (refusal, inl read, said.1)
of_modules job input rest middle text (Ok a, read, (Err refusal, second, said)) = (refusal, inr (a, read, second), said.1)
of_modules job input rest middle text (Ok a, read, (Ok b, second, due)) = absurd (not_of_pair a b text due)

pub misread_by_a_rule : (command : Command) (input text : List ℕ) → DueFor (Some command) input 6 text
    → (refusal : Refusal) × Misreads command input refusal × (text ≡ refusal_line refusal)
misread_by_a_rule (OnJob command) input text (Ok job, judged, said) = absurd (not_of_job command job text said)
misread_by_a_rule (OnJob command) input text (Err refusal, judged, said) = absurd (omega (arith, said.0))
misread_by_a_rule Assemble input text said = absurd (not_of_program (program_of input) text said)
misread_by_a_rule Read input text (read_over long said) = absurd (omega (arith, said.0))
misread_by_a_rule Read input text (read_within verdict short read said) =
    let found = of_verilog input verdict text read said in
    (found.0, (short, found.1), found.2)
misread_by_a_rule (Watch n) input text (Ok (job, rest), judged, (verdict, read, due)) =
    let found = of_text n job input rest verdict text read due in
    (found.0, (job, rest, judged, found.1), found.2)
misread_by_a_rule (Watch n) input text (Err refusal, judged, said) = absurd (omega (arith, said.0))
misread_by_a_rule Compare input text (Ok (job, rest), judged, (middle, ends, due)) =
    let found = of_modules job input rest middle text due in
    (found.0, (job, rest, judged, (middle, ends, found.1)), found.2)
misread_by_a_rule Compare input text (Err refusal, judged, said) = absurd (omega (arith, said.0))
misread_by_a_rule Debug input text (Ok (job, rest), judged, said) = absurd (not_of_script job (script_of job.decls input rest) text said)
misread_by_a_rule Debug input text (Err refusal, judged, said) = absurd (omega (arith, said.0))
misread_by_a_rule (Generate number count) input text said = absurd (omega (arith, said.0))

-- ---- and it comes whenever one is violated

six_of_verilog : (verdict : Result Net Refusal) (status : ℕ) (text : List ℕ) (refusal : Refusal) → verdict ≡ Err refusal → DueOfVerilog verdict status text → status ≡ 6
six_of_verilog (Ok net) status text refusal is said = cc is
six_of_verilog (Err other) status text refusal is said = said.0

-- the netlist of a text that is one of the job's, or isn't
same_net : (job : Job) (input : List ℕ) (rest : ℕ) (a b : Net) → ReadsVerilog input rest (Ok a) → ReadsVerilog input rest (Ok b) → IsOfJob a job → IsOfJob b job
same_net job input rest a b read again is =
    let same : a ≡ b = cc (one_reading input rest (Ok a) (Ok b) read again) in
    subst (λ (n : Net). IsOfJob n job) same is

six_of_text : (n : ℕ) (job : Job) (input : List ℕ) (rest : ℕ) (verdict : Result Net Refusal) (status : ℕ) (text : List ℕ) (refusal : Refusal)
    → ReadsVerilog input rest verdict → DueOfText n job verdict status text → ReadsModule job input rest (Err refusal) → status ≡ 6
six_of_text n job input rest (Err other) status text refusal read said broken = said.0
six_of_text n job input rest (Ok net) status text refusal read (of_other other said) broken = said.0
six_of_text n job input rest (Ok net) status text refusal read (of_job is due) (misread p) = cc (one_reading input rest (Ok net) (Err refusal) read p)
six_of_text n job input rest (Ok net) status text refusal read (of_job is due) (not_jobs {net = a} p other) =
    absurd (other (same_net job input rest net a read p is))

six_of_second : (a : Net) (verdict : Result Net Refusal) (status : ℕ) (text : List ℕ) (refusal : Refusal) → verdict ≡ Err refusal → DueOfSecond a verdict status text → status ≡ 6
six_of_second a (Ok b) status text refusal is due = cc is
six_of_second a (Err other) status text refusal is said = said.0

six_of_first : (job : Job) (input : List ℕ) (rest middle : ℕ) (verdict : Result Net Refusal) (status : ℕ) (text : List ℕ) (refusal : Refusal)
    → ReadsModule job (take middle input) rest verdict → DueOfFirst job input middle verdict status text → MisreadsModules job input rest middle refusal → status ≡ 6
six_of_first job input rest middle (Err other) status text refusal read said broken = said.0
six_of_first job input rest middle (Ok a) status text refusal read (verdict, second, due) (inl first) =
    cc (one_module_reading job (take middle input) rest (Ok a) (Err refusal) read first)
six_of_first job input rest middle (Ok a) status text refusal read (verdict, second, due) (inr (b, first, broken)) =
    six_of_second a verdict status text refusal (one_module_reading job input middle verdict (Err refusal) second broken) due

six_of_pair : (input : List ℕ) (job : Job) (rest : ℕ) (status : ℕ) (text : List ℕ) (refusal : Refusal)
    → DueOfPairHead input (Ok (job, rest)) status text → MisreadsPair input job rest refusal → status ≡ 6
six_of_pair input job rest status text refusal (middle, ends, (verdict, read, due)) (other, there, broken) =
    six_of_first job input rest middle verdict status text refusal read due
    (subst (λ (m : ℕ). MisreadsModules job input rest m refusal) (one_end there ends) broken)

-- an input has one head
same_head : (input : List ℕ) (job other : Job) (rest begin : ℕ) → JudgesHead input (Ok (job, rest)) → JudgesHead input (Ok (other, begin)) → ◌≡◌ {A = Job × ℕ} (other, begin) (job, rest)
same_head input job other rest begin judged again = cc (one_head input _ _ again judged)

pub misread_where_broken : (command : Command) (input : List ℕ) (status : ℕ) (text : List ℕ) (refusal : Refusal) → DueFor (Some command) input status text
    → Misreads command input refusal → status ≡ 6
misread_where_broken Read input status text refusal (read_over long said) broken = absurd (omega (arith, broken.0, long))
misread_where_broken Read input status text refusal (read_within verdict short read said) broken =
    six_of_verilog verdict status text refusal (one_reading input 0 verdict (Err refusal) read broken.1) said
misread_where_broken (Watch n) input status text refusal (Ok (job, rest), judged, (verdict, read, due)) (other, begin, again, broken) =
    six_of_text n job input rest verdict status text refusal read due
    (subst (λ (p : Job × ℕ). ReadsModule p.0 input p.1 (Err refusal)) (same_head input job other rest begin judged again) broken)
misread_where_broken (Watch n) input status text refusal (Err found, judged, said) (other, begin, again, broken) = cc (one_head input _ _ judged again)
misread_where_broken Compare input status text refusal (Ok (job, rest), judged, due) (other, begin, again, broken) =
    six_of_pair input job rest status text refusal due
    (subst (λ (p : Job × ℕ). MisreadsPair input p.0 p.1 refusal) (same_head input job other rest begin judged again) broken)
misread_where_broken Compare input status text refusal (Err found, judged, said) (other, begin, again, broken) = cc (one_head input _ _ judged again)
misread_where_broken (OnJob command) input status text refusal due broken = absurd broken
misread_where_broken Assemble input status text refusal due broken = absurd broken
misread_where_broken Debug input status text refusal due broken = absurd broken
misread_where_broken (Generate number count) input status text refusal due broken = absurd broken
