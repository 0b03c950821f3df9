-- The status is 2 exactly if the input violates a rule of the language, and the text names the first one.
use Rattle.std.proofs.Common.{ap, sym, ◌≡◌, ℕ, List, Some, None, Ok, Err, inl, inr, subst, refl, arith}
use Rattle.std.specs.declared.{option.Option.Option, result.Result.Result}
use Rattle.kp_base.specs.declared.refusal.Refusal.{Refusal}
use Rattle.kp_ast.specs.declared.tree.Job.{Job}
use Rattle.kp_words.specs.declared.commands.Command.{Command}
use Rattle.kp_words.specs.declared.commands.Command.TheVariants.{OnJob, Assemble, Read, Watch, Compare, Debug, Generate}
use Rattle.kp_words.specs.declared.commands.JobCommand.{JobCommand, TheVariants.Timing}
use Rattle.kp_frontend.proofs.Verdicts.{one_verdict, one_head}
use Rattle.kp_net.specs.Netlist.{Net}
use Rattle.kp_report.specs.Texts.{refusal_line}
use Rattle.kp_timing.specs.Unfit.{untimed}
use Rattle.kp_tool.specs.{Due.DueFor, Due.DueOfJob, Due.DueOfTiming, Due.DueOfProgram, Due.program_of, Read.DueOfVerilog, Read.read_over, Read.read_within}
use Rattle.kp_tool.specs.Refused.{Breaks, own_rule}
use Rattle.kp_tool.specs.Watched.{DueOfText, DueOfNetlist, of_other, of_job, agrees, differs}
use Rattle.kp_tool.specs.{Compared.DueOfPair, Compared.DueOfSecond, Compared.DueOfFirst, Scripted.DueOfScript}
use Rattle.kp_equiv.specs.declared.verdict.Verdict.TheVariants.{Same, Differs}
use Rattle.kp_debug_script.specs.{declared.command.Command.Command as Step, Scripts.script_of}

-- status 2 for an accepted job means that it violates the command's own rule
of_timing : (count : ℕ) (job : Job) (text : List ℕ) (found : Option Refusal) → untimed job ≡ found → DueOfTiming count job found 2 text
    → (refusal : Refusal) × (untimed job ≡ Some refusal) × (text ≡ refusal_line refusal)
of_timing count job text (Some refusal) is said = (refusal, is, said.1)
of_timing count job text None is said = absurd (omega (arith, said.0))

of_own : (command : JobCommand) (job : Job) (text : List ℕ) → DueOfJob command job 2 text
    → (refusal : Refusal) × (own_rule command job ≡ Some refusal) × (text ≡ refusal_line refusal)
of_own (Timing count) job text said = of_timing count job text (untimed job) refl said
of_own _ job text said = absurd (omega (arith, said.0))

-- and it always comes then
two_of_timing : (count : ℕ) (job : Job) (status : ℕ) (text : List ℕ) (refusal : Refusal) (found : Option Refusal) → found ≡ Some refusal → DueOfTiming count job found status text → status ≡ 2
two_of_timing count job status text refusal (Some broken) is said = said.0
two_of_timing count job status text refusal None is said = cc is

two_of_own : (command : JobCommand) (job : Job) (status : ℕ) (text : List ℕ) (refusal : Refusal) → own_rule command job ≡ Some refusal → DueOfJob command job status text → status ≡ 2
two_of_own (Timing count) job status text refusal is said = two_of_timing count job status text refusal (untimed job) is said
two_of_own _ job status text refusal is said = cc is

-- an accepted netlist has another status
not_of_verilog : (verdict : Result Net Refusal) (text : List ℕ) → DueOfVerilog verdict 2 text → ⊥
not_of_verilog (Ok net) text said = omega (arith, said.0)
not_of_verilog (Err refusal) text said = omega (arith, said.0)

not_of_netlist : (n : ℕ) (job : Job) (net : Net) (text : List ℕ) → DueOfNetlist n job net 2 text → ⊥
not_of_netlist n job net text (of_other other said) = omega (arith, said.0)
not_of_netlist n job net text (of_job is (agrees all said)) = omega (arith, said.0)
not_of_netlist n job net text (of_job is (differs T t a first said)) = omega (arith, said.0)

not_of_text : (n : ℕ) (job : Job) (verdict : Result Net Refusal) (text : List ℕ) → DueOfText n job verdict 2 text → ⊥
not_of_text n job (Ok net) text said = not_of_netlist n job net text said
not_of_text n job (Err refusal) text said = omega (arith, said.0)

not_of_pair : (a b : Net) (text : List ℕ) → DueOfPair a b 2 text → ⊥
not_of_pair a b text (Same, is, said) = omega (arith, said.0)
not_of_pair a b text (Differs root, is, said) = omega (arith, said.0)

not_of_second : (a : Net) (verdict : Result Net Refusal) (text : List ℕ) → DueOfSecond a verdict 2 text → ⊥
not_of_second a (Ok b) text said = not_of_pair a b text said
not_of_second a (Err refusal) text said = omega (arith, said.0)

not_of_first : (job : Job) (input : List ℕ) (middle : ℕ) (verdict : Result Net Refusal) (text : List ℕ) → DueOfFirst job input middle verdict 2 text → ⊥
not_of_first job input middle (Ok a) text (verdict, read, said) = not_of_second a verdict text said
not_of_first job input middle (Err refusal) text said = omega (arith, said.0)

-- a script is rejected by the first rule that it violates
of_script : (job : Job) (found : Result (List Step) Refusal) (text : List ℕ) → DueOfScript job found 2 text → (refusal : Refusal) × (found ≡ Err refusal) × (text ≡ refusal_line refusal)
of_script job (Ok commands) text said = absurd (omega (arith, said.0))
of_script job (Err refusal) text said = (refusal, refl, said.1)

of_program : (found : Result (List ℕ) Refusal) (text : List ℕ) → DueOfProgram found 2 text → (refusal : Refusal) × (found ≡ Err refusal) × (text ≡ refusal_line refusal)
of_program (Ok words) text said = absurd (omega (arith, said.0))
of_program (Err refusal) text said = (refusal, refl, said.1)

pub refused_by_a_rule : (command : Command) (input text : List ℕ) → DueFor (Some command) input 2 text
    → (refusal : Refusal) × Breaks command input refusal × (text ≡ refusal_line refusal)
refused_by_a_rule (OnJob command) input text (Ok job, judged, said) = let own = of_own command job text said in (own.0, inr (job, judged, own.1), own.2)
refused_by_a_rule (OnJob command) input text (Err refusal, judged, said) = (refusal, inl judged, said.1)
refused_by_a_rule Assemble input text said = of_program (program_of input) text said
refused_by_a_rule Read input text (read_over long said) = (_, (long, refl), said.1)
refused_by_a_rule Read input text (read_within verdict short read said) = absurd (not_of_verilog verdict text said)
refused_by_a_rule (Watch n) input text (Ok (job, rest), judged, (verdict, read, said)) = absurd (not_of_text n job verdict text said)
refused_by_a_rule (Watch n) input text (Err refusal, judged, said) = (refusal, judged, said.1)
refused_by_a_rule Compare input text (Ok (job, rest), judged, (middle, ends, (verdict, read, said))) = absurd (not_of_first job input middle verdict text said)
refused_by_a_rule Compare input text (Err refusal, judged, said) = (refusal, judged, said.1)
refused_by_a_rule Debug input text (Ok (job, rest), judged, said) =
    let broken = of_script job (script_of job.decls input rest) text said in
    (broken.0, inr (job, rest, judged, broken.1), broken.2)
refused_by_a_rule Debug input text (Err refusal, judged, said) = (refusal, inl judged, said.1)
refused_by_a_rule (Generate number count) input text said = absurd (omega (arith, said.0))

two_of_program : (found : Result (List ℕ) Refusal) (status : ℕ) (text : List ℕ) (refusal : Refusal) → DueOfProgram found status text → found ≡ Err refusal → status ≡ 2
two_of_program (Ok words) status text refusal said is = cc is
two_of_program (Err broken) status text refusal said is = said.0

two_of_script : (job : Job) (found : Result (List Step) Refusal) (status : ℕ) (text : List ℕ) (refusal : Refusal) → DueOfScript job found status text → found ≡ Err refusal → status ≡ 2
two_of_script job (Ok commands) status text refusal said is = cc is
two_of_script job (Err broken) status text refusal said is = said.0

-- the script of the only head that an input has
two_of_same : (job other : Job) (rest begin : ℕ) (input : List ℕ) (status : ℕ) (text : List ℕ) (refusal : Refusal) → job ≡ other → rest ≡ begin
    → DueOfScript job (script_of job.decls input rest) status text → script_of other.decls input begin ≡ Err refusal → status ≡ 2
two_of_same job other rest begin input status text refusal same begins said broken =
    two_of_script job (script_of job.decls input rest) status text refusal said
    (subst (λ (j : Job). script_of j.decls input rest ≡ Err refusal) (sym same) (subst (λ (n : ℕ). script_of other.decls input n ≡ Err refusal) (sym begins) broken))

pub refused_where_broken : (command : Command) (input : List ℕ) (status : ℕ) (text : List ℕ) (refusal : Refusal) → DueFor (Some command) input status text
    → Breaks command input refusal → status ≡ 2
refused_where_broken (OnJob command) input status text refusal (Ok job, judged, said) (inl broken) = cc (one_verdict input _ _ judged broken)
refused_where_broken (OnJob command) input status text refusal (Ok job, judged, said) (inr (other, judged_too, own)) =
    let same : other ≡ job = cc (one_verdict input _ _ judged_too judged) in
    two_of_own command job status text refusal (subst (λ (j : Job). own_rule command j ≡ Some refusal) same own) said
refused_where_broken (OnJob command) input status text refusal (Err other, judged, said) broken = said.0
refused_where_broken Assemble input status text refusal said broken = two_of_program (program_of input) status text refusal said broken
refused_where_broken Read input status text refusal (read_over long said) broken = said.0
refused_where_broken Read input status text refusal (read_within verdict short read said) broken = absurd (omega (arith, broken.0))
refused_where_broken (Watch n) input status text refusal (Ok found, judged, said) broken = cc (one_head input _ _ judged broken)
refused_where_broken (Watch n) input status text refusal (Err other, judged, said) broken = said.0
refused_where_broken Compare input status text refusal (Ok found, judged, said) broken = cc (one_head input _ _ judged broken)
refused_where_broken Compare input status text refusal (Err other, judged, said) broken = said.0
refused_where_broken Debug input status text refusal (Ok (job, rest), judged, said) (inl broken) = cc (one_head input _ _ judged broken)
refused_where_broken Debug input status text refusal (Ok (job, rest), judged, said) (inr (other, begin, judged_too, broken)) =
    let one = one_head input _ _ judged judged_too in
    let pair : (job, rest) ≡ (other, begin) = cc one in
    two_of_same job other rest begin input status text refusal (ap (λ (p : Job × ℕ). p.0) pair) (ap (λ (p : Job × ℕ). p.1) pair) said broken
refused_where_broken Debug input status text refusal (Err other, judged, said) broken = said.0
refused_where_broken (Generate number count) input status text refusal said broken = absurd broken
