-- The arguments and an input have exactly one specified outcome: one status with one text.
use Rattle.std.proofs.Common.{◌≡◌, ◌∙◌, ◌≤◌, ℕ, List, take, drop, Result, Ok, Err, Some, None, length, inl, inr, sym, subst, refl, ap, arith}
use Rattle.std.{proofs.lemmas.Bool.cases_lt, specs.Prelude.MatchOption, specs.declared.option.Option.Option}
use Rattle.kp_vread.{specs.Matching.first_mismatch, specs.declared.job_match.Mismatch.Mismatch, proofs.JobMatches.exact}
use Rattle.kp_base.specs.declared.refusal.Refusal.{Refusal}
use Rattle.kp_ast.specs.declared.tree.Job.{Job}
use Rattle.kp_stage.specs.Counts.{summary_of}
use Rattle.kp_asm.specs.Image.{image_text_of}
use Rattle.kp_words.specs.declared.commands.Command.{Command}
use Rattle.kp_words.specs.declared.commands.Command.TheVariants.{OnJob, Assemble, Read, Watch, Compare, Debug, Generate}
use Rattle.kp_words.specs.declared.commands.JobCommand.{JobCommand}
use Rattle.kp_words.specs.declared.commands.JobCommand.TheVariants.{Seq, Check, Sim, Pipe, Vcd, Timing}
use Rattle.kp_words.specs.Commands.{command_of}
use Rattle.kp_frontend.specs.Judging.{most_bytes, too_long, Judges, JudgesHead, JudgesHead.head_within}
use Rattle.kp_frontend.proofs.Verdicts.{one_verdict, some_verdict, one_head, some_head}
use Rattle.kp_report.specs.{Texts.bad_words, Texts.refusal_line, Texts.accepted_line, States.sequential_text, Runs.sim_text, Line.gen_text}
use Rattle.kp_vcd.specs.Dumps.{vcd_text}
use Rattle.kp_net.specs.Netlist.{Net}
use Rattle.kp_vlog.{specs.Canon.canon, specs.Rules.Fault, specs.Verdict.refusal_of, proofs.Unique.one_net, proofs.Unique.one_rule, proofs.Unique.no_rule}
use Rattle.kp_vlog.{specs.Splitting.FirstEnds, proofs.Ends.one_end, proofs.Ends.some_end}
use Rattle.kp_implements.specs.Shows.{IsOfJob}
use Rattle.kp_equiv.specs.{Verdicts.IsVerdict, Texts.verdict_line}
use Rattle.kp_equiv.proofs.Deciding.{one_verdict as one_comparison, some_verdict as some_comparison}
use Rattle.kp_timing.specs.{Unfit.untimed, Lines.timing_text}
use Rattle.kp_tool.specs.{Saying.Says, Due.Due, Due.DueFor, Due.DueOfJob, Due.DueOfTiming, Due.DueOfVerdict, Due.DueOfProgram, Due.program_of}
use Rattle.kp_tool.specs.Read.{ReadsVerilog, DueOfVerilog, DueOfRead, read_over, read_within}
use Rattle.kp_tool.specs.Compared.{verdict_status, DueOfPair, ReadsModule, misread, not_jobs, jobs, DueOfSecond, DueOfFirst, DueOfModules, DueOfPairHead}
use Rattle.kp_tool.specs.Scripted.{DueOfScript, DueOfScriptHead}
use Rattle.kp_tool.specs.Watched.{wrong_netlist, DueOfNetlist, of_other, of_job, DueOfText, DueOfHead}
use Rattle.kp_tool.proofs.{Pairs.first_right, Pairs.second_right, Pairs.comparable_pair, Readings.some_reading, Differences.said_of_run, Differences.run_said}
use Rattle.kp_debug_script.specs.{declared.command.Command.Command as Step, Scripts.script_of}
use Rattle.kp_debug.specs.Inspecting.{debug_text}

-- the texts are equal, except for those that `pipe` may print for a job
abbrev SameText : Option Command → List ℕ → List ℕ → Type 0
SameText command x y = (command ≡ Some (OnJob Pipe) → ⊥) → x ≡ y

-- a status with one text, and the outcome for a verdict of which there is one
abbrev One : (ℕ → List ℕ → Type 0) → Type 0
One D = (s t : ℕ) (x y : List ℕ) → D s x → D t y → (s ≡ t) × (x ≡ y)

says : (k : ℕ) (z : List ℕ) → One (Says k z)
says k z s t x y (a, b) (c, d) = (a ∙ sym c, b ∙ sym d)

by_verdict : {V : Type 0} (J : V → Type 0) (D : V → ℕ → List ℕ → Type 0) → ((v w : V) → J v → J w → v ≡ w) → ((v : V) → One (D v)) → One (λ s x. (v : V) × J v × D v s x)
by_verdict J D one said s t x y (v, a, b) (w, c, d) = said v s t x y b (subst (λ z. D z t y) (one w v c a) d)

said_of_timing : (count : ℕ) (job : Job) (found : Option Refusal) → One (DueOfTiming count job found)
said_of_timing count job (Some refusal) = says 2 (refusal_line refusal)
said_of_timing count job None = says 0 (timing_text job count)

said_of_job : (command : JobCommand) (job : Job) (s t : ℕ) (x y : List ℕ) → DueOfJob command job s x → DueOfJob command job t y → (s ≡ t) × SameText (Some (OnJob command)) x y
said_of_job (Timing count) job s t x y a b = let p = said_of_timing count job (untimed job) s t x y a b in (p.0, λ other. p.1)
said_of_job Pipe job s t x y (a, b) (c, d) = (a ∙ sym c, λ other. absurd (other refl))
said_of_job _ job s t x y a b = (a.0 ∙ sym b.0, λ other. a.1 ∙ sym b.1)

said_of_verdict : (command : JobCommand) (v : Result Job Refusal) (s t : ℕ) (x y : List ℕ) → DueOfVerdict command v s x → DueOfVerdict command v t y → (s ≡ t) × SameText (Some (OnJob command)) x y
said_of_verdict command (Ok job) s t x y a b = said_of_job command job s t x y a b
said_of_verdict command (Err refusal) s t x y (a, b) (c, d) = (a ∙ sym c, λ other. b ∙ sym d)

said_of_program : (p : Result (List ℕ) Refusal) → One (DueOfProgram p)
said_of_program (Ok words) = says 0 (image_text_of words)
said_of_program (Err refusal) = says 2 (refusal_line refusal)

-- a Verilog text denotes one netlist, or violates one first rule
pub one_reading : (input : List ℕ) (from : ℕ) (v w : Result Net Refusal) → ReadsVerilog input from v → ReadsVerilog input from w → v ≡ w
one_reading input from (Ok net) (Ok other) a b = ap Ok (one_net from (drop from input) net other a b)
one_reading input from (Ok net) (Err refusal) a b = absurd (no_rule from (drop from input) net b.0 a b.1)
one_reading input from (Err refusal) (Ok net) a b = absurd (no_rule from (drop from input) net a.0 b a.1)
one_reading input from (Err refusal) (Err other) a b =
    let same = one_rule from (drop from input) a.0 b.0 a.1 b.1 in
    ap Err (a.2 ∙ ap (λ (f : Fault). refusal_of input f) same ∙ sym b.2)

said_of_verilog : (v : Result Net Refusal) → One (DueOfVerilog v)
said_of_verilog (Ok net) = says 0 (canon net)
said_of_verilog (Err refusal) = says 6 (refusal_line refusal)

said_of_read : (input : List ℕ) → One (DueOfRead input)
said_of_read input s t x y (read_over h (a, b)) (read_over i (c, d)) = (a ∙ sym c, b ∙ sym d)
said_of_read input s t x y (read_over h a) (read_within v i r b) = absurd (omega arith)
said_of_read input s t x y (read_within v h r a) (read_over i b) = absurd (omega arith)
said_of_read input s t x y (read_within v h r a) (read_within w i q b) =
    said_of_verilog v s t x y a (subst (λ (z : Result Net Refusal). DueOfVerilog z t y) (one_reading input 0 w v q r) b)

-- a netlist and a job
said_of_netlist : (n : ℕ) (job : Job) (net : Net) → One (DueOfNetlist n job net)
said_of_netlist n job net s t x y (of_other h (a, b)) (of_other i (c, d)) = (a ∙ sym c, b ∙ sym d)
said_of_netlist n job net s t x y (of_other h a) (of_job i b) = absurd (h i)
said_of_netlist n job net s t x y (of_job h a) (of_other i b) = absurd (i h)
said_of_netlist n job net s t x y (of_job h a) (of_job i b) = said_of_run job net n s t x y a b

said_of_text : (n : ℕ) (job : Job) (v : Result Net Refusal) → One (DueOfText n job v)
said_of_text n job (Ok net) = said_of_netlist n job net
said_of_text n job (Err refusal) = says 6 (refusal_line refusal)

said_of_head : (n : ℕ) (input : List ℕ) (v : Result (Job × ℕ) Refusal) → One (DueOfHead n input v)
said_of_head n input (Ok (job, rest)) = by_verdict (ReadsVerilog input rest) (DueOfText n job) (one_reading input rest) (said_of_text n job)
said_of_head n input (Err refusal) = says 2 (refusal_line refusal)

-- two modules after a job: each has one verdict, and so has the pair
pub one_module_reading : (job : Job) (text : List ℕ) (from : ℕ) (v w : Result Net Refusal) → ReadsModule job text from v → ReadsModule job text from w → v ≡ w
one_module_reading job text from _ _ (misread {refusal = r} p) (misread {refusal = q} i) = one_reading text from (Err r) (Err q) p i
one_module_reading job text from _ _ (misread {refusal = r} p) (not_jobs {net = net} i other) = cc (one_reading text from (Err r) (Ok net) p i)
one_module_reading job text from _ _ (misread {refusal = r} p) (jobs {net = net} i is) = cc (one_reading text from (Err r) (Ok net) p i)
one_module_reading job text from _ _ (not_jobs {net = net} p other) (misread {refusal = r} i) = cc (one_reading text from (Ok net) (Err r) p i)
one_module_reading job text from _ _ (not_jobs p other) (not_jobs i another) = refl
one_module_reading job text from _ _ (not_jobs {net = a} p other) (jobs {net = b} i is) =
    let same : b ≡ a = cc (one_reading text from (Ok b) (Ok a) i p) in
    absurd (other (subst (λ (n : Net). IsOfJob n job) same is))
one_module_reading job text from _ _ (jobs {net = net} p is) (misread {refusal = r} i) = cc (one_reading text from (Ok net) (Err r) p i)
one_module_reading job text from _ _ (jobs {net = a} p is) (not_jobs {net = b} i other) =
    let same : a ≡ b = cc (one_reading text from (Ok a) (Ok b) p i) in
    absurd (other (subst (λ (n : Net). IsOfJob n job) same is))
one_module_reading job text from _ _ (jobs {net = a} p is) (jobs {net = b} i other) = one_reading text from (Ok a) (Ok b) p i

said_of_pair : (a b : Net) → One (DueOfPair a b)
said_of_pair a b = by_verdict (IsVerdict a b) (λ v. Says (verdict_status v) (verdict_line a b v)) (one_comparison a b) (λ v. says (verdict_status v) (verdict_line a b v))

said_of_second : (a : Net) (v : Result Net Refusal) → One (DueOfSecond a v)
said_of_second a (Ok b) = said_of_pair a b
said_of_second a (Err refusal) = says 6 (refusal_line refusal)

said_of_first : (job : Job) (input : List ℕ) (middle : ℕ) (v : Result Net Refusal) → One (DueOfFirst job input middle v)
said_of_first job input middle (Ok a) = by_verdict (ReadsModule job input middle) (DueOfSecond a) (one_module_reading job input middle) (said_of_second a)
said_of_first job input middle (Err refusal) = says 6 (refusal_line refusal)

said_of_pair_head : (input : List ℕ) (v : Result (Job × ℕ) Refusal) → One (DueOfPairHead input v)
said_of_pair_head input (Ok (job, rest)) = by_verdict (FirstEnds rest (drop rest input)) (DueOfModules job input rest) (λ m k e f. one_end e f)
    (λ m. by_verdict (ReadsModule job (take m input) rest) (DueOfFirst job input m) (one_module_reading job (take m input) rest) (said_of_first job input m))
said_of_pair_head input (Err refusal) = says 2 (refusal_line refusal)

-- a script after a job
said_of_script : (job : Job) (found : Result (List Step) Refusal) → One (DueOfScript job found)
said_of_script job (Ok commands) = says 0 (debug_text job commands)
said_of_script job (Err refusal) = says 2 (refusal_line refusal)

said_of_script_head : (input : List ℕ) (v : Result (Job × ℕ) Refusal) → One (DueOfScriptHead input v)
said_of_script_head input (Ok (job, rest)) = said_of_script job (script_of job.decls input rest)
said_of_script_head input (Err refusal) = says 2 (refusal_line refusal)

said_for : (command : Option Command) (input : List ℕ) (s t : ℕ) (x y : List ℕ) → DueFor command input s x → DueFor command input t y → (s ≡ t) × SameText command x y
said_for None input s t x y (a, b) (c, d) = (a ∙ sym c, λ other. b ∙ sym d)
said_for (Some (OnJob command)) input s t x y (v, a, b) (w, c, d) =
    said_of_verdict command v s t x y b (subst (λ (z : Result Job Refusal). DueOfVerdict command z t y) (one_verdict input w v c a) d)
said_for (Some Assemble) input s t x y a b = let p = said_of_program (program_of input) s t x y a b in (p.0, λ other. p.1)
said_for (Some (Watch n)) input s t x y a b = let p = by_verdict (JudgesHead input) (DueOfHead n input) (one_head input) (said_of_head n input) s t x y a b in (p.0, λ other. p.1)
said_for (Some Compare) input s t x y a b = let p = by_verdict (JudgesHead input) (DueOfPairHead input) (one_head input) (said_of_pair_head input) s t x y a b in (p.0, λ other. p.1)
said_for (Some Debug) input s t x y a b = let p = by_verdict (JudgesHead input) (DueOfScriptHead input) (one_head input) (said_of_script_head input) s t x y a b in (p.0, λ other. p.1)
said_for (Some (Generate number count)) input s t x y (a, b) (c, d) = (a ∙ sym c, λ other. b ∙ sym d)
said_for (Some Read) input s t x y a b = let p = said_of_read input s t x y a b in (p.0, λ other. p.1)

pub one_status : (words : List (List ℕ)) (input : List ℕ) (s t : ℕ) (x y : List ℕ) → Due words input s x → Due words input t y → s ≡ t
one_status words input s t x y a b = (said_for (command_of words) input s t x y a b).0

pub one_outcome : (words : List (List ℕ)) (input : List ℕ) (s t : ℕ) (x y : List ℕ) → (command_of words ≡ Some (OnJob Pipe) → ⊥) → Due words input s x → Due words input t y → (s ≡ t) × (x ≡ y)
one_outcome words input s t x y other a b = let p = said_for (command_of words) input s t x y a b in (p.0, p.1 other)

-- .. and some outcome is specified
abbrev Any : (ℕ → List ℕ → Type 0) → Type 0
Any D = (s : ℕ) × (x : List ℕ) × D s x

by_any : {V : Type 0} (J : V → Type 0) (D : V → ℕ → List ℕ → Type 0) → (v : V) × J v → ((v : V) → J v → Any (D v)) → Any (λ s x. (v : V) × J v × D v s x)
by_any J D found said = let w = said found.0 found.1 in (w.0, w.1, (found.0, found.1, w.2))

timing_said : (count : ℕ) (job : Job) (found : Option Refusal) → Any (DueOfTiming count job found)
timing_said count job (Some refusal) = (2, refusal_line refusal, (refl, refl))
timing_said count job None = (0, timing_text job count, (refl, refl))

job_said : (command : JobCommand) (job : Job) → (Some (OnJob command) ≡ Some (OnJob Pipe) → ⊥) → Any (DueOfJob command job)
job_said (Seq count) job other = (0, sequential_text count job, (refl, refl))
job_said Check job other = (0, accepted_line job.name.name (summary_of job), (refl, refl))
job_said (Sim count) job other = (0, sim_text count job, (refl, refl))
job_said (Vcd count) job other = (0, vcd_text count job, (refl, refl))
job_said (Timing count) job other = timing_said count job (untimed job)
job_said Pipe job other = absurd (other refl)

verdict_said : (command : JobCommand) (v : Result Job Refusal) → (Some (OnJob command) ≡ Some (OnJob Pipe) → ⊥) → Any (DueOfVerdict command v)
verdict_said command (Ok job) other = job_said command job other
verdict_said command (Err refusal) other = (2, refusal_line refusal, (refl, refl))

program_said : (p : Result (List ℕ) Refusal) → Any (DueOfProgram p)
program_said (Ok words) = (0, image_text_of words, (refl, refl))
program_said (Err refusal) = (2, refusal_line refusal, (refl, refl))

verilog_said : (v : Result Net Refusal) → Any (DueOfVerilog v)
verilog_said (Ok net) = (0, canon net, (refl, refl))
verilog_said (Err refusal) = (6, refusal_line refusal, (refl, refl))

read_said : (input : List ℕ) → Any (DueOfRead input)
read_said input = elim (cases_lt most_bytes (length input)) [
  | inl long ↦ (2, refusal_line too_long, read_over long (refl, refl))
  | inr short ↦ let v = some_reading input 0 in let said = verilog_said v.0 in (said.0, said.1, read_within v.0 short v.1 said.2)
]

netlist_said : (n : ℕ) (job : Job) (net : Net) (found : Option Mismatch) → MatchOption found (IsOfJob net job) (λ _. IsOfJob net job → ⊥) → Any (DueOfNetlist n job net)
netlist_said n job net None is = let said = run_said job net n in (said.0, said.1, of_job is said.2)
netlist_said n job net (Some mismatch) other = (6, refusal_line wrong_netlist, of_other other (refl, refl))

text_said : (n : ℕ) (job : Job) (v : Result Net Refusal) → Any (DueOfText n job v)
text_said n job (Ok net) = netlist_said n job net (first_mismatch net.parts job) (exact net job)
text_said n job (Err refusal) = (6, refusal_line refusal, (refl, refl))

head_said : (n : ℕ) (input : List ℕ) (v : Result (Job × ℕ) Refusal) → Any (DueOfHead n input v)
head_said n input (Ok (job, rest)) = by_any (ReadsVerilog input rest) (DueOfText n job) (some_reading input rest) (λ v r. text_said n job v)
head_said n input (Err refusal) = (2, refusal_line refusal, (refl, refl))

-- a module denotes a netlist of the job, or violates some rule
net_said : (job : Job) (text : List ℕ) (from : ℕ) (net : Net) → ReadsVerilog text from (Ok net) → (found : Option Mismatch)
    → MatchOption found (IsOfJob net job) (λ _. IsOfJob net job → ⊥) → (v : Result Net Refusal) × ReadsModule job text from v
net_said job text from net read None is = (Ok net, jobs read is)
net_said job text from net read (Some mismatch) other = (Err wrong_netlist, not_jobs read other)

reading_said : (job : Job) (text : List ℕ) (from : ℕ) (v : Result Net Refusal) → ReadsVerilog text from v → (w : Result Net Refusal) × ReadsModule job text from w
reading_said job text from (Ok net) read = net_said job text from net read (first_mismatch net.parts job) (exact net job)
reading_said job text from (Err refusal) read = (Err refusal, misread read)

some_module_reading : (job : Job) (text : List ℕ) (from : ℕ) → (v : Result Net Refusal) × ReadsModule job text from v
some_module_reading job text from = let v = some_reading text from in reading_said job text from v.0 v.1

module _ (job : Job) (input : List ℕ) (short : length input ≤ 16777216) (rest middle : ℕ) where
  pair_said : (a b : Net) → ReadsModule job (take middle input) rest (Ok a) → ReadsModule job input middle (Ok b) → Any (DueOfPair a b)
  pair_said a b (jobs p is) (jobs q js) =
      let v = some_comparison a b (first_right input short rest middle a p) (second_right input short middle b q) (comparable_pair input rest middle a b job p q is js) in
      (verdict_status v.0, verdict_line a b v.0, (v.0, v.1, (refl, refl)))

  second_said : (a : Net) → ReadsModule job (take middle input) rest (Ok a) → (w : Result Net Refusal) → ReadsModule job input middle w
      → Any (DueOfSecond a w)
  second_said a p (Ok b) q = pair_said a b p q
  second_said a p (Err refusal) q = (6, refusal_line refusal, (refl, refl))

  first_said : (v : Result Net Refusal) → ReadsModule job (take middle input) rest v → Any (DueOfFirst job input middle v)
  first_said (Ok a) p = by_any (ReadsModule job input middle) (DueOfSecond a) (some_module_reading job input middle) (second_said a p)
  first_said (Err refusal) p = (6, refusal_line refusal, (refl, refl))

pair_head_said : (input : List ℕ) (v : Result (Job × ℕ) Refusal) → JudgesHead input v → Any (DueOfPairHead input v)
pair_head_said input (Ok (job, rest)) (head_within short judged) =
    by_any (FirstEnds rest (drop rest input)) (DueOfModules job input rest) (some_end (length (drop rest input)) rest (drop rest input) (omega arith))
    (λ m e. by_any (ReadsModule job (take m input) rest) (DueOfFirst job input m) (some_module_reading job (take m input) rest) (first_said job input short rest m))
pair_head_said input (Err refusal) judged = (2, refusal_line refusal, (refl, refl))

script_said : (job : Job) (found : Result (List Step) Refusal) → Any (DueOfScript job found)
script_said job (Ok commands) = (0, debug_text job commands, (refl, refl))
script_said job (Err refusal) = (2, refusal_line refusal, (refl, refl))

script_head_said : (input : List ℕ) (v : Result (Job × ℕ) Refusal) → Any (DueOfScriptHead input v)
script_head_said input (Ok (job, rest)) = script_said job (script_of job.decls input rest)
script_head_said input (Err refusal) = (2, refusal_line refusal, (refl, refl))

some_for : (command : Option Command) (input : List ℕ) → (command ≡ Some (OnJob Pipe) → ⊥) → Any (DueFor command input)
some_for None input other = (1, bad_words, (refl, refl))
some_for (Some (OnJob command)) input other = by_any (Judges input) (DueOfVerdict command) (some_verdict input) (λ v j. verdict_said command v other)
some_for (Some Assemble) input other = program_said (program_of input)
some_for (Some Read) input other = read_said input
some_for (Some (Watch n)) input other = by_any (JudgesHead input) (DueOfHead n input) (some_head input) (λ v j. head_said n input v)
some_for (Some Compare) input other = by_any (JudgesHead input) (DueOfPairHead input) (some_head input) (pair_head_said input)
some_for (Some Debug) input other = by_any (JudgesHead input) (DueOfScriptHead input) (some_head input) (λ v j. script_head_said input v)
some_for (Some (Generate number count)) input other = (0, gen_text number count, (refl, refl))

pub some_due : (words : List (List ℕ)) (input : List ℕ) → (command_of words ≡ Some (OnJob Pipe) → ⊥) → Any (Due words input)
some_due words input other = some_for (command_of words) input other
