-- The laws about specified outcomes that the top call needs.
use Rattle.std.proofs.Common.{true, sym, subst, IfSome, ap, drop, [], ◌++◌, ◌⊎◌, ◌∙◌, inl, None, arith, append-nil, length-append, ◌≡◌, ℕ, ◌<◌, ◌≤◌, List, length, refl, inr, Some, Ok, Err}
use Rattle.std.{proofs.lemmas.Bool.lt-ltb, specs.declared.option.Option.Option, specs.Io.KnownBytes.Consumes, specs.declared.result.Result.Result}
use Rattle.kp_words.specs.declared.commands.Command.TheVariants.{OnJob, Assemble, Read, Watch, Compare, Debug, Generate}
use Rattle.kp_words.specs.{declared.commands.Command.Command, declared.commands.JobCommand.JobCommand, Commands.command_of, Commands.reads_input}
use Rattle.kp_base.specs.declared.refusal.Refusal.{Refusal}
use Rattle.kp_ast.specs.declared.tree.Job.{Job}
use Rattle.kp_frontend.specs.Judging.{Judges, JudgesText, JudgesHeadText, too_long, JudgesHead, JudgesHead.head_over, JudgesHead.head_within}
use Rattle.kp_frontend.specs.Judging.Judges.{over, within}
use Rattle.kp_report.specs.Texts.{refusal_line}
use Rattle.kp_net.specs.Netlist.{Net}
use Rattle.kp_vlog.specs.{Canon.canon, Splitting.FirstEnds}
use Rattle.kp_tool.specs.Due.{Completes, Due, DueFor, DueOfJob, DueOfProgram, program_of, IsDue, IsWhole}
use Rattle.kp_tool.specs.{Read.ReadsVerilog, Read.DueOfRead, Read.read_over, Read.read_within, Watched.DueOfHead, Watched.DueOfText}
use Rattle.kp_tool.specs.{Compared.DueOfModules, Compared.DueOfPairHead, Scripted.DueOfScript, Scripted.DueOfScriptHead}
use Rattle.kp_debug_script.specs.Scripts.{script_of}

too_long_due : (command : Command) (old new : Option (List ℕ)) (taken : List ℕ) → reads_input (Some command) ≡ true → Consumes old new taken → length taken ≡ 16777217 → IsWhole (reads_input (Some command)) taken new × DueFor (Some command) taken 2 (refusal_line too_long)
unfolding program_of
too_long_due (OnJob command) old new taken reads consumed count = (inr count, (Err too_long, over (omega arith), (refl, refl)))
too_long_due Assemble old new taken reads consumed count =
    let long : 16777216 < length taken = omega arith in
    (inr count, rw (lt-ltb 16777216 (length taken) long) (refl, refl))
too_long_due (Watch count) old new taken reads consumed many = (inr many, (Err too_long, head_over (omega arith), (refl, refl)))
too_long_due Compare old new taken reads consumed many = (inr many, (Err too_long, head_over (omega arith), (refl, refl)))
too_long_due Debug old new taken reads consumed many = (inr many, (Err too_long, head_over (omega arith), (refl, refl)))
too_long_due Read old new taken reads consumed count = (inr count, read_over (omega arith) (refl, refl))
too_long_due (Generate number count) old new taken reads consumed many = cc reads

-- if more bytes were read than are accepted, the outcome is the refusal, whatever is left in the source
pub too_long_is_due : (words : List (List ℕ)) (command : Command) (old new : Option (List ℕ)) (taken : List ℕ) → command_of words ≡ Some command → reads_input (Some command) ≡ true → Consumes old new taken
    → length taken ≡ 16777217 → IsDue words old new 2 (refusal_line too_long)
too_long_is_due words command old new taken is_command reads consumed count =
    let (whole, due) = too_long_due command old new taken reads consumed count in
    record {
      taken = taken;
      consumed = consumed;
      whole = rw is_command whole;
      due = rw is_command due;
    }

-- a verdict on the bytes that were read is the verdict on all bytes
judges_all : (taken rest : List ℕ) {verdict : Result Job Refusal} → ((rest ≡ []) ⊎ (length taken ≡ 16777217)) → Judges taken verdict → Judges (taken ++ rest) verdict
judges_all taken rest {verdict} (inl none) judged = subst (λ (bytes : List ℕ). Judges bytes verdict) (sym (ap (λ (r : List ℕ). taken ++ r) none ∙ append-nil taken)) judged
judges_all taken rest (inr count) (over long) = over (simp length-append (omega arith))
judges_all taken rest (inr count) (within short judged) = absurd (omega arith)

-- the same for a program
program_all : (taken rest : List ℕ) → ((rest ≡ []) ⊎ (length taken ≡ 16777217)) → program_of (taken ++ rest) ≡ program_of taken
unfolding program_of
program_all taken rest (inl none) = rw (none, append-nil) refl
program_all taken rest (inr count) =
    let taken_over : 16777216 < length taken = omega arith in
    let all_over : 16777216 < length (taken ++ rest) = simp length-append (omega arith) in
    rw (lt-ltb 16777216 (length taken) taken_over, lt-ltb 16777216 (length (taken ++ rest)) all_over) refl

-- and for a Verilog text
read_all : (taken rest : List ℕ) (status : ℕ) (text : List ℕ) → ((rest ≡ []) ⊎ (length taken ≡ 16777217)) → DueOfRead taken status text → DueOfRead (taken ++ rest) status text
read_all taken rest status text (inl none) due =
    subst (λ (bytes : List ℕ). DueOfRead bytes status text) (sym (ap (λ (r : List ℕ). taken ++ r) none ∙ append-nil taken)) due
read_all taken rest status text (inr count) (read_over long said) = read_over (simp length-append (omega arith)) said
read_all taken rest status text (inr count) (read_within verdict short read said) = absurd (omega arith)

-- and for a job followed by a text, of which nothing is said where there are too many bytes
head_all : (D : List ℕ → Result (Job × ℕ) Refusal → ℕ → List ℕ → Type 0) → ((a b : List ℕ) (status : ℕ) (text : List ℕ) → D a (Err too_long) status text → D b (Err too_long) status text)
    → (taken rest : List ℕ) (status : ℕ) (text : List ℕ) → ((rest ≡ []) ⊎ (length taken ≡ 16777217)) → (v : Result (Job × ℕ) Refusal) × JudgesHead taken v × D taken v status text
    → (v : Result (Job × ℕ) Refusal) × JudgesHead (taken ++ rest) v × D (taken ++ rest) v status text
head_all D same taken rest status text (inl none) due =
    subst (λ (bytes : List ℕ). (v : Result (Job × ℕ) Refusal) × JudgesHead bytes v × D bytes v status text) (sym (ap (λ (r : List ℕ). taken ++ r) none ∙ append-nil taken)) due
head_all D same taken rest status text (inr count) (_, head_over long, said) = (Err too_long, head_over (simp length-append (omega arith)), same taken (taken ++ rest) status text said)
head_all D same taken rest status text (inr count) (_, head_within short judged, said) = absurd (omega arith)

-- the source is at its end, or it gave one byte more than fit
end_or_over : (taken rest : List ℕ) → IsWhole true taken (Some rest) → (rest ≡ []) ⊎ (length taken ≡ 16777217)
end_or_over taken rest (inl (end, short)) = inl end
end_or_over taken rest (inr count) = inr count

due_all_for : (command : Option Command) (taken rest : List ℕ) (status : ℕ) (text : List ℕ) → IsWhole (reads_input command) taken (Some rest) → DueFor command taken status text → DueFor command (taken ++ rest) status text
due_all_for None taken rest status text whole due = due
due_all_for (Some (OnJob command)) taken rest status text whole (verdict, judged, said) = (verdict, judges_all taken rest (end_or_over taken rest whole) judged, said)
due_all_for (Some Assemble) taken rest status text whole due =
    subst (λ (found : Result (List ℕ) Refusal). DueOfProgram found status text) (sym (program_all taken rest (end_or_over taken rest whole))) due
due_all_for (Some (Watch n)) taken rest status text whole due = head_all (DueOfHead n) (λ a b status text said. said) taken rest status text (end_or_over taken rest whole) due
due_all_for (Some Compare) taken rest status text whole due = head_all DueOfPairHead (λ a b status text said. said) taken rest status text (end_or_over taken rest whole) due
due_all_for (Some Debug) taken rest status text whole due = head_all DueOfScriptHead (λ a b status text said. said) taken rest status text (end_or_over taken rest whole) due
due_all_for (Some Read) taken rest status text whole due = read_all taken rest status text (end_or_over taken rest whole) due
due_all_for (Some (Generate number count)) taken rest status text whole due = due

-- the outcome for the bytes that were read is the outcome for all bytes
pub due_all : (words : List (List ℕ)) (taken rest : List ℕ) (status : ℕ) (text : List ℕ) → IsWhole (reads_input (command_of words)) taken (Some rest) → Due words taken status text → Due words (taken ++ rest) status text
due_all words = due_all_for (command_of words)

-- what a complete call wrote, if the contents of the source and the sink are known
pub printed : (words : List (List ℕ)) (left left_after held held_after : Option (List ℕ)) (status : ℕ) → Completes words left left_after held held_after status → IfSome left (λ input. IfSome held (λ before. (text : List ℕ) × Due words input status text × (held_after ≡ Some (before ++ text))))
printed words None left_after held held_after status completes = tt
printed words (Some input) left_after None held_after status completes = tt
printed words (Some input) None (Some before) held_after status (text, is_due, written) = absurd is_due.consumed
printed words (Some input) (Some rest) (Some before) None status (text, is_due, written) = absurd written
printed words (Some input) (Some rest) (Some before) (Some after) status (text, is_due, written) =
    let due = due_all words is_due.taken rest status text is_due.whole is_due.due in
    (text, rw is_due.consumed due, ap Some written)

-- the outcome for a text that violates a rule is that rule; for a job that violates none it is what the command prints
pub refused_is_due : (command : JobCommand) (text : List ℕ) (refusal : Refusal) → length text ≤ 16777216 → JudgesText text (Err refusal) → DueFor (Some (OnJob command)) text 2 (refusal_line refusal)
refused_is_due command text refusal short judged = (Err refusal, within short judged, (refl, refl))

pub accepted_is_due : (command : JobCommand) (text : List ℕ) (job : Job) (status : ℕ) (answer : List ℕ) → length text ≤ 16777216 → JudgesText text (Ok job) → DueOfJob command job status answer → DueFor (Some (OnJob command)) text status answer
accepted_is_due command text job status answer short judged due = (Ok job, within short judged, due)

-- the outcome of `read` is the netlist that a text denotes, or the rule that the text violates
pub denoted_is_due : (text : List ℕ) (net : Net) → length text ≤ 16777216 → ReadsVerilog text 0 (Ok net) → DueFor (Some Read) text 0 (canon net)
denoted_is_due text net short denotes = read_within (Ok net) short denotes (refl, refl)

pub misread_is_due : (text : List ℕ) (refusal : Refusal) → length text ≤ 16777216 → ReadsVerilog text 0 (Err refusal) → DueFor (Some Read) text 6 (refusal_line refusal)
misread_is_due text refusal short refused = read_within (Err refusal) short refused (refl, refl)

-- the outcome of `watch` is the rule that the job violates, or else the outcome for the text after it
pub head_refused_is_due : (n : ℕ) (text : List ℕ) (refusal : Refusal) → length text ≤ 16777216 → JudgesHeadText text (Err refusal) → DueFor (Some (Watch n)) text 2 (refusal_line refusal)
head_refused_is_due n text refusal short judged = (Err refusal, head_within short judged, (refl, refl))

pub head_accepted_is_due : (n : ℕ) (text : List ℕ) (job : Job) (rest : ℕ) (verdict : Result Net Refusal) (status : ℕ) (answer : List ℕ) → length text ≤ 16777216
    → JudgesHeadText text (Ok (job, rest)) → ReadsVerilog text rest verdict → DueOfText n job verdict status answer → DueFor (Some (Watch n)) text status answer
head_accepted_is_due n text job rest verdict status answer short judged read due = (Ok (job, rest), head_within short judged, (verdict, read, due))

-- the same for `equiv`
pub pair_head_refused_is_due : (text : List ℕ) (refusal : Refusal) → length text ≤ 16777216 → JudgesHeadText text (Err refusal) → DueFor (Some Compare) text 2 (refusal_line refusal)
pair_head_refused_is_due text refusal short judged = (Err refusal, head_within short judged, (refl, refl))

pub pair_head_accepted_is_due : (text : List ℕ) (job : Job) (rest middle status : ℕ) (answer : List ℕ) → length text ≤ 16777216 → JudgesHeadText text (Ok (job, rest))
    → FirstEnds rest (drop rest text) middle → DueOfModules job text rest middle status answer → DueFor (Some Compare) text status answer
pair_head_accepted_is_due text job rest middle status answer short judged ends due = (Ok (job, rest), head_within short judged, (middle, ends, due))

-- the same for `debug`
pub script_head_refused_is_due : (text : List ℕ) (refusal : Refusal) → length text ≤ 16777216 → JudgesHeadText text (Err refusal) → DueFor (Some Debug) text 2 (refusal_line refusal)
script_head_refused_is_due text refusal short judged = (Err refusal, head_within short judged, (refl, refl))

pub script_is_due : (text : List ℕ) (job : Job) (rest status : ℕ) (answer : List ℕ) → length text ≤ 16777216 → JudgesHeadText text (Ok (job, rest))
    → DueOfScript job (script_of job.decls text rest) status answer → DueFor (Some Debug) text status answer
script_is_due text job rest status answer short judged due = (Ok (job, rest), head_within short judged, due)
