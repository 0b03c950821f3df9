-- How commands end: from what was written to the specified outcome.
use Rattle.std.proofs.Common.{◌≡◌, ℕ, ◌≤◌, List, length, Ok, Err, Some, None, refl, sym, subst}
use Rattle.std.specs.declared.{option.Option.Option, result.Result.Result}
use Rattle.kp_base.specs.declared.refusal.{Refusal.Refusal, Refused.Refused}
use Rattle.kp_base.specs.declared.refusal.Refused.TheVariants as refused
use Rattle.kp_ast.specs.declared.tree.Job.{Job}
use Rattle.kp_words.specs.declared.commands.{Command.TheVariants.OnJob, JobCommand.JobCommand, JobCommand.TheVariants.Timing}
use Rattle.kp_frontend.specs.{Judging.JudgesText, Judging.JudgesHeadText, Accepting.AnswersText, Accepting.AnswersHead}
use Rattle.kp_vlog.specs.Verdict.{AnswersNet}
use Rattle.kp_timing.specs.{Unfit.untimed, Lines.timing_text}
use Rattle.kp_report.specs.Texts.{refusal_line}
use Rattle.kp_tool.specs.{Saying.Says, Due.DueFor, Due.DueOfJob, Due.DueOfTiming, Read.ReadsVerilog, Ends.Ends, Ends.EndsAt}
use Rattle.kp_tool.specs.{inner.Failures.failure_of, inner.Failures.misread_of, declared.failure.Failure.Failure, declared.failure.Stop.Stop}
use Rattle.kp_tool.specs.declared.failure.Stop.TheVariants.{ReadFault, WriteFault, NoMemory}
use Rattle.kp_tool.proofs.Dues.{accepted_is_due}
use Rattle.kp_tool.specs.declared.failure.Failure.TheVariants as failure

module _ {S : Type 0} (held : S → Option (List ℕ)) (faults : S → ℕ) where
  -- an end with outcomes of one kind is an end with outcomes of a wider kind
  pub at_weaker : (U V : Type 0) (P Q : ℕ → List ℕ → Type 0) → (U → V) → ((s : ℕ) (t : List ℕ) → P s t → Q s t) → (old new : S) (r : Result ℕ Stop)
      → EndsAt held faults U P old new r → EndsAt held faults V Q old new r
  at_weaker U V P Q u f old new (Ok status) (text, due, appended) = (text, f status text due, appended)
  at_weaker U V P Q u f old new (Err WriteFault) (rose, status, text, due, part) = (rose, status, text, f status text due, part)
  at_weaker U V P Q u f old new (Err ReadFault) (unread, same) = (u unread, same)
  at_weaker U V P Q u f old new (Err NoMemory) same = same

  pub weaker : (U V : Type 0) (P Q : ℕ → List ℕ → Type 0) → (U → V) → ((s : ℕ) (t : List ℕ) → P s t → Q s t) → (old new : S) (r : Result ℕ Failure)
      → Ends held faults U P old new r → Ends held faults V Q old new r
  weaker U V P Q u f old new (Ok status) ends = at_weaker U V P Q u f old new (Ok status) ends
  weaker U V P Q u f old new (Err (failure.Refused refusal)) (same, due) = (same, f 2 (refusal_line refusal) due)
  weaker U V P Q u f old new (Err (failure.Misread refusal)) (same, due) = (same, f 6 (refusal_line refusal) due)
  weaker U V P Q u f old new (Err (failure.Stopped stop)) ends = at_weaker U V P Q u f old new (Err stop) ends

  -- the same inside a command, where the source was read before
  pub wider : (P Q : ℕ → List ℕ → Type 0) → ((s : ℕ) (t : List ℕ) → P s t → Q s t) → (old new : S) (r : Result ℕ Failure)
      → Ends held faults ⊥ P old new r → Ends held faults ⊥ Q old new r
  wider P Q f old new r ends = weaker ⊥ ⊥ P Q (λ u. u) f old new r ends

  -- the outcome that was written is a specified one
  pub said : (Q : ℕ → List ℕ → Type 0) (status : ℕ) (text : List ℕ) → Q status text → (old new : S) (r : Result ℕ Failure)
      → Ends held faults ⊥ (Says status text) old new r → Ends held faults ⊥ Q old new r
  said Q status text due old new r ends = wider (Says status text) Q (λ s t says. rw (says.0, says.1) due) old new r ends

  -- the input violates a rule of the language: of its job
  pub refused_job : (Q : ℕ → List ℕ → Type 0) (input : List ℕ) → ((r : Refusal) → JudgesText input (Err r) → Q 2 (refusal_line r)) → (s : S) (e : Refused) (f : Failure)
      → f ≡ failure_of e → AnswersText input (Err e) → Ends held faults ⊥ Q s s (Err f)
  refused_job Q input law s (refused.Rule refusal) f is judged = rw is (refl, law refusal judged)
  refused_job Q input law s refused.NoMemory f is judged = rw is refl

  -- of the job at its head
  pub refused_head : (Q : ℕ → List ℕ → Type 0) (input : List ℕ) → ((r : Refusal) → JudgesHeadText input (Err r) → Q 2 (refusal_line r)) → (s : S) (e : Refused) (f : Failure)
      → f ≡ failure_of e → AnswersHead input (Err e) → Ends held faults ⊥ Q s s (Err f)
  refused_head Q input law s (refused.Rule refusal) f is judged = rw is (refl, law refusal judged)
  refused_head Q input law s refused.NoMemory f is judged = rw is refl

  -- the Verilog text that starts at an offset violates a rule
  pub misread : (Q : ℕ → List ℕ → Type 0) (input : List ℕ) (from : ℕ) → ((r : Refusal) → ReadsVerilog input from (Err r) → Q 6 (refusal_line r)) → (s : S) (e : Refused) (f : Failure)
      → f ≡ misread_of e → AnswersNet input from (Err e) → Ends held faults ⊥ Q s s (Err f)
  misread Q input from law s (refused.Rule refusal) f is read = rw is (refl, law refusal read)
  misread Q input from law s refused.NoMemory f is read = rw is refl

  -- a job that violates no rule
  pub accepted_job : (command : JobCommand) (input : List ℕ) (job : Job) → length input ≤ 16777216 → JudgesText input (Ok job) → (old new : S) (r : Result ℕ Failure)
      → Ends held faults ⊥ (DueOfJob command job) old new r → Ends held faults ⊥ (DueFor (Some (OnJob command)) input) old new r
  accepted_job command input job short judged old new r ends =
      wider (DueOfJob command job) (DueFor (Some (OnJob command)) input)
      (λ status text due. accepted_is_due command input job status text short judged due) old new r ends

  -- `timing`: a job with a guess or a sample, and one without
  pub untimed_job : (n : ℕ) (job : Job) (r : Refusal) → untimed job ≡ Some r → (s : S) → Ends held faults ⊥ (DueOfJob (Timing n) job) s s (Err (failure.Refused r))
  untimed_job n job r is s = (refl, subst (λ (found : Option Refusal). DueOfTiming n job found 2 (refusal_line r)) (sym is) (refl, refl))

  pub timed_job : (n : ℕ) (job : Job) (text : List ℕ) → untimed job ≡ None → text ≡ timing_text job n → (old new : S) (r : Result ℕ Failure)
      → Ends held faults ⊥ (Says 0 text) old new r → Ends held faults ⊥ (DueOfJob (Timing n) job) old new r
  timed_job n job text is same old new r ends =
      said (DueOfJob (Timing n) job) 0 text (subst (λ (found : Option Refusal). DueOfTiming n job found 0 text) (sym is) (refl, same)) old new r ends

  -- the line of a violated rule was written
  pub refused_end : (V : Type 0) (Q : ℕ → List ℕ → Type 0) (status : ℕ) (text : List ℕ) (old mid new : S) (r : Result ℕ Stop) → (mid ≡ old) × Q status text
      → EndsAt held faults ⊥ (Says status text) mid new r → EndsAt held faults V Q old new r
  refused_end V Q status text old mid new r (same, due) ends =
      subst (λ (s : S). EndsAt held faults V Q s new r) same
      (at_weaker ⊥ V (Says status text) Q (λ u. absurd u) (λ s t says. rw (says.0, says.1) due) mid new r ends)
