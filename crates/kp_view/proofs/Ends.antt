-- How calls end: from what was written to what is expected.
use Rattle.std.proofs.Common.{◌≡◌, ◌∙◌, ℕ, ◌≤◌, Bool, true, false, None, Some, List, length, Ok, Err, refl, sym, ap, ap₂, subst, inl, inr, arith}
use Rattle.std.specs.{declared.option.Option.Option, declared.result.Result.Result, Prelude.MatchResult, Io.KnownBytes.Appends}
use Rattle.kp_base.specs.{Bytes.AppendsPart, Causes.Rose, declared.refusal.Refused.Refused}
use Rattle.kp_base.specs.declared.refusal.Refused.TheVariants as refused
use Rattle.kp_ast.specs.declared.tree.Job.{Job}
use Rattle.kp_frontend.specs.{Judging.JudgesText, Judging.Judges.within, Judging.JudgesText.accepted, Accepting.AnswersText}
use Rattle.kp_base.specs.declared.refusal.Refusal.{Refusal}
use Rattle.kp_lex.{specs.Text.HasOutcome, specs.declared.token.Lexed.Lexed, proofs.Outcome.one_outcome}
use Rattle.kp_base.specs.declared.run.Run.{Run as Bytes}
use Rattle.kp_directive.specs.{Messages.bytes_in, declared.directive.DirectiveFault.DirectiveFault}
use Rattle.kp_diagram_labels.specs.{Labels.labels_of, declared.label.Label.Label}
use Rattle.kp_view_words.specs.Words.{Order, Task, label_for, names_for, show}
use Rattle.kp_view.specs.Complaints.{complaint_status, complaint_text}
use Rattle.kp_view.specs.{Due.directive_text, Due.DueFor, Due.DueOfJob, Due.DueOfNames, Due.DueOfOrder, Due.Draws, Due.IsShown, Due.IsText, Due.Says, Due.complaint_by, Due.complaint_for, Due.label_complaint, Due.names_fit, Listed.Listed, Listed.given_by, Listed.listed_in, Texts.label_wrong, Texts.names_text}
use Rattle.kp_view.specs.{Ends.Ends, Ends.EndsAt, inner.Failures.failure_of, declared.failure.Complaint.Complaint, declared.failure.Failure.Failure}
use Rattle.kp_view.specs.declared.failure.{Failure.TheVariants.Complained, Failure.TheVariants.Stopped, Stop.Stop}
use Rattle.kp_view.specs.declared.failure.Complaint.TheVariants as complaints
use Rattle.kp_view.specs.declared.failure.Stop.TheVariants as stops

-- the offset after the `end` of an input
abbrev pub Before : List ℕ → ℕ → Type 0
Before input end = (lexed : Lexed) × HasOutcome input (Ok lexed) × (end ≡ lexed.rest)

-- a text that describes a job has tokens
pub never_refused : (input : List ℕ) (job : Job) (refusal : Refusal) → JudgesText input (Ok job) → HasOutcome input (Err refusal) → ⊥
never_refused input job refusal (accepted d unbroken) broken = let same = one_outcome d.sentence.tokens broken in cc same

-- a complaint has another status than 0
never_zero : (c : Complaint) → complaint_status c ≡ 0 → ⊥
never_zero (complaints.BadWords topic) e = absurd (omega (arith, e))
never_zero _ e = absurd (omega (arith, e))

module _ {S : Type 0} (held : S → Option (List ℕ)) (faults : S → ℕ) (file : Option (List ℕ)) where
  -- what is expected by one account is expected by another
  pub weaker : (U V : Type 0) (P Q : ℕ → List ℕ → Type 0) → (U → V) → ((s : ℕ) (t : List ℕ) → P s t → Q s t) → (old new : S) {T : Type 0} (r : Result T Failure)
      → Ends held faults U P file old new r → Ends held faults V Q file old new r
  weaker U V P Q u f old new (Ok _) (text, due, appended) = (text, f 0 text due, appended)
  weaker U V P Q u f old new (Err (Complained c)) (same, due) = (same, f (complaint_status c) (complaint_text file c) due)
  weaker U V P Q u f old new (Err (Stopped stops.WriteFault)) (rose, text, due, part) = (rose, text, f 0 text due, part)
  weaker U V P Q u f old new (Err (Stopped stops.ReadFault)) (unread, same) = (u unread, same)
  weaker U V P Q u f old new (Err (Stopped stops.NoMemory)) same = same

  -- one text was written, to standard output
  pub said : (other : Option (List ℕ)) (V : Type 0) (Q : ℕ → List ℕ → Type 0) (text : List ℕ) → Q 0 text → (old new : S) {T : Type 0} (r : Result T Failure)
      → Ends held faults ⊥ (Says 0 text) other old new r → Ends held faults V Q file old new r
  said other V Q text due old new (Ok _) (t, says, appended) = (t, rw says.1 due, appended)
  said other V Q text due old new (Err (Complained c)) (same, says) = absurd (never_zero c says.0)
  said other V Q text due old new (Err (Stopped stops.WriteFault)) (rose, t, says, part) = (rose, t, rw says.1 due, part)
  said other V Q text due old new (Err (Stopped stops.ReadFault)) (unread, same) = absurd unread
  said other V Q text due old new (Err (Stopped stops.NoMemory)) same = same

  -- a job that violates a rule
  pub refused_job : (task : Task) (input : List ℕ) (s : S) (e : Refused) (f : Failure) (T : Type 0) → length input ≤ 16777216 → f ≡ failure_of e → task.file ≡ file
      → AnswersText input (Err e) → Ends {U = T} held faults ⊥ (DueFor (show task) input) file s s (Err f)
  refused_job task input s (refused.Rule refusal) f T short is same judged = rw is (refl, (Err refusal, within short judged, (refl, rw same refl)))
  refused_job task input s refused.NoMemory f T short is same judged = rw is refl

  -- a job that violates none
  pub accepted_job : (task : Task) (input : List ℕ) (job : Job) → length input ≤ 16777216 → JudgesText input (Ok job) → (old new : S) {T : Type 0} (r : Result T Failure)
      → Ends held faults ⊥ (DueOfJob task input job) file old new r → Ends held faults ⊥ (DueFor (show task) input) file old new r
  accepted_job task input job short judged old new r ends =
      weaker ⊥ ⊥ (DueOfJob task input job) (DueFor (show task) input) (λ u. u) (λ status text due. (Ok job, within short judged, due)) old new r ends

  -- there is or isn't something to be said
  pub by_names : (said other : Option (List ℕ)) (order : Order) (input : List ℕ) (job : Job) → said ≡ other → (old new : S) {T : Type 0} (r : Result T Failure)
      → Ends held faults ⊥ (DueOfNames other order input job) file old new r → Ends held faults ⊥ (DueOfNames said order input job) file old new r
  by_names said other order input job is old new r ends = subst (λ (o : Option (List ℕ)). Ends held faults ⊥ (DueOfNames o order input job) file old new r) (sym is) ends

  pub names_wrong : (T : Type 0) (order : Order) (input : List ℕ) (job : Job) (given stages : ℕ) (s : S) → names_fit order job ≡ false → given ≡ length (names_for order)
      → stages ≡ job.stages.value → Ends {U = T} held faults ⊥ (DueOfOrder order input job) file s s (Err (Complained (complaints.WrongNames given stages)))
  names_wrong T order input job given stages s unfit g k =
      by_names (complaint_for order job) (complaint_by false order job) order input job (ap (λ (b : Bool). complaint_by b order job) unfit) s s {T = T}
      (Err (Complained (complaints.WrongNames given stages))) (refl, (refl, ap₂ names_text g k))

  -- the labels are or aren't labels
  labels_say : (order : Order) (job : Job) (found : Result (List Label) Bytes) → names_fit order job ≡ true → labels_of job (label_for order) ≡ found
      → complaint_for order job ≡ label_complaint (label_for order) found
  labels_say order job found fit is = ap (λ (b : Bool). complaint_by b order job) fit ∙ ap (label_complaint (label_for order)) is

  pub with_labels : (order : Order) (input : List ℕ) (job : Job) (labels : List Label) → names_fit order job ≡ true → labels_of job (label_for order) ≡ Ok labels
      → (old new : S) {T : Type 0} (r : Result T Failure)
      → Ends held faults ⊥ (Draws order input job) file old new r → Ends held faults ⊥ (DueOfOrder order input job) file old new r
  with_labels order input job labels fit is old new r ends = by_names (complaint_for order job) None order input job (labels_say order job (Ok labels) fit is) old new r ends

  pub label_refused : (T : Type 0) (order : Order) (input : List ℕ) (job : Job) (word : Bytes) (c : Complaint) (s : S) → names_fit order job ≡ true
      → labels_of job (label_for order) ≡ Err word → complaint_status c ≡ 1 → complaint_text file c ≡ label_wrong (bytes_in (label_for order) word)
      → Ends {U = T} held faults ⊥ (DueOfOrder order input job) file s s (Err (Complained c))
  label_refused T order input job word c s fit is status text =
      by_names (complaint_for order job) (label_complaint (label_for order) (Err word)) order input job (labels_say order job (Err word) fit is) s s {T = T} (Err (Complained c))
      (refl, (status, text))

  -- what the directives give was taken
  pub with_listed : (task : Task) (order : Order) (input : List ℕ) (job : Job) (end : ℕ) (listed : Listed) → Before input end → listed_in job input end ≡ Ok listed
      → order ≡ given_by listed task.order → (old new : S) {T : Type 0} (r : Result T Failure)
      → Ends held faults ⊥ (DueOfOrder order input job) file old new r → Ends held faults ⊥ (DueOfJob task input job) file old new r
  with_listed task order input job end listed (lexed, tokens, is) given same old new r ends =
      weaker ⊥ ⊥ (DueOfOrder order input job) (DueOfJob task input job) (λ u. u)
      (λ status text due. (Ok listed, (lexed, tokens, rw (← is) given), subst (λ (o : Order). DueOfOrder o input job status text) same due)) old new r ends

  -- a directive violates a rule
  pub misdirected : (T : Type 0) (task : Task) (input : List ℕ) (job : Job) (end : ℕ) (fault : DirectiveFault) (c : Complaint) (s : S) → Before input end
      → listed_in job input end ≡ Err fault → complaint_status c ≡ 2 → complaint_text file c ≡ directive_text task.file input fault
      → Ends {U = T} held faults ⊥ (DueOfJob task input job) file s s (Err (Complained c))
  misdirected T task input job end fault c s (lexed, tokens, is) given status text = (refl, (Err fault, (lexed, tokens, rw (← is) given), (status, text)))

-- the text of a word was written, which shows the run
pub drawn_by : {S : Type 0} (held : S → Option (List ℕ)) (faults : S → ℕ) (file : Option (List ℕ)) (asked order : Order) (input : List ℕ) (job : Job) → asked ≡ order → IsShown order job
    → (old new : S) {T : Type 0} (r : Result T Failure) → Ends held faults ⊥ (λ s t. (s ≡ 0) × IsText order input job t) None old new r
    → Ends held faults ⊥ (Draws asked input job) file old new r
drawn_by {S} held faults file asked order input job is shows old new {T} r ends = go r ends
  where
    drawn : (s : ℕ) (t : List ℕ) → (s ≡ 0) × IsText order input job t → Draws asked input job s t
    drawn s t due = subst (λ (o : Order). Draws o input job s t) (sym is) (due.0, due.1, shows)

    go : (r : Result T Failure) → Ends held faults ⊥ (λ s t. (s ≡ 0) × IsText order input job t) None old new r
        → Ends held faults ⊥ (Draws asked input job) file old new r
    go (Ok _) (text, due, appended) = (text, drawn 0 text due, appended)
    go (Err (Complained c)) (same, due) = absurd (never_zero c due.0)
    go (Err (Stopped stops.WriteFault)) (rose, text, due, part) = (rose, text, drawn 0 text due, part)
    go (Err (Stopped stops.ReadFault)) (unread, same) = absurd unread
    go (Err (Stopped stops.NoMemory)) same = same

-- a complaint was written
module _ {S T : Type 0} (held : S → Option (List ℕ)) (faults : S → ℕ) (held_err : T → Option (List ℕ)) (faults_err : T → ℕ) (V : Type 0) (Q : ℕ → List ℕ → Type 0) where
  abbrev Complains : Complaint → List ℕ → T → T → Result ℕ Stop → Type 0
  Complains c text old new r = MatchResult r
      (λ status. (status ≡ complaint_status c) × Appends (held_err old) (held_err new) text)
      (λ stop. (stop ≡ stops.WriteFault) × Rose (faults_err old) (faults_err new) × AppendsPart (held_err old) (held_err new) text)

  pub complained : (c : Complaint) (text : List ℕ) (old new : S) (old_err new_err : T) (r : Result ℕ Stop)
      → (new ≡ old) × Q (complaint_status c) text → Complains c text old_err new_err r → EndsAt held faults held_err faults_err V Q old new old_err new_err r
  complained (complaints.BadWords topic) text old new old_err new_err (Ok status) (same, due) (is, appended) = rw is (text, due, (same, appended))
  complained (complaints.BadWords topic) text old new old_err new_err (Err stop) (same, due) (is, rose, part) = rw is (inr rose, 1, text, due, (same, part))
  complained (complaints.WrongNames given stages) text old new old_err new_err (Err stop) (same, due) (is, rose, part) = rw is (inr rose, 1, text, due, (same, part))
  complained (complaints.WrongLabel word) text old new old_err new_err (Err stop) (same, due) (is, rose, part) = rw is (inr rose, 1, text, due, (same, part))
  complained (complaints.Refused refusal) text old new old_err new_err (Err stop) (same, due) (is, rose, part) = rw is (inr rose, 2, text, due, (same, part))
  complained (complaints.Misdirected said) text old new old_err new_err (Err stop) (same, due) (is, rose, part) = rw is (inr rose, 2, text, due, (same, part))
  complained _ text old new old_err new_err (Ok status) (same, due) (is, appended) = rw is (text, due, (same, appended))

  -- no complaint was to be written
  pub finished : (file : Option (List ℕ)) (old new : S) (err : T) (U : Type 0) (u : U) → Ends {U = U} held faults V Q file old new (Ok u) → EndsAt held faults held_err faults_err V Q old new err err (Ok 0)
  finished file old new err U u (text, due, appended) = (text, due, (appended, refl))

  pub stopped : (file : Option (List ℕ)) (old new : S) (err : T) (U : Type 0) (stop : Stop) → Ends {U = U} held faults V Q file old new (Err (Stopped stop))
      → EndsAt held faults held_err faults_err V Q old new err err (Err stop)
  stopped file old new err U stops.WriteFault (rose, text, due, part) = (inl rose, 0, text, due, (part, refl))
  stopped file old new err U stops.ReadFault (unread, same) = (unread, same, refl)
  stopped file old new err U stops.NoMemory same = (same, refl)
