-- The ends of the top call: from what is expected of an input to what is expected of what is asked and of the bytes, and of the status.
use Rattle.std.proofs.Common.{true, false, ◌≡◌, ◌≢◌, ◌∙◌, ◌⊎◌, ℕ, List, [], ◌++◌, length, None, Some, Ok, Err, refl, sym, ap, subst, inl, inr, arith, append-nil, length-append, ◌≤◌, IfSome}
use Rattle.std.specs.{declared.option.Option.Option, declared.result.Result.Result, Io.KnownBytes.Consumes, Io.KnownBytes.IsAtEnd}
use Rattle.kp_base.specs.{declared.refusal.Refusal.Refusal, Causes.Rose}
use Rattle.kp_ast.specs.declared.tree.Job.{Job}
use Rattle.kp_frontend.{specs.Judging.Judges, specs.Judging.too_long, specs.Judging.Judges.over, specs.Judging.Judges.within, proofs.Verdicts.one_verdict}
use Rattle.kp_directive.specs.declared.directive.DirectiveFault.{DirectiveFault}
use Rattle.kp_view_words.specs.{Words.Asked, Words.Order, Words.Task, Words.bad_words, Words.help, Words.version, Words.show, declared.words.Topic.Topic}
use Rattle.kp_view_words.specs.Texts.{help_text, version_text}
use Rattle.kp_view.specs.Due.{Says, DueFor, IsShown, IsText, DueOfListed, DueOfNames, Lists, IsDue, IsFinal, IsWhole, Completes, Begins, Between, Prints, IsDrawn, IsRefusal, IsUnaccepted, IsUnrefused, complaint_for, reads_input}
use Rattle.kp_view.specs.{Listed.Listed, Listed.given_by, Texts.refusal_text, Ends.Ends, Ends.EndsAt, inner.Failures.stop_status, inner.Failures.end_status, declared.failure.Failure.Failure}
use Rattle.kp_view.specs.declared.failure.{Failure.TheVariants.Complained, Stop.Stop}
use Rattle.kp_view.specs.declared.failure.Stop.TheVariants.{ReadFault, WriteFault, NoMemory}
use Rattle.kp_view.proofs.Ends.{weaker, said}
use Rattle.kp_view.specs.declared.failure.Complaint.TheVariants as complaints

nothing_taken : (left : Option (List ℕ)) → Consumes left left []
nothing_taken None = tt
nothing_taken (Some bytes) = refl

never_final : (stop : Stop) (status : ℕ) → status ≡ stop_status stop → IsFinal status → ⊥
never_final ReadFault status is final = final.0 is
never_final WriteFault status is final = final.1 is
never_final NoMemory status is final = final.2 is

-- A status of an outcome is 0, 1 or 2.
abbrev IsLow : ℕ → Type 0
IsLow status = status ≤ 2

low_names : (fit : _) (order : Order) (input : List ℕ) (job : Job) (status : ℕ) (text : List ℕ) → DueOfNames fit order input job status text → IsLow status
low_names None order input job status text (zero_is, same, shows) = omega (arith, zero_is)
low_names (Some said) order input job status text (one, rest) = omega (arith, one)

low_listed : (task : Task) (input : List ℕ) (job : Job) (listed : Result Listed DirectiveFault) (status : ℕ) (text : List ℕ) → DueOfListed task input job listed status text
    → IsLow status
low_listed task input job (Ok names) status text due = low_names (complaint_for (given_by names task.order) job) (given_by names task.order) input job status text due
low_listed task input job (Err fault) status text (two, rest) = omega (arith, two)

low : (asked : Asked) (input : List ℕ) (status : ℕ) (text : List ℕ) → DueFor asked input status text → IsLow status
low (show task) input status text (Ok job, judged, (listed, lists, due)) = low_listed task input job listed status text due
low (show task) input status text (Err refusal, judged, (is, rest)) = omega (arith, is)
low (bad_words topic) input status text (is, rest) = omega (arith, is)
low (help topic) input status text (is, rest) = omega (arith, is)
low version input status text (is, rest) = omega (arith, is)

module _ {S : Type 0} (held : S → Option (List ℕ)) (faults : S → ℕ) (V : Type 0) where
  -- what reads nothing
  pub unread_end : (asked : Asked) (left file other : Option (List ℕ)) (text : List ℕ) → reads_input asked ≡ false → DueFor asked [] 0 text
      → (old new : S) {T : Type 0} (r : Result T Failure) → Ends held faults ⊥ (Says 0 text) other old new r → Ends held faults V (IsDue asked left left) file old new r
  unread_end asked left file other text none due old new r ends =
      said held faults file other V (IsDue asked left left) text
      (record { taken = []; consumed = nothing_taken left; whole = rw none refl; due = due }) old new r ends

  pub bad_words_end : (T : Type 0) (asked : Asked) (topic : Topic) (left file : Option (List ℕ)) (s : S) → asked ≡ bad_words topic
      → Ends {U = T} held faults V (IsDue asked left left) file s s (Err (Complained (complaints.BadWords topic)))
  bad_words_end T asked topic left file s is =
      subst (λ (a : Asked). Ends {U = T} held faults V (IsDue a left left) file s s (Err (Complained (complaints.BadWords topic)))) (sym is)
      (refl, record { taken = []; consumed = nothing_taken left; whole = refl; due = (refl, refl) })

  pub help_end : (asked : Asked) (topic : Topic) (left file other : Option (List ℕ)) → asked ≡ help topic
      → (old new : S) {T : Type 0} (r : Result T Failure) → Ends held faults ⊥ (Says 0 (help_text topic)) other old new r → Ends held faults V (IsDue asked left left) file old new r
  help_end asked topic left file other is old new r ends =
      unread_end asked left file other (help_text topic) (rw is refl) (rw is (refl, refl)) old new r ends

  pub version_end : (asked : Asked) (left file other : Option (List ℕ)) → asked ≡ version
      → (old new : S) {T : Type 0} (r : Result T Failure) → Ends held faults ⊥ (Says 0 version_text) other old new r → Ends held faults V (IsDue asked left left) file old new r
  version_end asked left file other is old new r ends =
      unread_end asked left file other version_text (rw is refl) (rw is (refl, refl)) old new r ends

  -- what is shown over all bytes of the source
  pub over_input : (task : Task) (left left_after file : Option (List ℕ)) (input : List ℕ) → Consumes left left_after input → IsAtEnd left_after → length input ≤ 16777216
      → (old new : S) {T : Type 0} (r : Result T Failure) → Ends held faults ⊥ (DueFor (show task) input) file old new r → Ends held faults V (IsDue (show task) left left_after) file old new r
  over_input task left left_after file input consumed end short old new r ends =
      weaker held faults file ⊥ V (DueFor (show task) input) (IsDue (show task) left left_after) (λ u. absurd u)
      (λ status text due. record { taken = input; consumed = consumed; whole = inl (end, short); due = due }) old new r ends

-- an input that is too long
pub too_long_is_due : (task : Task) (left left_after : Option (List ℕ)) (taken : List ℕ) → Consumes left left_after taken → length taken ≡ 16777217
    → IsDue (show task) left left_after 2 (refusal_text task.file too_long)
too_long_is_due task left left_after taken consumed count =
    record { taken = taken; consumed = consumed; whole = inr count; due = (Err too_long, over (omega (arith, count)), (refl, refl)) }

-- a verdict on the bytes that were read is the verdict on all bytes
judges_all : (taken rest : List ℕ) {verdict : Result Job Refusal} → ((rest ≡ []) ⊎ (length taken ≡ 16777217)) → Judges taken verdict → Judges (taken ++ rest) verdict
judges_all taken rest {verdict} (inl none) judged = subst (λ (bytes : List ℕ). Judges bytes verdict) (sym (ap (λ (r : List ℕ). taken ++ r) none ∙ append-nil taken)) judged
judges_all taken rest (inr count) (over long) = over (simp length-append (omega arith))
judges_all taken rest (inr count) (within short judged) = absurd (omega arith)

-- what is too long is no job
never_long : (taken : List ℕ) (job : Job) → length taken ≡ 16777217 → Judges taken (Ok job) → ⊥
never_long taken job count (within short judged) = omega (arith, short, count)

ends_or_long : (taken rest : List ℕ) → IsWhole true taken (Some rest) → (rest ≡ []) ⊎ (length taken ≡ 16777217)
ends_or_long taken rest (inl (end, short)) = inl end
ends_or_long taken rest (inr count) = inr count

due_all : (asked : Asked) (taken rest : List ℕ) (status : ℕ) (text : List ℕ) → IsWhole (reads_input asked) taken (Some rest) → DueFor asked taken status text
    → DueFor asked (taken ++ rest) status text
due_all (show task) taken rest status text whole (Ok job, judged, due) = go (ends_or_long taken rest whole)
  where
    go : ((rest ≡ []) ⊎ (length taken ≡ 16777217)) → DueFor (show task) (taken ++ rest) status text
    go (inl none) =
        let all : taken ++ rest ≡ taken = ap (λ (r : List ℕ). taken ++ r) none ∙ append-nil taken in
        subst (λ (bytes : List ℕ). DueFor (show task) bytes status text) (sym all) (Ok job, judged, due)
    go (inr count) = absurd (never_long taken job count judged)
due_all (show task) taken rest status text whole (Err refusal, judged, due) = (Err refusal, judges_all taken rest (ends_or_long taken rest whole) judged, due)
due_all _ taken rest status text whole due = due

-- where the bytes of the source are known, the outcome is the one for all of them
for_all_bytes : (asked : Asked) (left left_after : Option (List ℕ)) (status : ℕ) (text : List ℕ) → IsDue asked left left_after status text
    → IfSome left (λ input. DueFor asked input status text)
for_all_bytes asked None left_after status text due = tt
for_all_bytes asked (Some input) None status text due = absurd due.consumed
for_all_bytes asked (Some input) (Some rest) status text due =
    subst (λ (bytes : List ℕ). DueFor asked bytes status text) (sym due.consumed) (due_all asked due.taken rest status text due.whole due.due)

module _ {S T : Type 0} (held : S → Option (List ℕ)) (faults : S → ℕ) (held_err : T → Option (List ℕ)) (faults_err : T → ℕ) (V : Type 0)
    (asked : Asked) (left left_after : Option (List ℕ)) (old new : S) (old_err new_err : T) where
  abbrev Ended : Result ℕ Stop → Type 0
  Ended r = EndsAt held faults held_err faults_err V (IsDue asked left left_after) old new old_err new_err r

  abbrev Whole : ℕ → Type 0
  Whole status = Completes held held_err asked left left_after old new old_err new_err status

  low_status : (s : ℕ) → Whole s → IsLow s
  low_status s (text, due, printed) = low asked due.taken s text due.due

  pub completes : (r : Result ℕ Stop) (status : ℕ) → Ended r → status ≡ end_status r → IsFinal status → Whole status
  completes (Ok s) status ends is final = subst Whole (sym is) ends
  completes (Err stop) status ends is final = absurd (never_final stop status is final)

  pub at_three : (r : Result ℕ Stop) (status : ℕ) → Ended r → status ≡ end_status r → status ≡ 3 → V × (new ≡ old) × (new_err ≡ old_err)
  at_three (Ok s) status ends is three = let l = low_status s ends in absurd (omega (arith, l, is, three))
  at_three (Err ReadFault) status ends is three = ends
  at_three (Err WriteFault) status ends is three = absurd (omega (arith, is, three))
  at_three (Err NoMemory) status ends is three = absurd (omega (arith, is, three))

  pub at_four : (r : Result ℕ Stop) (status : ℕ) → Ended r → status ≡ end_status r → status ≡ 4
      → (Rose (faults old) (faults new) ⊎ Rose (faults_err old_err) (faults_err new_err)) × Begins held held_err asked left left_after old new old_err new_err
  at_four (Ok s) status ends is four = let l = low_status s ends in absurd (omega (arith, l, is, four))
  at_four (Err ReadFault) status ends is four = absurd (omega (arith, is, four))
  at_four (Err WriteFault) status (rose, s, text, due, part) is four = (rose, (s, text, due, part))
  at_four (Err NoMemory) status ends is four = absurd (omega (arith, is, four))

  pub at_five : (r : Result ℕ Stop) (status : ℕ) → Ended r → status ≡ end_status r → status ≡ 5 → (new ≡ old) × (new_err ≡ old_err)
  at_five (Ok s) status ends is five = let l = low_status s ends in absurd (omega (arith, l, is, five))
  at_five (Err ReadFault) status ends is five = absurd (omega (arith, is, five))
  at_five (Err WriteFault) status ends is five = absurd (omega (arith, is, five))
  at_five (Err NoMemory) status ends is five = ends

  either_rose : (Rose (faults old) (faults new) ⊎ Rose (faults_err old_err) (faults_err new_err)) → (Rose (faults old) (faults new) → ⊥)
      → (Rose (faults_err old_err) (faults_err new_err) → ⊥) → ⊥
  either_rose (inl rose) out err = out rose
  either_rose (inr rose) out err = err rose

  -- nothing failed, and memory was enough
  pub unfailing : (r : Result ℕ Stop) (status : ℕ) → Ended r → status ≡ end_status r → (V → ⊥) → (Rose (faults old) (faults new) → ⊥)
      → (Rose (faults_err old_err) (faults_err new_err) → ⊥) → status ≢ 5 → Whole status
  unfailing (Ok s) status ends is source out err memory = subst Whole (sym is) ends
  unfailing (Err ReadFault) status ends is source out err memory = absurd (source ends.0)
  unfailing (Err WriteFault) status ends is source out err memory = absurd (either_rose ends.0 out err)
  unfailing (Err NoMemory) status ends is source out err memory = absurd (memory is)

  -- the outcome for all bytes of the source
  some_for_all : (l : Option (List ℕ)) (status : ℕ) (text : List ℕ) → IfSome l (λ input. DueFor asked input status text) → Prints held held_err old new old_err new_err status text
      → IfSome l (λ input. (text : List ℕ) × DueFor asked input status text × Prints held held_err old new old_err new_err status text)
  some_for_all None status text due printed = tt
  some_for_all (Some input) status text due printed = (text, due, printed)

  pub complete : (status : ℕ) → Whole status
      → IfSome left (λ input. (text : List ℕ) × DueFor asked input status text × Prints held held_err old new old_err new_err status text)
  complete status (text, due, printed) = some_for_all left status text (for_all_bytes asked left left_after status text due) printed

  pub bad : (topic : Topic) (status : ℕ) → asked ≡ bad_words topic → Whole status → status ≡ 1
  bad topic status is (text, due, printed) =
      let said_so : DueFor (bad_words topic) due.taken status text = subst (λ (a : Asked). DueFor a due.taken status text) is due.due in
      said_so.0

-- by the status, whether there is something to be said
names_never_two : (fit : _) (order : Order) (input : List ℕ) (job : Job) (status : ℕ) (text : List ℕ) → DueOfNames fit order input job status text → status ≡ 2 → ⊥
names_never_two fit order input job status text due two = go fit due
  where
    go : (fit : _) → DueOfNames fit order input job status text → ⊥
    go None due = let e = due.0 in omega (arith, e, two)
    go (Some said) due = let e = due.0 in omega (arith, e, two)

names_at_zero : (fit : _) (order : Order) (input : List ℕ) (job : Job) (status : ℕ) (text : List ℕ) → DueOfNames fit order input job status text → status ≡ 0
    → (fit ≡ None) × IsText order input job text × IsShown order job
names_at_zero None order input job status text (is, same, shows) zero_is = (refl, same, shows)
names_at_zero (Some said) order input job status text due zero_is = let e = due.0 in absurd (omega (arith, e, zero_is))

names_at_one : (fit : _) (order : Order) (input : List ℕ) (job : Job) (status : ℕ) (text : List ℕ) → DueOfNames fit order input job status text → status ≡ 1
    → fit ≡ Some text
names_at_one None order input job status text due one = let e = due.0 in absurd (omega (arith, e, one))
names_at_one (Some said) order input job status text (is, same) one = ap (λ (t : List ℕ). Some t) (sym same)

-- what isn't accepted
unaccepted_names : (task : Task) (input : List ℕ) (job : Job) → Judges input (Ok job) → (listed : Result Listed DirectiveFault) → Lists input job listed
    → (status : ℕ) (text : List ℕ) → DueOfListed task input job listed status text → status ≡ 1 → IsUnaccepted (show task) input text
unaccepted_names task input job judged (Ok names) lists status text due one =
    let order = given_by names task.order in
    (job, judged, order, (names, lists, refl), names_at_one (complaint_for order job) order input job status text due one)
unaccepted_names task input job judged (Err fault) lists status text (two, same) one = absurd (omega (arith, two, one))

unaccepted_at : (asked : Asked) (input text : List ℕ) (status : ℕ) → DueFor asked input status text → status ≡ 1 → IsUnaccepted asked input text
unaccepted_at (bad_words topic) input text status (is, same) one = same
unaccepted_at (help topic) input text status (is, same) one = absurd (omega (arith, is, one))
unaccepted_at version input text status (is, same) one = absurd (omega (arith, is, one))
unaccepted_at (show task) input text status (Ok job, judged, (listed, lists, due)) one =
    unaccepted_names task input job judged listed lists status text due one
unaccepted_at (show task) input text status (Err refusal, judged, (is, same)) one = absurd (omega (arith, is, one))

module _ {S T : Type 0} (held : S → Option (List ℕ)) (held_err : T → Option (List ℕ)) (asked : Asked) (left left_after : Option (List ℕ)) (old new : S)
    (old_err new_err : T) where
  pub unaccepted : (status : ℕ) → status ≡ 1 → Completes held held_err asked left left_after old new old_err new_err status
      → Between left left_after (held_err old_err) (held_err new_err) (IsUnaccepted asked)
  unaccepted status one whole =
      let (text, due, printed) = subst (λ (s : ℕ). Completes held held_err asked left left_after old new old_err new_err s) one whole in
      (due.taken, text, due.consumed, printed.1, unaccepted_at asked due.taken text 1 due.due refl)

module _ {S T : Type 0} (held : S → Option (List ℕ)) (held_err : T → Option (List ℕ)) (task : Task) where
  refused_names : (input : List ℕ) (job : Job) → Judges input (Ok job) → (listed : Result Listed DirectiveFault) → Lists input job listed
      → (status : ℕ) (text : List ℕ) → DueOfListed task input job listed status text → status ≡ 2 → IsRefusal task input text
  refused_names input job judged (Ok names) lists status text due two =
      let order = given_by names task.order in absurd (names_never_two (complaint_for order job) order input job status text due two)
  refused_names input job judged (Err fault) lists status text due two = inr (job, judged, fault, lists, due.1)

  refusal_at : (input text : List ℕ) (status : ℕ) → DueFor (show task) input status text → status ≡ 2 → IsRefusal task input text
  refusal_at input text status (Ok job, judged, (listed, lists, due)) two = refused_names input job judged listed lists status text due two
  refusal_at input text status (Err refusal, judged, due) two = inl (refusal, judged, due.1)

  drawn_names : (input : List ℕ) (job : Job) → Judges input (Ok job) → (listed : Result Listed DirectiveFault) → Lists input job listed
      → (status : ℕ) (text : List ℕ) → DueOfListed task input job listed status text → status ≡ 0 → IsDrawn task input text
  drawn_names input job judged (Ok names) lists status text due zero_is =
      let order = given_by names task.order in
      let (fit, reported, shown) = names_at_zero (complaint_for order job) order input job status text due zero_is in
      (job, judged, order, (names, lists, refl), fit, reported, shown)
  drawn_names input job judged (Err fault) lists status text (two, same) zero_is = absurd (omega (arith, two, zero_is))

  drawn_at : (input text : List ℕ) (status : ℕ) → DueFor (show task) input status text → status ≡ 0 → IsDrawn task input text
  drawn_at input text status (Ok job, judged, (listed, lists, due)) zero_is = drawn_names input job judged listed lists status text due zero_is
  drawn_at input text status (Err refusal, judged, due) zero_is = let e = due.0 in absurd (omega (arith, e, zero_is))

  module _ (asked : Asked) (left left_after : Option (List ℕ)) (old new : S) (old_err new_err : T) (is : asked ≡ show task) where
    abbrev All : ℕ → Type 0
    All status = Completes held held_err asked left left_after old new old_err new_err status

    due_at : (status : ℕ) (text : List ℕ) (due : IsDue asked left left_after status text) → DueFor (show task) due.taken status text
    due_at status text due = subst (λ (a : Asked). DueFor a due.taken status text) is due.due

    pub refused : (status : ℕ) → status ≡ 2 → All status → Between left left_after (held_err old_err) (held_err new_err) (IsRefusal task)
    refused status two whole =
        let (text, due, printed) = subst All two whole in
        (due.taken, text, due.consumed, printed.1, refusal_at due.taken text 2 (due_at 2 text due) refl)

    pub drawn : (status : ℕ) → status ≡ 0 → All status → Between left left_after (held old) (held new) (IsDrawn task)
    drawn status zero_is whole =
        let (text, due, printed) = subst All zero_is whole in
        (due.taken, text, due.consumed, printed.0, drawn_at due.taken text 0 (due_at 0 text due) refl)

    ok_never_err : (input : List ℕ) (job : Job) (refusal : Refusal) → Judges input (Ok job) → Judges input (Err refusal) → ⊥
    ok_never_err input job refusal ok err = let e = one_verdict input (Ok job) (Err refusal) ok err in cc e

    pub unrefused : (status : ℕ) → status ≡ 0 → All status → Between left left_after (held old) (held new) IsUnrefused
    unrefused status zero_is whole =
        let (input, text, consumed, appended, (job, judged, order, is_named, fit, reported, shown)) = drawn status zero_is whole in
        (input, text, consumed, appended, λ refusal broken. ok_never_err input job refusal judged broken)
