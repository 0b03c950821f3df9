-- The ends of the top call: from the specified outcomes of an input to those of the arguments and the source, and to the status.
use Rattle.std.proofs.Common.{true, false, ◌≤◌, ◌≡◌, ◌≢◌, ◌∙◌, ℕ, List, [], length, None, Some, Ok, Err, refl, sym, subst, inl, arith}
use Rattle.std.specs.{declared.option.Option.Option, declared.result.Result.Result, Io.KnownBytes.Consumes, Io.KnownBytes.IsAtEnd}
use Rattle.kp_base.specs.Causes.{Rose}
use Rattle.kp_words.specs.{declared.commands.Command.Command, Commands.command_of, Commands.reads_input}
use Rattle.kp_report.specs.Texts.{bad_words}
use Rattle.kp_tool.{proofs.Ends.weaker, proofs.Statuses.final, proofs.Statuses.no_command, specs.Saying.Says}
use Rattle.kp_tool.specs.{Due.DueFor, Due.IsDue, Due.IsFinal, Due.Completes, Due.Begins, Due.Between, Ends.Ends, Ends.EndsAt}
use Rattle.kp_tool.specs.{inner.Failures.stop_status, inner.Failures.end_status, declared.failure.Failure.Failure, declared.failure.Stop.Stop}
use Rattle.kp_tool.specs.declared.failure.Stop.TheVariants.{ReadFault, WriteFault, NoMemory}

nothing_taken : (left : Option (List ℕ)) → Consumes left left []
nothing_taken None = tt
nothing_taken (Some bytes) = refl

never_final : (stop : Stop) (status : ℕ) → status ≡ stop_status stop → IsFinal status → ⊥
never_final ReadFault status is ended = ended.0 is
never_final WriteFault status is ended = ended.1 is
never_final NoMemory status is ended = ended.2 is

module _ {S : Type 0} (held : S → Option (List ℕ)) (faults : S → ℕ) (V : Type 0) (words : List (List ℕ)) where
  -- the arguments aren't accepted, and the source is left unchanged
  pub bad_words_end : (left : Option (List ℕ)) → command_of words ≡ None → (old new : S) (r : Result ℕ Failure)
      → Ends held faults ⊥ (Says 1 bad_words) old new r → Ends held faults V (IsDue words left left) old new r
  bad_words_end left none old new r ends =
      weaker held faults ⊥ V (Says 1 bad_words) (IsDue words left left) (λ u. absurd u)
      (λ status text says. record { taken = []; consumed = nothing_taken left; whole = rw none refl; due = rw none says }) old new r ends

  -- a command that reads nothing leaves the source unchanged
  pub over_nothing : (command : Command) (left : Option (List ℕ)) → command_of words ≡ Some command → reads_input (Some command) ≡ false → (old new : S) (r : Result ℕ Failure)
      → Ends held faults ⊥ (DueFor (Some command) []) old new r → Ends held faults V (IsDue words left left) old new r
  over_nothing command left is reads old new r ends =
      weaker held faults ⊥ V (DueFor (Some command) []) (IsDue words left left) (λ u. absurd u)
      (λ status text due. record { taken = []; consumed = nothing_taken left; whole = rw (is, reads) refl; due = rw is due }) old new r ends

  -- a command over all bytes of the source
  pub over_input : (command : Command) (left left_after : Option (List ℕ)) (input : List ℕ) → command_of words ≡ Some command → reads_input (Some command) ≡ true
      → Consumes left left_after input → IsAtEnd left_after → length input ≤ 16777216 → (old new : S) (r : Result ℕ Failure)
      → Ends held faults ⊥ (DueFor (Some command) input) old new r → Ends held faults V (IsDue words left left_after) old new r
  over_input command left left_after input is reads consumed end short old new r ends =
      weaker held faults ⊥ V (DueFor (Some command) input) (IsDue words left left_after) (λ u. absurd u)
      (λ status text due. record { taken = input; consumed = consumed; whole = rw (is, reads) (inl (end, short)); due = rw is due }) old new r ends

  module _ (left left_after : Option (List ℕ)) (old new : S) where
    abbrev Ended : Result ℕ Stop → Type 0
    Ended r = EndsAt held faults V (IsDue words left left_after) old new r

    abbrev Whole : ℕ → Type 0
    Whole status = Completes words left left_after (held old) (held new) status

    ok_final : (s : ℕ) → Whole s → IsFinal s
    ok_final s (text, due, appended) = final (command_of words) due.taken s text due.due

    pub completes : (r : Result ℕ Stop) (status : ℕ) → Ended r → status ≡ end_status r → IsFinal status → Whole status
    completes (Ok s) status ends is ended = subst Whole (sym is) ends
    completes (Err stop) status ends is ended = absurd (never_final stop status is ended)

    pub at_three : (r : Result ℕ Stop) (status : ℕ) → Ended r → status ≡ end_status r → status ≡ 3 → V × (new ≡ old)
    at_three (Ok s) status ends is three = absurd ((ok_final s ends).0 (sym is ∙ three))
    at_three (Err ReadFault) status ends is three = ends
    at_three (Err WriteFault) status ends is three = absurd (omega arith)
    at_three (Err NoMemory) status ends is three = absurd (omega arith)

    pub at_four : (r : Result ℕ Stop) (status : ℕ) → Ended r → status ≡ end_status r → status ≡ 4
        → Rose (faults old) (faults new) × Begins words left left_after (held old) (held new)
    at_four (Ok s) status ends is four = absurd ((ok_final s ends).1 (sym is ∙ four))
    at_four (Err ReadFault) status ends is four = absurd (omega arith)
    at_four (Err WriteFault) status (rose, s, text, due, part) is four = (rose, (s, text, due, part))
    at_four (Err NoMemory) status ends is four = absurd (omega arith)

    pub at_five : (r : Result ℕ Stop) (status : ℕ) → Ended r → status ≡ end_status r → status ≡ 5 → new ≡ old
    at_five (Ok s) status ends is five = absurd ((ok_final s ends).2 (sym is ∙ five))
    at_five (Err ReadFault) status ends is five = absurd (omega arith)
    at_five (Err WriteFault) status ends is five = absurd (omega arith)
    at_five (Err NoMemory) status ends is five = ends

    -- neither the source nor the sink failed, and there was memory
    pub unfailing : (r : Result ℕ Stop) (status : ℕ) → Ended r → status ≡ end_status r → (V → ⊥) → (Rose (faults old) (faults new) → ⊥) → status ≢ 5 → Whole status
    unfailing (Ok s) status ends is source_well sink_well memory = subst Whole (sym is) ends
    unfailing (Err ReadFault) status ends is source_well sink_well memory = absurd (source_well ends.0)
    unfailing (Err WriteFault) status ends is source_well sink_well memory = absurd (sink_well ends.0)
    unfailing (Err NoMemory) status ends is source_well sink_well memory = absurd (memory is)

    pub not_accepted : (status : ℕ) → Whole status → status ≡ 1 → command_of words ≡ None
    not_accepted status (text, due, appended) one = no_command (command_of words) due.taken status text due.due one

    pub one_only : (status : ℕ) → command_of words ≡ None → Whole status → status ≡ 1
    one_only status none (text, due, appended) =
        let said : DueFor None due.taken status text = subst (λ (c : Option Command). DueFor c due.taken status text) none due.due in
        said.0

    -- what is true of a command's specified outcomes is true of the bytes that were read and written
    pub between : (command : Command) (status : ℕ) (Fact : List ℕ → List ℕ → Type 0)
        → ((input text : List ℕ) → DueFor (Some command) input status text → Fact input text)
        → command_of words ≡ Some command → Whole status → Between left left_after (held old) (held new) Fact
    between command status Fact law is (text, due, written) =
        let due_for = subst (λ (c : Option Command). DueFor c due.taken status text) is due.due in
        (due.taken, text, due.consumed, written, law due.taken text due_for)
