-- From what is read and run to what is specified.
use Rattle.std.proofs.Common.{◌≡◌, ◌≤◌, ◌++◌, ℕ, Bool, false, List, [], length, None, Some, Ok, Err, Result, Option, sym, subst, inl, inr, refl, arith}
use Rattle.std.specs.Io.KnownBytes.{Consumes, IsAtEnd}
use Rattle.std.specs.Prelude.{if◌then◌else◌}
use Rattle.kp_base.specs.declared.refusal.Refusal.{Refusal}
use Rattle.kp_ast.specs.declared.tree.Job.{Job}
use Rattle.kp_frontend.specs.{Judging.JudgesText, Judging.JudgesText.accepted, Judging.too_long, Judging.Judges.over, Judging.Judges.within}
use Rattle.kp_machine.specs.Machine.{state_of}
use Rattle.kp_pipeline.specs.Machine.{State}
use Rattle.kp_stage.specs.Start.{start_of}
use Rattle.kp_until_run.specs.{Ending.Ends, declared.missed.Missed.Missed}
use Rattle.kp_runner.specs.Texts.{end_line, end_name, end_status, state_text, verdict_text}
use Rattle.kp_lex.{specs.Text.HasOutcome, proofs.Outcome.one_outcome}
use Rattle.kp_view_texts.specs.Heads.{rule_head}
use Rattle.kp_runner.specs.{Words.Asked, Words.Settings, Words.reads_input, Words.run, Reading.Complaint, Reading.File, Reading.Reading, Reading.named}
use Rattle.kp_runner.specs.Due.{BeginsWith, DueFor, DueOfReading, DueOfText, DueOfVerdict, FirstMissed, IsDue, IsEnd, IsWhole, file_name, lines_of}

-- a text that describes a job has tokens
pub never_refused : (text : List ℕ) (job : Job) (refusal : Refusal) → JudgesText text (Ok job) → HasOutcome text (Err refusal) → ⊥
never_refused text job refusal (accepted d unbroken) lexed = let same = one_outcome d.sentence.tokens lexed in cc same

module _ (s : Settings) (file : Option (List ℕ)) (name : List ℕ) (files : List File) (old new : Option (List ℕ)) (input : List ℕ) (status : ℕ) (text : List ℕ)
    (is : name ≡ file_name file) (consumed : Consumes old new input) where
  -- all of the input of a source, which isn't too long
  pub of_input : IsAtEnd new → length input ≤ 16777216 → DueOfText s (named name input) files status text → IsDue (run s file) files old new status text
  of_input end few (verdict, judged, due) = record {
    taken = input;
    consumed = consumed;
    whole = inl (end, few);
    due = (verdict, within few judged, subst (λ (n : List ℕ). DueOfVerdict s (named n input) files verdict status text) is due);
  }

  -- an input that is too long
  pub of_excess : length input ≡ 16777217 → (status ≡ 2) × BeginsWith (rule_head name too_long) text → IsDue (run s file) files old new status text
  of_excess count said = record {
    taken = input;
    consumed = consumed;
    whole = inr count;
    due = (Err too_long, over (omega (arith, count)), subst (λ (n : List ℕ). DueOfVerdict s (named n input) files (Err too_long) status text) is said);
  }

nothing_taken : (left : Option (List ℕ)) → Consumes left left []
nothing_taken None = tt
nothing_taken (Some input) = refl

-- a fixed text is written, and nothing is read
pub fixed : (request asked : Asked) (files : List File) (left : Option (List ℕ)) (status : ℕ) (text : List ℕ) → request ≡ asked → reads_input asked ≡ false
    → DueFor asked files [] status text → IsDue request files left left status text
fixed request asked files left status text is unread due = rw is (record {
  taken = [];
  consumed = nothing_taken left;
  whole = subst (λ (b : Bool). IsWhole b [] left) (sym unread) refl;
  due = due;
})
