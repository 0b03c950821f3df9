-- How a call ends.
use Rattle.std.proofs.Common.{◌≡◌, ℕ, Bool, true, false, List, Option, Result, Ok, Err, refl, subst, codes, arith}
use Rattle.std.specs.Io.KnownBytes.{Appends, Consumes}
use Rattle.kp_base.specs.declared.refusal.Refusal.{Refusal}
use Rattle.kp_ast.specs.declared.tree.Job.{Job}
use Rattle.kp_frontend.specs.Judging.{Judges}
use Rattle.kp_same.specs.declared.comparison.Verdict.{Verdict}
use Rattle.kp_same.specs.declared.comparison.Verdict.TheVariants.{Alike, Targets, Samples, Start, NotShown}
use Rattle.kp_view_same.specs.{Texts.verdict_status, Texts.verdict_text, Comparing.AreSame, Comparing.DueOfVerdicts, Comparing.IsDue, Ends.EndsAt, Ends.Prints, Ends.WrittenTo, inner.Inputs.Caused, inner.Inputs.CausedAt}
use Rattle.kp_view_same.specs.declared.top.{Side.TheVariants.First, Side.TheVariants.Second, Stop.Stop}
use Rattle.kp_view_same.specs.declared.top.Stop.TheVariants.{Unread, Unwritten, NoMemory}

-- a failed read of the first source, and of the second
pub first_failed : (first second : Type 0) (stop : Stop) → CausedAt First first stop → Caused first second stop
first_failed first second (Unread First) is = is
first_failed first second (Unread Second) is = absurd is
first_failed first second Unwritten is = is
first_failed first second NoMemory is = is

pub second_failed : (first second : Type 0) (stop : Stop) → CausedAt Second second stop → Caused first second stop
second_failed first second (Unread First) is = absurd is
second_failed first second (Unread Second) is = is
second_failed first second Unwritten is = is
second_failed first second NoMemory is = is

module _ {S T : Type 0} (held : S → Option (List ℕ)) (held_err : T → Option (List ℕ)) where
  pub on_error : (Fact : Option (List ℕ) → Option (List ℕ) → Type 0) (old : S) (old_err new_err : T) (b : Bool) → b ≡ true → Fact (held_err old_err) (held_err new_err)
      → WrittenTo held held_err b Fact old old old_err new_err
  on_error Fact old old_err new_err true is fact = (refl, fact)
  on_error Fact old old_err new_err false is fact = cc

  pub on_output : (Fact : Option (List ℕ) → Option (List ℕ) → Type 0) (old new : S) (old_err : T) (b : Bool) → b ≡ false → Fact (held old) (held new)
      → WrittenTo held held_err b Fact old new old_err old_err
  on_output Fact old new old_err false is fact = (fact, refl)
  on_output Fact old new old_err true is fact = cc

  -- nothing was written
  pub stopped : (faults : S → ℕ) (faults_err : T → ℕ) (first second : Type 0) (Due : ℕ → List ℕ → Type 0) (old : S) (old_err : T) (stop : Stop) → Caused first second stop
      → EndsAt held held_err faults faults_err first second Due old old old_err old_err (Err stop)
  stopped faults faults_err first second Due old old_err (Unread First) is = (is, refl, refl)
  stopped faults faults_err first second Due old old_err (Unread Second) is = (is, refl, refl)
  stopped faults faults_err first second Due old old_err Unwritten is = absurd is
  stopped faults faults_err first second Due old old_err NoMemory is = (refl, refl)

  -- status 0
  module _ (file other : List ℕ) (old new : S) (old_err new_err : T) (status : ℕ) (text : List ℕ) (zero_is : status ≡ 0) where
    said_same : (a : Job) (v : Verdict) → status ≡ verdict_status v → text ≡ verdict_text a v → text ≡ codes "same\n"
    said_same a Alike is same = same
    said_same a Targets is same = absurd (omega (arith, is, zero_is))
    said_same a Samples is same = absurd (omega (arith, is, zero_is))
    said_same a Start is same = absurd (omega (arith, is, zero_is))
    said_same a (NotShown d) is same = absurd (omega (arith, is, zero_is))

    printed : Prints held held_err old new old_err new_err status text → Appends (held old) (held new) text
    printed prints = (subst (λ (n : ℕ). Prints held held_err old new old_err new_err n text) zero_is prints).0

    by_verdicts : (one two : List ℕ) (v w : Result Job Refusal) → Judges one v → Judges two w → DueOfVerdicts file other v w status text
        → Prints held held_err old new old_err new_err status text → Appends (held old) (held new) (codes "same\n") × AreSame one two
    by_verdicts one two (Err refusal) w j k (is, _) prints = absurd (omega (arith, is, zero_is))
    by_verdicts one two (Ok a) (Err refusal) j k (is, _) prints = absurd (omega (arith, is, zero_is))
    by_verdicts one two (Ok a) (Ok b) j k (v, says, is, same, runs) prints = (
      subst (λ (t : List ℕ). Appends (held old) (held new) t) (said_same a v is same) (printed prints),
      record { a = a; judged = j; b = b; judged_second = k; alike = runs zero_is },
    )

    pub same_at : (left left_new second second_new : Option (List ℕ)) → IsDue file other left left_new second second_new status text
        → Prints held held_err old new old_err new_err status text
        → (one two : List ℕ) × Consumes left left_new one × Consumes second second_new two × Appends (held old) (held new) (codes "same\n") × AreSame one two
    same_at left left_new second second_new due prints =
        let said = by_verdicts due.first due.second due.due.one due.due.two due.due.judged due.due.judged_second due.due.due prints in
        (due.first, due.second, due.read.consumed, due.read_second.consumed, said.0, said.1)
