-- What is said of two inputs, by what they are.
use Rattle.std.proofs.Common.{◌≡◌, ◌∙◌, ◌≤◌, ◌++◌, ℕ, List, ap, append_assoc, length, subst, Option, Ok, Err, arith}
use Rattle.kp_ast.specs.declared.tree.Job.{Job}
use Rattle.kp_frontend.specs.{declared.accepted.Accepted.Accepted}
use Rattle.kp_same.specs.{Same.RunAlike, Same.SameJob, Verdicts.Says, declared.comparison.Verdict.Verdict}
use Rattle.kp_same.specs.declared.comparison.Verdict.TheVariants.{Alike, Targets, Samples, Start, NotShown}
use Rattle.kp_view_explain.specs.declared.explanation.Explanation.{Explanation}
use Rattle.kp_view_same.specs.{Texts.IsOfJob, Texts.verdict_status, Texts.verdict_text, Comparing.DueFor, Comparing.DueOfJobs, Comparing.IsDue, Comparing.IsRead, inner.Inputs.Holds, inner.Inputs.IsJudged, inner.Inputs.IsShort}
use Rattle.kp_view_same.specs.declared.{input.Input.Input, judged.Judged.Judged}
use Rattle.kp_view_same.specs.declared.input.Input.TheVariants as inputs
use Rattle.kp_view_same.specs.declared.judged.Judged.TheVariants as judged

-- the target that a verdict names
pub of_job : (a b : Job) (v : Verdict) → Says a b v → IsOfJob a v
of_job a b Alike says = tt
of_job a b Targets says = tt
of_job a b Samples says = tt
of_job a b Start says = tt
of_job a b (NotShown d) says = says.2.there

runs_at : (a b : Job) (v : Verdict) (status : ℕ) → Says a b v → status ≡ verdict_status v → (SameJob a b → RunAlike a b) → status ≡ 0 → RunAlike a b
runs_at a b Alike status says is runs zero_is = runs says
runs_at a b Targets status says is runs zero_is = absurd (omega (arith, is, zero_is))
runs_at a b Samples status says is runs zero_is = absurd (omega (arith, is, zero_is))
runs_at a b Start status says is runs zero_is = absurd (omega (arith, is, zero_is))
runs_at a b (NotShown d) status says is runs zero_is = absurd (omega (arith, is, zero_is))

-- a verdict
pub of_verdict : (a b : Job) (v : Verdict) (status : ℕ) (text : List ℕ) → Says a b v → status ≡ verdict_status v → text ≡ verdict_text a v
    → (SameJob a b → RunAlike a b) → DueOfJobs a b status text
of_verdict a b v status text says is same runs = (v, says, is, same, runs_at a b v status says is runs)

-- the first input violates a rule, or the second, or neither
module _ (file other one two : List ℕ) where
  pub first_refused : (said : Explanation) (j : Judged) → IsJudged file one (judged.Refused said) → IsJudged other two j → DueFor file other one two said.status said.text.items
  first_refused said (judged.Job b) (refusal, judges, due) is = record { one = Err refusal; judged = judges; two = Ok b.design.job; judged_second = is; due = due }
  first_refused said (judged.Refused more) (refusal, judges, due) (second, is, _) =
      record { one = Err refusal; judged = judges; two = Err second; judged_second = is; due = due }

  pub second_refused : (a : Accepted) (said : Explanation) → IsJudged file one (judged.Job a) → IsJudged other two (judged.Refused said)
      → DueFor file other one two said.status said.text.items
  second_refused a said is (refusal, judges, due) = record { one = Ok a.design.job; judged = is; two = Err refusal; judged_second = judges; due = due }

  pub none_refused : (a b : Accepted) (status : ℕ) (text : List ℕ) → IsJudged file one (judged.Job a) → IsJudged other two (judged.Job b)
      → DueOfJobs a.design.job b.design.job status text → DueFor file other one two status text
  none_refused a b status text is more due = record { one = Ok a.design.job; judged = is; two = Ok b.design.job; judged_second = more; due = due }

-- a text that is written in pieces
pub four_pieces : (old front name part x y z named parted : List ℕ) → x ≡ old ++ front → y ≡ x ++ named → z ≡ y ++ parted → named ≡ name → parted ≡ part
    → z ≡ old ++ (front ++ (name ++ part))
four_pieces old front name part x y z named parted first second third is more =
    third ∙ ap (λ (p : List ℕ). p ++ parted) (second ∙ ap (λ (p : List ℕ). p ++ named) first)
    ∙ append_assoc (old ++ front) named parted ∙ append_assoc old front (named ++ parted)
    ∙ ap (λ (n : List ℕ). old ++ (front ++ (n ++ parted))) is ∙ ap (λ (p : List ℕ). old ++ (front ++ (name ++ p))) more

-- an input that was read is short
pub short_of : (old new : Option (List ℕ)) (i : Input) → ((taken : List ℕ) × IsRead old new taken × Holds i taken) → IsShort i
short_of old new (inputs.Text text) (taken, read, (is, few)) = subst (λ (t : List ℕ). length t ≤ 16777216) is few
short_of old new inputs.TooLong read = tt

-- what is said of the inputs that were read
pub due_of : (file other : List ℕ) (old new old_second new_second : Option (List ℕ)) (i j : Input) (status : ℕ) (text : List ℕ)
    → ((taken : List ℕ) × IsRead old new taken × Holds i taken) → ((taken : List ℕ) × IsRead old_second new_second taken × Holds j taken)
    → ((one two : List ℕ) → Holds i one → Holds j two → DueFor file other one two status text) → IsDue file other old new old_second new_second status text
due_of file other old new old_second new_second i j status text (one, read, holds) (two, more, holds_second) due =
    record { first = one; read = read; second = two; read_second = more; due = due one two holds holds_second }
