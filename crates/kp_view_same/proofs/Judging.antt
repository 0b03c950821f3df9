-- An input is judged as its text is.
use Rattle.std.proofs.Common.{◌≡◌, ◌∙◌, ◌≤◌, ℕ, Bool, false, List, length, Option, Some, Ok, Err, ap, subst, arith}
use Rattle.kp_base.specs.declared.refusal.Refusal.{Refusal}
use Rattle.kp_frontend.{specs.Judging.Judges.over, specs.Judging.Judges.within, specs.Judging.JudgesText, specs.Judging.most_bytes, specs.Judging.too_long, specs.declared.accepted.Accepted.Accepted, proofs.Verdicts.one_verdict}
use Rattle.kp_view_explain.specs.{Explaining.ExplainsText, Explaining.Says, Explaining.rule_of, declared.explanation.Explanation.Explanation, declared.words.Subject.Subject}
use Rattle.kp_view_explain.specs.declared.words.Subject.TheVariants as subjects
use Rattle.kp_view_same.specs.inner.Inputs.{Holds, IsJudged}
use Rattle.kp_view_same.specs.declared.input.Input.TheVariants as inputs
use Rattle.kp_view_same.specs.declared.judged.Judged.TheVariants as judged

pub of_excess : (file taken : List ℕ) (said : Explanation) → ((subject : Subject) (strict : Bool) (input : List ℕ) → Says subject strict file input (Some too_long) said.status said.text.items)
    → Holds inputs.TooLong taken → IsJudged file taken (judged.Refused said)
of_excess file taken said says long = (too_long, over (omega (arith, long)), says subjects.Job false taken)

pub accepted : (file text : List ℕ) (job : Accepted) → length text ≤ most_bytes → JudgesText text (Ok job.design.job) → IsJudged file text (judged.Job job)
accepted file text job few judges = within few judges

pub refused : (file text : List ℕ) (refusal : Refusal) (said : Explanation) → length text ≤ most_bytes → JudgesText text (Err refusal)
    → ExplainsText subjects.Job false file text said.status said.text.items → IsJudged file text (judged.Refused said)
refused file text refusal said few judges (found, (verdict, finds, is), says) =
    let same = one_verdict text verdict (Err refusal) (within few finds) (within few judges) in
    let e : found ≡ Some refusal = is ∙ ap rule_of same in
    (refusal, within few judges, subst (λ (o : Option Refusal). Says subjects.Job false file text o said.status said.text.items) e says)
