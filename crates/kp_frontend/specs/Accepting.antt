-- The result of a call that judges a text.
use Rattle.std.specs.Prelude.{ℕ, List, Result, Ok, Err, ⊤}
use Rattle.kp_base.specs.declared.refusal.Refused.{Refused, TheVariants.Rule, TheVariants.NoMemory}
use Rattle.kp_frontend.specs.{Judging.JudgesText, Judging.JudgesHeadText, declared.accepted.Accepted.Accepted, declared.accepted.Head.Head}

-- the accepted job, or the first rule that the text violates; unspecified if out of memory
abbrev pub AnswersText : List ℕ → Result Accepted Refused → Type 0
AnswersText text (Ok a) = JudgesText text (Ok a.design.job)
AnswersText text (Err (Rule refusal)) = JudgesText text (Err refusal)
AnswersText text (Err NoMemory) = ⊤

-- the job at the head of the text, and where the rest starts; or the first rule that the head violates
abbrev pub AnswersHead : List ℕ → Result Head Refused → Type 0
AnswersHead text (Ok h) = JudgesHeadText text (Ok (h.job.design.job, h.rest))
AnswersHead text (Err (Rule refusal)) = JudgesHeadText text (Err refusal)
AnswersHead text (Err NoMemory) = ⊤
