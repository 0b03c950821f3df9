-- The known properties of a job that violates no rule, and that its dump fits the form.
use Rattle.std.proofs.Common.{◌≡◌, ◌∙◌, ℕ, ◌<◌, ◌^◌, List, [], ◌∷◌, None, Result, Ok, sym, map}
use Rattle.kp_base.specs.First.{first}
use Rattle.kp_ast.specs.declared.tree.Job.{Job}
use Rattle.kp_width.specs.{TextOrder.declared_names, Widths.widths_of, Widths.width_broken}
use Rattle.kp_width.proofs.Listed.{unbroken_widths}
use Rattle.kp_stage.{specs.Stages.broken_of, proofs.Unbroken.first_none}
use Rattle.kp_image.specs.Sections.{sections_of}
use Rattle.kp_frontend.specs.Judging.{Judges, JudgesHead, IsSentenceOf, broken_in, Judges.within, JudgesText.accepted, JudgesHead.head_within}
use Rattle.kp_frontend.specs.Judging.JudgesHeadText.{head_accepted}
use Rattle.kp_lex.specs.declared.token.Lexed.{Lexed}
use Rattle.kp_vcd.specs.{declared.dump.Dump.Dump, Reading.Fault, Reading.verdict, Fitting.FitsForm, Dumps.vcd_dump, Accepted.IsAccepted}
use Rattle.kp_vcd.specs.Accepted.IsAccepted.{of_input, of_head}
use Rattle.kp_vcd.proofs.{Named.JobNamed, Named.job_named, Fitting.dump_fits}

record Kept (job : Job) : Type 0 where
  named : JobNamed job
  widths : first (widths_of job).asked ≡ None
  stages : broken_of job ≡ None
  sections : first (sections_of job).asked ≡ None

kept : (text : List ℕ) (lexed : Lexed) (job : Job) → IsSentenceOf text lexed job → broken_in job ≡ None → Kept job
unfolding broken_in
kept text lexed job sentence e =
    let a = first_none (width_broken job) (broken_of job ∷ first (sections_of job).asked ∷ []) e in
    let b = first_none (broken_of job) (first (sections_of job).asked ∷ []) a.1 in
    let c = first_none (first (sections_of job).asked) [] b.1 in
    record { named = job_named text lexed job sentence.tokens sentence.tree; widths = unbroken_widths job a.0; stages = b.0; sections = c.0 }

input_kept : (input : List ℕ) (job : Job) → Judges input (Ok job) → Kept job
input_kept input job (within short (accepted describes e)) = kept input describes.lexed job describes.sentence e

head_kept : (input : List ℕ) (job : Job) (rest : ℕ) → JudgesHead input (Ok (job, rest)) → Kept job
head_kept input job rest (head_within short (head_accepted {lexed = lexed} sentence e)) = kept input lexed job sentence e

job_kept : (job : Job) → IsAccepted job → Kept job
job_kept job (of_input {input = input} h) = input_kept input job h
job_kept job (of_head {input = input} {rest = rest} h) = head_kept input job rest h

abbrev reported : Dump → Result Dump Fault
reported d = Ok d

pub job_fits : ((job : Job) → map (λ e. e.name) (widths_of job).value ≡ declared_names job) → (job : Job) (n : ℕ) → IsAccepted job → n < 2 ^ 64 → FitsForm (vcd_dump n job)
job_fits entries job n h small = let k = job_kept job h in dump_fits job (entries job) k.named k.widths k.stages k.sections n small

-- a text is read as one dump
pub same_dump : (text : List ℕ) (a b : Dump) → verdict text ≡ Ok a → verdict text ≡ Ok b → a ≡ b
same_dump text a b e f = one (sym e ∙ f)
  where
    one : reported a ≡ reported b → a ≡ b
    one e = cc
