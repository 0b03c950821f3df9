-- A job followed by what `pipe` wrote of it: `watch` finds no difference, and writes what `sim` does.
use Rattle.std.proofs.Common.{◌∙◌, ◌≡◌, ℕ, List, ◌++◌, Some, Ok, Err, ap, sym, subst, arith}
use Rattle.kp_ast.specs.declared.tree.Job.{Job}
use Rattle.kp_frontend.{specs.Judging.Judges, specs.Judging.JudgesText, specs.Judging.Judges.within, proofs.Verdicts.one_verdict}
use Rattle.kp_words.specs.declared.commands.{JobCommand.TheVariants.Sim, JobCommand.TheVariants.Pipe, Command.TheVariants.OnJob, Command.TheVariants.Watch}
use Rattle.kp_report.specs.Runs.{sim_text}
use Rattle.kp_tool.{specs.Due.DueFor, specs.Agreeing.IsWatched, proofs.Headline.judged_unbroken, proofs.Heads.EndsLine, proofs.Heads.ends_line}
use Rattle.kp_tool.proofs.Watches.{watched}

sim_says : (n : ℕ) (input : List ℕ) (job : Job) (answer : List ℕ) → Judges input (Ok job) → DueFor (Some (OnJob (Sim n))) input 0 answer → answer ≡ sim_text n job
sim_says n input job answer judged (Ok other, judged_too, said) =
    let same : other ≡ job = cc (one_verdict input _ _ judged_too judged) in
    said.1 ∙ ap (λ (j : Job). sim_text n j) same
sim_says n input job answer judged (Err refusal, judged_too, said) = absurd (omega (arith, said.0))

judged_text : (input : List ℕ) (job : Job) → Judges input (Ok job) → JudgesText input (Ok job)
judged_text input job (within short judged) = judged

pub pipe_is_watched : (input text : List ℕ) → DueFor (Some (OnJob Pipe)) input 0 text → IsWatched input text
pipe_is_watched input text (Ok job, judged, (zero, verilog)) front n answer is short sim =
    subst (λ (x : List ℕ). DueFor (Some (Watch n)) (input ++ text) 0 x) (sym (sim_says n input job answer judged sim))
    (watched input text job verilog (subst EndsLine (sym is) (ends_line front)) short n (judged_unbroken input job judged) (judged_text input job judged))
pipe_is_watched input text (Err refusal, judged, said) front n answer is short sim = absurd (omega (arith, said.0))
