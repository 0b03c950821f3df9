use Rattle.std.{proofs.Common.◌∙◌, proofs.Common.ap, proofs.Common.sym, specs.Prelude.not}
use Rattle.kp_lint.specs.{Lints.of_decl, Lints.warn_if, inner.Noted.facts_in}
use Rattle.kp_lint.specs.declared.lint.Lint.TheVariants as lints
use Rattle.kp_lint.proofs.names.of_decl.Goals as goal

pub returns-in-Pipe : goal.returns-in-Pipe
returns-in-Pipe c =
    c.warn_if.ensures ∙ ap (λ b. warn_if (not b) lints.UnusedPipe c.in-Pipe.named.at) c.is_pipe_used.ensures
    ∙ ap (of_decl (facts_in c.args.facts.now) c.args.facts.now.job.now c.args.number) (sym c.in-Pipe.is)

pub returns-in-Reg : goal.returns-in-Reg
returns-in-Reg c =
    c.warn_if-in-Reg.ensures ∙ ap (λ b. warn_if (not b) lints.NoResult c.in-Reg.named.at) c.has_result.ensures
    ∙ ap (of_decl (facts_in c.args.facts.now) c.args.facts.now.job.now c.args.number) (sym c.in-Reg.is)
