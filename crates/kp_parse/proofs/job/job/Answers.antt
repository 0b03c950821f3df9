use Rattle.std.proofs.lemmas.Result.{err_from_is_err_and}
use Rattle.kp_parse_grammar.{specs.Reading.JobGoes, proofs.Steps.mapped, proofs.Steps.accepted}
use Rattle.kp_parse.proofs.job.job.Goals as goal

pub returns-in_err-job-clause-goes : goal.returns-in_err-job-clause-goes
returns-in_err-job-clause-goes c =
    let p = err_from_is_err_and c.from_residual.result c.from_residual.ensures.1 in
    rw (p.1, p.2) (mapped (JobGoes c.args.tokens.now) c.in_err-job.ensures.goes (λ o h. h _ _ _))

pub returns-in-Err-clause-goes : goal.returns-in-Err-clause-goes
returns-in-Err-clause-goes c = mapped (JobGoes c.args.tokens.now) c.in-Err.ensures (λ o h. c.in_ok-job.ensures.goes.leads _ _ _ _ (h _))

pub returns-in-Ok-clause-goes : goal.returns-in-Ok-clause-goes
returns-in-Ok-clause-goes c = c.in_ok-job.ensures.goes.leads _ _ _ _ (accepted c.args.tokens.now c.in_ok-job.next c.in-Ok.ensures)

pub returns-in-Ok-clause-few : goal.returns-in-Ok-clause-few
returns-in-Ok-clause-few c = c.in_ok-job.ensures.few
