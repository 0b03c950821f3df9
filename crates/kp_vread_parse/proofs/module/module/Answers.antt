use Rattle.std.proofs.{Common.[], lemmas.Result.err_from_is_err_and}
use Rattle.kp_vread_parse.{specs.inner.Reading.ModuleGoes, proofs.Steps.mapped, proofs.Steps.accepted}
use Rattle.kp_vread_parse.proofs.module.module.Goals as goal

pub returns-in_err-parsed : goal.returns-in_err-parsed
returns-in_err-parsed c =
    let p = err_from_is_err_and c.from_residual.result c.from_residual.ensures.1 in
    rw (p.1, p.2) (mapped (ModuleGoes c.args.tokens.now) c.in_err-parsed.ensures (λ o h. h _ _))

pub returns-in-Ok : goal.returns-in-Ok
returns-in-Ok c = c.in_ok-parsed.ensures.leads [] [] _ (accepted c.args.tokens.now c.in_ok-parsed.next c.in-Ok.ensures)

pub returns-in-Err : goal.returns-in-Err
returns-in-Err c = mapped (ModuleGoes c.args.tokens.now) c.in-Err.ensures (λ o h. c.in_ok-parsed.ensures.leads [] [] _ (h _))
