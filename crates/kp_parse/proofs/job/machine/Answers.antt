use Rattle.kp_parse.proofs.Picks.{arith, make, exits, job_is}
use Rattle.std.proofs.Common.{length-drop}
use Rattle.kp_parse_grammar.specs.Tokens.{Lexeme}
use Rattle.kp_parse.proofs.job.machine.Goals as goal

pub returns-in_err-name-clause-goes : goal.returns-in_err-name-clause-goes
returns-in_err-name-clause-goes c = exits _ _ _ c.from_residual.ensures.1 c.in_err-name.ensures (λ o h s cs vs. job_is (h _ _ _))

pub returns-in_err-stages-clause-goes : goal.returns-in_err-stages-clause-goes
returns-in_err-stages-clause-goes c =
    exits _ _ _ c.from_residual-in_err-stages.ensures.1 c.in_err-stages.ensures (λ o h s cs vs. job_is (c.in_ok-name.ensures.leads _ _ _ _ (h _ _ _)))

pub returns-in_err-decls-clause-goes : goal.returns-in_err-decls-clause-goes
returns-in_err-decls-clause-goes c =
    exits _ _ _ c.from_residual-in_err-decls.ensures.1 c.in_err-decls.ensures (λ o h s cs vs. job_is (c.in_ok-name.ensures.leads _ _ _ _ (c.in_ok-stages.ensures.leads _ _ _ _ (h _ _ _))))

pub returns-in_err-image-clause-goes : goal.returns-in_err-image-clause-goes
returns-in_err-image-clause-goes c =
    exits _ _ _ c.from_residual-in_err-image.ensures.1 c.in_err-image.ensures (λ o h s cs vs. job_is (c.in_ok-name.ensures.leads _ _ _ _ (c.in_ok-stages.ensures.leads _ _ _ _ (c.in_ok-decls.ensures.leads _ _ _ _ (h _ _ _)))))

pub returns-clause-goes : goal.returns-clause-goes
returns-clause-goes c = record {
  leads = λ s cs vs o h. job_is (c.in_ok-name.ensures.leads _ _ _ _ (c.in_ok-stages.ensures.leads _ _ _ _ (c.in_ok-decls.ensures.leads _ _ _ _ (c.in_ok-image.ensures.leads _ _ _ _ (make (rw (c.new.ensures, c.new-2.ensures) at h))))));
  shrinks = omega (arith, c.in_ok-name.ensures.shrinks, c.in_ok-stages.ensures.shrinks, c.in_ok-decls.ensures.shrinks, c.in_ok-image.ensures.shrinks);
}

pub returns-clause-few : goal.returns-clause-few
returns-clause-few c = rw (c.new.ensures, c.new-2.ensures) (
  omega (arith, c.in_ok-decls.ensures.shrinks, length-drop {A = Lexeme}),
  omega (arith, c.in_ok-decls.ensures.shrinks, length-drop {A = Lexeme}),
)
