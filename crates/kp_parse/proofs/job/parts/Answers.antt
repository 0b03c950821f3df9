use Rattle.kp_parse.proofs.Picks.{arith, make, exits}
use Rattle.kp_parse.proofs.job.parts.Goals as goal

pub returns-in_err-decls : goal.returns-in_err-decls
returns-in_err-decls c = exits _ _ _ c.from_residual.ensures.1 c.in_err-decls.ensures (λ o h s cs vs. make (h _ _ _))

pub returns-in_err-first : goal.returns-in_err-first
returns-in_err-first c =
    exits _ _ _ c.from_residual-in_err-first.ensures.1 c.in_err-first.ensures (λ o h s cs vs. make (c.in_ok-decls.ensures.leads _ _ _ _ (make (h _ _ _))))

pub returns-in_err-blocks : goal.returns-in_err-blocks
returns-in_err-blocks c =
    exits _ _ _ c.from_residual-in_err-blocks.ensures.1 c.in_err-blocks.ensures (λ o h s cs vs. make (c.in_ok-decls.ensures.leads _ _ _ _ (make (c.in_ok-first.ensures.leads _ _ _ _ (make (h _ _ _))))))

pub returns : goal.returns
returns c = record {
  leads = λ s cs vs o h. make (c.in_ok-decls.ensures.leads _ _ _ _ (make (c.in_ok-first.ensures.leads _ _ _ _ (make (c.in_ok-blocks.ensures.leads _ _ _ _ (h))))));
  shrinks = omega (arith, c.in_ok-decls.ensures.shrinks, c.in_ok-first.ensures.shrinks, c.in_ok-blocks.ensures.shrinks);
}
