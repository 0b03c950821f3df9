use Rattle.std.proofs.Common.{arith}
use Rattle.kp_grammar.specs.Machine.{make}
use Rattle.kp_vread_parse.proofs.Steps.{exits}
use Rattle.kp_vread_parse.proofs.module.lines.Goals as goal

pub returns-in_err-all : goal.returns-in_err-all
returns-in_err-all c = exits _ _ _ c.from_residual.ensures.1 c.in_err-all.ensures (λ o h s vs. make (h _ _))

pub returns-in_err-starts : goal.returns-in_err-starts
returns-in_err-starts c =
    exits _ _ _ c.from_residual-in_err-starts.ensures.1 c.in_err-starts.ensures (λ o h s vs. make (c.in_ok-all.ensures.leads _ _ _ (h _ _)))

pub returns : goal.returns
returns c = record {
  leads = λ s vs o h. make (c.in_ok-all.ensures.leads _ _ _ (c.in_ok-starts.ensures.leads _ _ _ (rw (c.new-items.ensures, c.new.ensures) at h)));
  shrinks = omega (arith, c.in_ok-all.ensures.shrinks, c.in_ok-starts.ensures.shrinks);
}
