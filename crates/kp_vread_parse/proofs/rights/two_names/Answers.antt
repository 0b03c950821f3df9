use Rattle.std.proofs.Common.{arith}
use Rattle.kp_grammar.specs.Machine.{make}
use Rattle.kp_vread_parse.proofs.Steps.{on_top, exits}
use Rattle.kp_vlog.specs.Language.{names}
use Rattle.kp_vread_parse.proofs.rights.two_names.Goals as goal

pub returns-in_err-first : goal.returns-in_err-first
returns-in_err-first c = exits _ _ _ c.from_residual.ensures.1 c.in_err-first.ensures (λ o h s vs. h _ _)

pub returns-in_err-second : goal.returns-in_err-second
returns-in_err-second c = exits _ _ _ c.from_residual-in_err-second.ensures.1 c.in_err-second.ensures (λ o h s vs. c.in_ok-first.ensures.leads _ _ _ (h _ _))

pub returns : goal.returns
returns c = record {
  leads = λ s vs o h. c.in_ok-first.ensures.leads _ _ _ (c.in_ok-second.ensures.leads _ _ _ (make (on_top names c.in_ok-two.ensures.items (h))));
  shrinks = omega (arith, c.in_ok-first.ensures.shrinks, c.in_ok-second.ensures.shrinks);
}
