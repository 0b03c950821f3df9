use Rattle.std.proofs.Common.{arith}
use Rattle.kp_grammar.specs.Machine.{make}
use Rattle.kp_vread_parse.proofs.{Steps.exits, Picks.behind_op}
use Rattle.kp_vread_parse.proofs.rights.binary.Goals as goal

pub returns-in_err-next : goal.returns-in_err-next
returns-in_err-next c = exits _ _ _ c.from_residual.ensures.1 c.in_err-next.ensures (λ o h s vs. behind_op _ _ c.mark_of.ensures c.requires (h _ _))

pub returns-in_err-second : goal.returns-in_err-second
returns-in_err-second c =
    exits _ _ _ c.from_residual-in_err-second.ensures.1 c.in_err-second.ensures (λ o h s vs. behind_op _ _ c.mark_of.ensures c.requires (c.in_ok-next.ensures.leads _ _ _ (h _ _)))

pub returns : goal.returns
returns c = record {
  leads = λ s vs o h. behind_op _ _ c.mark_of.ensures c.requires (c.in_ok-next.ensures.leads _ _ _ (c.in_ok-second.ensures.leads _ _ _ (make (h))));
  shrinks = omega (arith, c.in_ok-next.ensures.shrinks, c.in_ok-second.ensures.shrinks);
}
