use Rattle.std.proofs.Common.{◌∙◌, sym, arith, refl}
use Rattle.kp_grammar.specs.Machine.{make, goes}
use Rattle.kp_vread_parse.proofs.{Steps.exits, Picks.other}
use Rattle.kp_vread_parse.proofs.ports.stalls.Goals as goal

pub returns-in_err-range : goal.returns-in_err-range
returns-in_err-range c =
    exits _ _ _ c.from_residual.ensures.1 c.in_err-range.ensures (λ o h s vs. goes _ (other _ _ _ _ (sym c.if-is_name.false ∙ c.is_name.ensures) refl) (make (h _ _)))

pub returns-in_err-port : goal.returns-in_err-port
returns-in_err-port c =
    exits _ _ _ c.from_residual-in_err-port.ensures.1 c.in_err-port.ensures (λ o h s vs. goes _ (other _ _ _ _ (sym c.if-is_name.false ∙ c.is_name.ensures) refl) (make (c.in_ok-range.ensures.leads _ _ _ (h _ _))))

pub returns-in_err-next : goal.returns-in_err-next
returns-in_err-next c =
    exits _ _ _ c.from_residual-in_err-next.ensures.1 c.in_err-next.ensures (λ o h s vs. goes _ (other _ _ _ _ (sym c.if-is_name.false ∙ c.is_name.ensures) refl) (make (c.in_ok-range.ensures.leads _ _ _ (c.in_ok-port.ensures.leads _ _ _ (make (h _ _))))))

pub returns : goal.returns
returns c = record {
  leads = λ s vs o h. goes _ (other _ _ _ _ (sym c.if-is_name.false ∙ c.is_name.ensures) refl) (make (c.in_ok-range.ensures.leads _ _ _ (c.in_ok-port.ensures.leads _ _ _ (make (c.in_ok-next.ensures.leads _ _ _ (h))))));
  shrinks = omega (arith, c.in_ok-range.ensures.shrinks, c.in_ok-port.ensures.shrinks, c.in_ok-next.ensures.shrinks);
}
