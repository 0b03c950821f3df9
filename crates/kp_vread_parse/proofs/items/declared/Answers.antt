use Rattle.std.proofs.Common.{◌∙◌, sym, arith, refl}
use Rattle.kp_grammar.specs.Machine.{make, goes}
use Rattle.kp_vread_parse.proofs.{Steps.exits, Picks.other}
use Rattle.kp_vread_parse.proofs.items.declared.Goals as goal

pub returns-in_err-next : goal.returns-in_err-next
returns-in_err-next c =
    exits _ _ _ c.from_residual.ensures.1 c.in_err-next.ensures (λ o h s vs. goes _ (other _ _ _ _ (sym c.if-is.false ∙ c.is.ensures) refl) (h _ _))

pub returns : goal.returns
returns c = record {
  leads = λ s vs o h. goes _ (other _ _ _ _ (sym c.if-is.false ∙ c.is.ensures) refl) (c.in_ok-next.ensures.leads _ _ _ (make (h)));
  shrinks = omega (arith, c.in_ok-next.ensures.shrinks);
}
