use Rattle.std.proofs.Common.{◌∙◌, sym, arith, refl}
use Rattle.kp_grammar.specs.Machine.{make, goes}
use Rattle.kp_vread_parse.proofs.{Steps.exits, Steps.follows, Picks.goes_at, Picks.other}
use Rattle.kp_vread_parse.proofs.rights.indexed.Goals as goal

pub returns-in_err-next : goal.returns-in_err-next
returns-in_err-next c = exits _ _ _ c.from_residual.ensures.1 c.in_err-next.ensures (λ o h s vs. goes_at _ c.requires refl (h _ _))

pub returns-then-is_number : goal.returns-then-is_number
returns-then-is_number c =
    follows _ _ _ _ _ _ _ _ _ _ _ _ (λ s vs o h. goes_at _ c.requires refl (c.in_ok-next.ensures.leads _ _ _ h)) (omega (arith, c.in_ok-next.ensures.shrinks)) c.slice.ensures

pub returns-in_err-address : goal.returns-in_err-address
returns-in_err-address c =
    exits _ _ _ c.from_residual-in_err-address.ensures.1 c.in_err-address.ensures (λ o h s vs. goes_at _ c.requires refl (c.in_ok-next.ensures.leads _ _ _ (goes _ (other _ _ _ _ (sym c.if-is_number.false ∙ c.is_number.ensures) refl) (h _ _))))

pub returns : goal.returns
returns c = record {
  leads = λ s vs o h. goes_at _ c.requires refl (c.in_ok-next.ensures.leads _ _ _ (goes _ (other _ _ _ _ (sym c.if-is_number.false ∙ c.is_number.ensures) refl) (c.in_ok-address.ensures.leads _ _ _ (make h))));
  shrinks = omega (arith, c.in_ok-next.ensures.shrinks, c.in_ok-address.ensures.shrinks);
}
