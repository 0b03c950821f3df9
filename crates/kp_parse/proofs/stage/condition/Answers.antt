use Rattle.kp_parse.proofs.Picks.{arith, refl, make, by_dropped, one, exits, isnt_end, hedge_when}
use Rattle.kp_parse.proofs.stage.condition.Goals as goal

pub returns-in_err-condition : goal.returns-in_err-condition
returns-in_err-condition c =
    exits _ _ _ c.from_residual.ensures.1 c.in_err-condition.ensures (λ o h s cs vs. hedge_when c.requires (by_dropped (c.taken-next.ensures _ c.requires) (h _ _ _)))

pub returns : goal.returns
returns c = record {
  leads = λ s cs vs o h. hedge_when c.requires (by_dropped (c.taken-next.ensures _ c.requires) (c.in_ok-condition.ensures.leads _ _ _ _ (make (h))));
  shrinks = omega (arith, one (c.taken-next.ensures _ c.requires), c.in_ok-condition.ensures.shrinks);
}

pub taken-next-requires : goal.taken-next-requires
taken-next-requires c = isnt_end _ _ c.requires refl
