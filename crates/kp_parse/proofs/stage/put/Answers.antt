use Rattle.kp_parse.proofs.Picks.{arith, refl, make, by_placed, one, exits, isnt_end, stmt_put}
use Rattle.kp_parse.proofs.stage.put.Goals as goal

pub returns-in_err-name : goal.returns-in_err-name
returns-in_err-name c =
    exits _ _ _ c.from_residual.ensures.1 c.in_err-name.ensures (λ o h s cs vs. stmt_put c.requires (by_placed (c.taken-next.ensures _ c.requires) (h _ _ _)))

pub returns : goal.returns
returns c = record {
  leads = λ s cs vs o h. stmt_put c.requires (by_placed (c.taken-next.ensures _ c.requires) (c.in_ok-name.ensures.leads _ _ _ _ (make h)));
  shrinks = omega (arith, one (c.taken-next.ensures _ c.requires), c.in_ok-name.ensures.shrinks);
}

pub taken-next-requires : goal.taken-next-requires
taken-next-requires c = isnt_end _ _ c.requires refl
