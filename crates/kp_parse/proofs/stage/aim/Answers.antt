use Rattle.kp_parse.proofs.Picks.{arith, make, by_placed, one, exits, stmt_aim}
use Rattle.kp_parse.proofs.stage.aim.Goals as goal

pub returns-in_err-place : goal.returns-in_err-place
returns-in_err-place c =
    exits _ _ _ c.from_residual.ensures.1 c.in_err-place.ensures (λ o h s cs vs. stmt_aim c.requires.no_read c.requires.no_let c.requires.no_put c.requires.no_set (h _ _ _))

pub returns-in_err-name : goal.returns-in_err-name
returns-in_err-name c =
    exits _ _ _ c.from_residual-in_err-name.ensures.1 c.in_err-name.ensures (λ o h s cs vs. stmt_aim c.requires.no_read c.requires.no_let c.requires.no_put c.requires.no_set (by_placed c.in_ok-place.ensures (h _ _ _)))

pub returns : goal.returns
returns c = record {
  leads = λ s cs vs o h. stmt_aim c.requires.no_read c.requires.no_let c.requires.no_put c.requires.no_set (by_placed c.in_ok-place.ensures (c.in_ok-name.ensures.leads _ _ _ _ (make h)));
  shrinks = omega (arith, one c.in_ok-place.ensures, c.in_ok-name.ensures.shrinks);
}
