use Rattle.std.proofs.Common.{◌∙◌, sym, arith, refl}
use Rattle.kp_grammar.specs.Machine.{goes}
use Rattle.kp_vread_parse.proofs.{Steps.exits, Steps.follows, Picks.other}
use Rattle.kp_vread_parse.proofs.inits.init.Goals as goal

pub returns-in_err-name : goal.returns-in_err-name
returns-in_err-name c =
    exits _ _ _ c.from_residual.ensures.1 c.in_err-name.ensures (λ o h s vs. goes _ (other _ _ _ _ (sym c.if-is.false ∙ c.is.ensures) refl) (h _ _))

pub returns : goal.returns
returns c =
    follows _ _ _ _ _ _ _ _ _ _ _ _ (λ s vs o h. goes _ (other _ _ _ _ (sym c.if-is.false ∙ c.is.ensures) refl) (c.in_ok-name.ensures.leads _ _ _ (h))) (omega (arith, c.in_ok-name.ensures.shrinks)) c.start.ensures
