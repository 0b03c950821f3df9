use Rattle.std.proofs.Common.{◌∙◌, sym, arith, refl}
use Rattle.kp_grammar.specs.Machine.{goes}
use Rattle.kp_vread_parse.proofs.{Steps.exits, Steps.follows, Picks.goes_at, Picks.other}
use Rattle.kp_vread_parse.proofs.edges.update.Goals as goal

pub returns-in_err-test : goal.returns-in_err-test
returns-in_err-test c = exits _ _ _ c.from_residual.ensures.1 c.in_err-test.ensures (λ o h s vs. goes_at _ (sym c.if-is.true ∙ c.is.ensures) refl (h _ _))

pub returns-then-is : goal.returns-then-is
returns-then-is c =
    follows _ _ _ _ _ _ _ _ _ _ _ _ (λ s vs o h. goes_at _ (sym c.if-is.true ∙ c.is.ensures) refl (c.in_ok-test.ensures.leads _ _ _ h)) (omega (arith, c.in_ok-test.ensures.shrinks)) c.file_update.ensures

pub returns : goal.returns
returns c = follows _ _ _ _ _ _ _ _ _ _ _ _ (λ s vs o h. goes _ (other _ _ _ _ (sym c.if-is.false ∙ c.is.ensures) refl) h) (omega (arith)) c.reg_update.ensures
