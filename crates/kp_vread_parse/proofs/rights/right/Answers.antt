use Rattle.std.proofs.Common.{◌∙◌, sym, arith, refl}
use Rattle.kp_grammar.specs.Machine.{goes}
use Rattle.kp_vread_parse.proofs.{Steps.exits, Steps.follows, Picks.other}
use Rattle.kp_vread_parse.proofs.rights.right.Goals as goal

pub returns-in_err-first : goal.returns-in_err-first
returns-in_err-first c =
    exits _ _ _ c.from_residual.ensures.1 c.in_err-first.ensures (λ o h s vs. goes _ (other _ _ _ _ (sym c.if-is_literal.false ∙ c.is_literal.ensures) (other _ _ _ _ (sym c.if-is.false ∙ c.is.ensures) (other _ _ _ _ (sym c.if-is-2.false ∙ c.is-2.ensures) refl))) (h _ _))

pub returns : goal.returns
returns c =
    follows _ _ _ _ _ _ _ _ _ _ _ _ (λ s vs o h. goes _ (other _ _ _ _ (sym c.if-is_literal.false ∙ c.is_literal.ensures) (other _ _ _ _ (sym c.if-is.false ∙ c.is.ensures) (other _ _ _ _ (sym c.if-is-2.false ∙ c.is-2.ensures) refl))) (c.in_ok-first.ensures.leads _ _ _ h)) (omega (arith, c.in_ok-first.ensures.shrinks)) c.after_name.ensures
