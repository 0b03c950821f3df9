use Rattle.std.proofs.Common.{◌∙◌, sym, arith, refl}
use Rattle.kp_grammar.specs.Machine.{goes}
use Rattle.kp_vread_parse.proofs.{Steps.follows, Picks.other}
use Rattle.kp_vread_parse.proofs.items.item.Goals as goal

pub returns : goal.returns
returns c =
    follows _ _ _ _ _ _ _ _ _ _ _ _ (λ s vs o h. goes _ (other _ _ _ _ (sym c.if-is.false ∙ c.is.ensures) (other _ _ _ _ (sym c.if-is-2.false ∙ c.is-2.ensures) (other _ _ _ _ (sym c.if-is-3.false ∙ c.is-3.ensures) refl))) h) (omega (arith)) c.assignment.ensures
