use Rattle.kp_parse.proofs.Picks.{arith, refl, make, by_dropped, one, optional, address_1, address_else}
use Rattle.kp_parse_grammar.specs.Language.{expr, perhaps_expr, some_expr}
use Rattle.kp_parse.proofs.stage.address.Goals as goal

pub returns-in-None : goal.returns-in-None
returns-in-None c = record {
  leads = λ s cs vs o h. address_else c.in-None.ensures (make h);
  shrinks = omega arith;
}

pub returns-in-Some : goal.returns-in-Some
returns-in-Some c =
    optional _ _ _ _ _ expr some_expr perhaps_expr c.expression_before.result c.present.result c.expression_before.ensures c.present.ensures (λ t cs vs. refl)
    (omega (arith, one c.in-Some.ensures)) (λ s cs vs o h. address_1 c.in-Some.ensures (by_dropped c.in-Some.ensures h))
