use Rattle.kp_parse.proofs.Picks.{arith, refl, make, by_dropped, one, optional, numbered_1, numbered_else}
use Rattle.kp_parse_grammar.specs.Language.{number, perhaps_number, some_number}
use Rattle.kp_parse.proofs.sections.numbered.Goals as goal

pub returns-in-None : goal.returns-in-None
returns-in-None c = record {
  leads = λ s cs vs o h. numbered_else c.in-None.ensures (make h);
  shrinks = omega arith;
}

pub returns-in-Some : goal.returns-in-Some
returns-in-Some c =
    optional _ _ _ _ _ number some_number perhaps_number c.number_before.result c.present.result c.number_before.ensures c.present.ensures (λ t cs vs. refl)
    (omega (arith, one c.in-Some.ensures)) (λ s cs vs o h. numbered_1 c.in-Some.ensures (by_dropped c.in-Some.ensures h))
