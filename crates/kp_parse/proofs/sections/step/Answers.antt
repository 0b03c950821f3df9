use Rattle.kp_parse.proofs.Picks.{arith, refl, make, by_dropped, one, optional, alone, step_1, step_else}
use Rattle.kp_parse_grammar.specs.Language.{number, perhaps_number, some_number}
use Rattle.kp_parse.proofs.sections.step.Goals as goal

pub returns-in-None : goal.returns-in-None
returns-in-None c = record {
  leads = λ s cs vs o h. step_else c.in-None.ensures (make h);
  shrinks = omega arith;
}

pub returns-in-Some : goal.returns-in-Some
returns-in-Some c =
    optional _ _ _ _ _ number some_number perhaps_number c.number.result c.present.result (alone _ _ _ _ number c.number.result c.number.ensures) c.present.ensures (λ t cs vs. refl)
    (omega (arith, one c.in-Some.ensures)) (λ s cs vs o h. step_1 c.in-Some.ensures (by_dropped c.in-Some.ensures h))
