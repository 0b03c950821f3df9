use Rattle.kp_parse.proofs.Picks.{arith, refl, make, by_dropped, one, optional, index_1, index_else}
use Rattle.kp_parse_grammar.specs.Language.{named, perhaps_named, some_name}
use Rattle.kp_parse.proofs.declaration.index.Goals as goal

pub returns-in-None : goal.returns-in-None
returns-in-None c = record {
  leads = λ s cs vs o h. index_else c.in-None.ensures (make h);
  shrinks = omega arith;
}

pub returns-in-Some : goal.returns-in-Some
returns-in-Some c =
    optional _ _ _ _ _ named some_name perhaps_named c.name_before.result c.present.result c.name_before.ensures c.present.ensures (λ t cs vs. refl)
    (omega (arith, one c.in-Some.ensures)) (λ s cs vs o h. index_1 c.in-Some.ensures (by_dropped c.in-Some.ensures h))
