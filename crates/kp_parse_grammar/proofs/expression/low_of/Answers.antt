use Rattle.std.proofs.{Common.arith, lemmas.Result.MatchResult-weaker}
use Rattle.kp_grammar.specs.Machine.{make}
use Rattle.kp_parse_grammar.proofs.{Steps.by_dropped, Steps.one, Steps.passed, Picks.low_1, Picks.low_else}
use Rattle.kp_parse_grammar.proofs.expression.low_of.Goals as goal

pub returns-in-None : goal.returns-in-None
returns-in-None c = record {
  leads = λ s cs vs o h. low_else c.in-None.ensures (make h);
  shrinks = omega arith;
}

pub returns-in-Some : goal.returns-in-Some
returns-in-Some c = MatchResult-weaker c.number.result c.number.ensures
    (λ x r. record {
      leads = λ s cs vs o h. low_1 c.in-Some.ensures (by_dropped c.in-Some.ensures (r.leads _ _ _ _ h));
      shrinks = omega (arith, one c.in-Some.ensures, r.shrinks);
    })
    (λ e f. passed f (λ o h s cs vs. low_1 c.in-Some.ensures (by_dropped c.in-Some.ensures (h _ _ _))))
