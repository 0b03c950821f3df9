use Rattle.kp_parse.proofs.Picks.{arith, by_dropped, one, exits, tailed}
use Rattle.kp_parse_grammar.specs.Language.{named}
use Rattle.kp_parse.proofs.job.title.Goals as goal

pub returns-in_err-_machine : goal.returns-in_err-_machine
returns-in_err-_machine c = exits _ _ _ c.from_residual.ensures.1 c.in_err-_machine.ensures (λ o h s cs vs. h _ _ _)

pub returns : goal.returns
returns c =
    tailed _ _ _ _ _ named _ c.name_before.result c.name_before.ensures (omega (arith, one c.in_ok-_machine.ensures)) (λ s cs vs o h. by_dropped c.in_ok-_machine.ensures h)
