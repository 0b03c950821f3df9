use Rattle.kp_parse.proofs.Picks.{arith, by_dropped, one, exits, tailed}
use Rattle.kp_parse_grammar.specs.Language.{number}
use Rattle.kp_parse.proofs.declaration.setting.Goals as goal

pub returns-in_err-_word : goal.returns-in_err-_word
returns-in_err-_word c = exits _ _ _ c.from_residual.ensures.1 c.in_err-_word.ensures (λ o h s cs vs. h _ _ _)

pub returns : goal.returns
returns c =
    tailed _ _ _ _ _ number _ c.number_before.result c.number_before.ensures (omega (arith, one c.in_ok-_word.ensures)) (λ s cs vs o h. by_dropped c.in_ok-_word.ensures h)
