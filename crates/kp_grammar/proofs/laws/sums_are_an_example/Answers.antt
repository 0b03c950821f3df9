use Rattle.kp_grammar.proofs.Examples.{predictive, six, wrong_third, over_third, unranked}
use Rattle.std.proofs.Common.{refl}
use Rattle.kp_grammar.proofs.laws.sums_are_an_example.Goals as goal

pub returns-clause-predictive : goal.returns-clause-predictive
returns-clause-predictive c = predictive

pub returns-clause-ranked : goal.returns-clause-ranked
returns-clause-ranked c = refl

pub returns-clause-sentence : goal.returns-clause-sentence
returns-clause-sentence c = six

pub returns-clause-wrong : goal.returns-clause-wrong
returns-clause-wrong c = wrong_third

pub returns-clause-over : goal.returns-clause-over
returns-clause-over c = over_third

pub returns-clause-refused : goal.returns-clause-refused
returns-clause-refused c = (refl, refl, refl)

pub returns-clause-unranked : goal.returns-clause-unranked
returns-clause-unranked c some = unranked some
