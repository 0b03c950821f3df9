use Rattle.kp_grammar.proofs.{TableTests.decides, Ends.ends}
use Rattle.kp_grammar.proofs.laws.the_machine_ends.Goals as goal

pub returns : goal.returns
returns types c g tables rank fits ranks over n v ts = ends g tables rank (decides g.rules tables fits) ranks over n v ts
