use Rattle.kp_grammar.proofs.Prefix.{front_alone}
use Rattle.kp_grammar.proofs.laws.a_derivation_reads_a_front.Goals as goal

pub returns : goal.returns
returns types c g s s' v v' ts left d = front_alone g d
