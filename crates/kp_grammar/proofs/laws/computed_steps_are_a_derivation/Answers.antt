use Rattle.kp_grammar.proofs.Derivations.{computed}
use Rattle.kp_grammar.proofs.laws.computed_steps_are_a_derivation.Goals as goal

pub returns : goal.returns
returns types c g tables k s s' v v' ts left config e d = computed g tables k e d
