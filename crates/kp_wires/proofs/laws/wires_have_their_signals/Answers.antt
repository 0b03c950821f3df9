use Rattle.kp_wires.proofs.True.{all_true}
use Rattle.kp_wires.proofs.laws.wires_have_their_signals.Goals as goal

pub returns : goal.returns
returns c = all_true
