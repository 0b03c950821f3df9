use Rattle.kp_width.proofs.Calls.{declared_calls_fit}
use Rattle.kp_width.proofs.laws.a_call_has_its_width.Goals as goal

pub returns : goal.returns
returns c ds name m args unbroken found callee fit = ((declared_calls_fit ds unbroken).fits.calls_fit name m found callee args fit).has
