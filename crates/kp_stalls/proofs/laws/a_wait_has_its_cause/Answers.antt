use Rattle.kp_stalls.proofs.Causing.{has_cause}
use Rattle.kp_stalls.proofs.laws.a_wait_has_its_cause.Goals as goal

pub returns : goal.returns
returns c = λ job given now i r stages k names rules acc must shows right below full hazard settled.
    has_cause job given now i r stages names rules acc must shows k right below full hazard settled
