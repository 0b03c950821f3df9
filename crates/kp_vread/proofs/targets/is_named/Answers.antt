use Rattle.std.proofs.Common.{◌∙◌}
use Rattle.kp_vread.proofs.Names.{front_there, front_missing}
use Rattle.kp_vread.proofs.targets.is_named.Goals as goal

pub returns-in-Some : goal.returns-in-Some
returns-in-Some c =
    let found = rw c.bytes.ensures.bytes at c.in-Some.ensures.cases in
    (rw c.bytes-in-Some.ensures.bytes at c.eq.ensures) ∙ front_there c.args.label.now c.args.front.now c.args.name.now c.in-Some.behind.now found.0 found.1

pub returns-in-None : goal.returns-in-None
returns-in-None c =
    front_missing c.args.label.now c.args.front.now c.args.name.now (rw c.bytes.ensures.bytes at c.in-None.ensures.cases)
