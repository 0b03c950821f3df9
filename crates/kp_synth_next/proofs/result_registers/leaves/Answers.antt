use Rattle.std.proofs.Common.{◌≡◌, Some, None, get_or}
use Rattle.kp_synth_next.proofs.Arms.{leaves_none, leaves_some}
use Rattle.kp_synth_next.proofs.result_registers.leaves.Goals as goal

pub returns-in-Some-clause-gives : goal.returns-in-Some-clause-gives
returns-in-Some-clause-gives c =
    let e : get_or c.args.out.now.sets c.args.target None ≡ Some c.in-Some.set = cc (c.in-Some.is, c.as_slice.ensures) in
    leaves_some _ _ _ _ _ _ _ c.args.out.now c.result_in-stored.result c.in-Some.set c.first_of.result c.result_in-stored.ensures.grown.kept c.requires.says c.requires.target e c.result_in-stored.ensures.gives c.first_of.ensures.is

pub returns-in-None-clause-gives : goal.returns-in-None-clause-gives
returns-in-None-clause-gives c =
    let e : get_or c.args.out.now.sets c.args.target None ≡ None = cc (c.in-None.is, c.as_slice.ensures) in
    leaves_none _ _ _ _ _ _ c.args.out.now c.result_in-stored.result c.result_in-stored.ensures.grown.kept c.requires.says c.requires.target e c.result_in-stored.ensures.gives
