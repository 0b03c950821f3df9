use Rattle.std.proofs.Common.{◌≡◌, Some, None, get_or}
use Rattle.kp_synth_next.proofs.Arms.{hint_some, hint_none}
use Rattle.kp_synth_next.proofs.pipeline_registers.next_hint.Goals as goal

pub returns-in-Some-clause-gives : goal.returns-in-Some-clause-gives
returns-in-Some-clause-gives c =
    let e : get_or c.args.out.now.aims c.args.hint None ≡ Some c.in-Some.node = cc (c.in-Some.is, c.as_slice.ensures) in
    hint_some _ c.args.pool.now _ _ _ c.args.out.now c.in-Some.node c.args.update c.kept-own.result _ c.requires.says c.requires.hint c.requires.stage e c.requires.updates c.kept-own.ensures.value c.choose.ensures.value

pub returns-in-None-clause-gives : goal.returns-in-None-clause-gives
returns-in-None-clause-gives c =
    let e : get_or c.args.out.now.aims c.args.hint None ≡ None = cc (c.in-None.is, c.as_slice.ensures) in
    hint_none _ _ _ _ c.args.out.now c.kept-own.result c.requires.says c.requires.hint c.requires.stage e c.kept-own.ensures.value
