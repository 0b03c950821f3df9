use Rattle.std.proofs.Common.{◌≡◌, Some, None, get_or}
use Rattle.kp_synth_next.proofs.Arms.{put_some, put_none, put_wire}
use Rattle.kp_synth_next.proofs.pipeline_registers.pipe_leaving.Goals as goal

pub returns-in-Some-clause-wire : goal.returns-in-Some-clause-wire
returns-in-Some-clause-wire c =
    let e : get_or c.args.out.now.puts c.args.pipe None ≡ Some c.in-Some.node = cc (c.in-Some.is, c.as_slice.ensures) in
    put_wire _ _ _ _ c.args.out.now c.in-Some.node c.requires.says e

pub returns-in-Some-clause-gives : goal.returns-in-Some-clause-gives
returns-in-Some-clause-gives c =
    let e : get_or c.args.out.now.puts c.args.pipe None ≡ Some c.in-Some.node = cc (c.in-Some.is, c.as_slice.ensures) in
    put_some _ _ _ _ c.args.out.now c.in-Some.node c.requires.says c.requires.pipe e

pub returns-in-None-clause-gives : goal.returns-in-None-clause-gives
returns-in-None-clause-gives c =
    let e : get_or c.args.out.now.puts c.args.pipe None ≡ None = cc (c.in-None.is, c.as_slice.ensures) in
    put_none _ c.args.pool.now _ _ _ c.args.out.now _ c.requires.says c.requires.pipe e c.pipe_in.ensures.gives
