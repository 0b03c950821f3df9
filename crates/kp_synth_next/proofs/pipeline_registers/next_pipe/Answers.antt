use Rattle.std.proofs.Common.{ℕ, ap, arith}
use Rattle.kp_pipeline.specs.Pipeline.{cycle}
use Rattle.kp_machine.specs.Machine.{machine_of}
use Rattle.kp_synth_registers.{specs.Meaning.Gives, specs.Meaning.IsTest, proofs.Growth.ready_kept}
use Rattle.kp_synth_next.proofs.Arms.{pipes_next}
use Rattle.kp_synth_next.proofs.pipeline_registers.next_pipe.Goals as goal

pub pipe_in-own-requires-clause-ready : goal.pipe_in-own-requires-clause-ready
pipe_in-own-requires-clause-ready c = ready_kept _ _ _ _ _ c.pipe_leaving-came.ensures.grown.kept c.requires.ready

pub returns-clause-gives : goal.returns-clause-gives
unfolding Gives IsTest
returns-clause-gives c = λ x st i h.
    let g = c.pipe_leaving-came.ensures.grown.kept in
    let k = c.pipe_in-own.ensures.grown.kept in
    let u = c.requires.updates x st i h in
    let u1 = g.tests x c.args.update.0 c.requires.update.inside in
    let u2 = k.tests x c.args.update.0 (omega (arith, g.longer, c.requires.update.inside)) in
    let a = c.pipe_leaving-came.ensures.gives x st i h in
    let a1 = k.same x c.pipe_leaving-came.result.0 c.pipe_leaving-came.ensures.wire.inside in
    let b = c.pipe_in-own.ensures.gives x st i h in
    let f = c.choose.ensures.value x in
    let n = pipes_next c.args.layout.now st i c.args.pipe c.args.stage in
    let e = ap (λ (j : ℕ). ((cycle (machine_of c.args.layout.now) st i).stage j).instruction.pipes c.args.pipe) c.requires.next in
    let r = ap (λ (j : ℕ). (st.stage j).instruction.pipes c.args.pipe) c.requires.next in
    cc (u, u1, u2, a, a1, b, f, n, e, r)
