use Rattle.std.proofs.Common.{ℕ, ap, arith}
use Rattle.kp_pipeline.specs.Pipeline.{cycle}
use Rattle.kp_machine.specs.Machine.{machine_of}
use Rattle.kp_synth_registers.{specs.Meaning.MayGive, specs.Meaning.IsTest, proofs.Growth.ready_kept}
use Rattle.kp_synth_next.proofs.Arms.{results_next}
use Rattle.kp_synth_next.proofs.result_registers.next_result.Goals as goal

pub result_in-own-requires-clause-ready : goal.result_in-own-requires-clause-ready
result_in-own-requires-clause-ready c = ready_kept _ _ _ _ _ c.leaves-came.ensures.grown.kept c.requires.ready

pub returns-clause-gives : goal.returns-clause-gives
unfolding MayGive IsTest
returns-clause-gives c = λ x st i h.
    let k = c.result_in-own.ensures.grown.kept in
    let u = c.requires.updates x st i h in
    let u1 = c.leaves-came.ensures.grown.kept.tests x c.args.update.0 c.requires.update.inside in
    let u2 = k.tests x c.args.update.0 (omega (arith, c.leaves-came.ensures.grown.kept.longer, c.requires.update.inside)) in
    let a = c.leaves-came.ensures.gives x st i h in
    let a1 = k.tests x c.leaves-came.result.enabled.0 c.leaves-came.ensures.enabled.inside in
    let a2 = k.same x c.leaves-came.result.value.0 c.leaves-came.ensures.value.inside in
    let b = c.result_in-own.ensures.gives x st i h in
    let f = c.chosen.ensures.is x in
    let n = results_next c.args.layout.now st i c.args.target c.args.stage in
    let e = ap (λ (j : ℕ). ((cycle (machine_of c.args.layout.now) st i).stage j).instruction.results c.args.target) c.requires.next in
    let r = ap (λ (j : ℕ). (st.stage j).instruction.results c.args.target) c.requires.next in
    cc (u, u1, u2, a, a1, a2, b, f, n, e, r)
