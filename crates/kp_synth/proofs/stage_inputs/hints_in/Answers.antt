use Rattle.std.proofs.Common.{◌≡◌, ℕ, ◌<◌, ◌∷◌, [], List, length, length-append, sym, ap, subst, arith}
use Rattle.kp_pipeline.specs.Pipeline.{PipelineState, Inputs}
use Rattle.kp_machine.specs.Slots.{hints_of}
use Rattle.kp_net.specs.{declared.node.NodeId.NodeId, Growth.Wire}
use Rattle.kp_design.specs.Numbers.{hint_at}
use Rattle.kp_synth_registers.specs.Meaning.{Gives}
use Rattle.kp_synth_stage.proofs.Binding.{kept_same}
use Rattle.kp_synth.{specs.inner.Seeing.HintsIn, proofs.Entered.FirstOf, proofs.Entered.one_first, proofs.Entered.hint_gives}
use Rattle.kp_synth.proofs.stage_inputs.hints_in.Goals as goal

pub loop-h-preserved : goal.loop-h-preserved
loop-h-preserved c =
    let job = c.args.layout.now in
    let p = c.args.pool.now in
    let ns : List NodeId = c.loop-h.nodes.items in
    let n : NodeId = c.kept.result in
    let z : length ns ≡ c.loop-h.h = c.loop-h.invariant.count in
    let w : ℕ → ℕ = λ y. (hint_at job y).width in
    let f : ℕ → PipelineState → Inputs → ℕ = λ y st i. st.hints y in
    let l : c.loop-h.h < length (hints_of job.decls) = (let e = ap length c.requires.slots in let t = c.loop-h-test.true in omega (arith, e, t)) in
    let wire : Wire p n (w (length ns)) = subst (λ y. Wire p n (w y)) (sym z) c.kept.ensures.wire in
    let gives : Gives job p n (f (length ns)) = subst (λ y. Gives job p n (f y)) (sym z) (hint_gives job p n c.loop-h.h l c.kept.ensures.value) in
    let items = c.in_ok-push.ensures.items in
    record {
      count = (let e = ap length items in let m = length-append ns (n ∷ []) in omega (arith, e, m, z));
      first = subst (λ (xs : List NodeId). FirstOf job p w f xs) (sym items) (one_first job p p 0 w f ns n (kept_same p) c.loop-h.invariant.first wire gives);
    }

pub returns-clause-values : goal.returns-clause-values
unfolding HintsIn
returns-clause-values c = c.loop-h.invariant.first.gives
