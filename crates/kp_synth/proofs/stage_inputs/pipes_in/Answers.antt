use Rattle.std.proofs.Common.{◌≡◌, ℕ, ◌∷◌, [], List, length, length-append, sym, ap, subst, arith}
use Rattle.kp_pipeline.specs.Pipeline.{PipelineState, Inputs}
use Rattle.kp_net.{specs.declared.node.NodeId.NodeId, specs.Growth.Wire, proofs.Growing.grown_then}
use Rattle.kp_design.specs.Numbers.{pipe_at}
use Rattle.kp_synth_registers.{specs.Meaning.Gives, proofs.Growth.ready_kept}
use Rattle.kp_synth.{specs.inner.Seeing.PipesIn, proofs.Entered.FirstOf, proofs.Entered.one_first}
use Rattle.kp_synth.proofs.stage_inputs.pipes_in.Goals as goal

pub loop-x-preserved : goal.loop-x-preserved
loop-x-preserved c =
    let job = c.args.layout.now in
    let p = c.loop-x.pool in
    let q = c.pipe_in.new.pool in
    let ns : List NodeId = c.loop-x.nodes.items in
    let n : NodeId = c.pipe_in.result in
    let z : length ns ≡ c.loop-x.x = c.loop-x.invariant.count in
    let w : ℕ → ℕ = λ y. (pipe_at job y).width in
    let f : ℕ → PipelineState → Inputs → ℕ = λ y st i. (st.stage c.args.k).instruction.pipes y in
    let wire : Wire q n (w (length ns)) = subst (λ y. Wire q n (w y)) (sym z) c.pipe_in.ensures.wire in
    let gives : Gives job q n (f (length ns)) = subst (λ y. Gives job q n (f y)) (sym z) c.pipe_in.ensures.gives in
    let items = c.in_ok-push.ensures.items in
    record {
      count = (let e = ap length items in let m = length-append ns (n ∷ []) in omega (arith, e, m, z));
      first = subst (λ (xs : List NodeId). FirstOf job q w f xs) (sym items) (one_first job p q 1 w f ns n c.pipe_in.ensures.grown.kept c.loop-x.invariant.first wire gives);
      grown = grown_then c.args.pool.now p q c.loop-x.x 1 c.loop-x.invariant.grown c.pipe_in.ensures.grown;
    }

pub returns-clause-values : goal.returns-clause-values
unfolding PipesIn
returns-clause-values c = c.loop-x.invariant.first.gives

pub pipe_in-requires-clause-ready : goal.pipe_in-requires-clause-ready
pipe_in-requires-clause-ready c = ready_kept c.args.layout.now c.args.pool.now c.loop-x.pool c.loop-x.x c.args.reads.now c.loop-x.invariant.grown.kept c.requires.ready
