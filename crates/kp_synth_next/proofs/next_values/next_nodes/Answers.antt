use Rattle.std.proofs.Common.{◌≡◌, ◌∙◌, ℕ, ◌<◌, List, [], ◌∷◌, length, length-append, get_or, sym, ap, subst, arith}
use Rattle.kp_ast.specs.declared.tree.Job.{Job}
use Rattle.kp_net.{specs.Growth.Wire, specs.Nodes.Cells, proofs.Growing.grown_then, proofs.Growing.grown_more}
use Rattle.kp_pipeline.specs.Pipeline.{PipelineState, Inputs}
use Rattle.kp_synth_registers.specs.{declared.key.Key.Key, declared.key.Key.TheVariants.Full, Keys.HasKey, Keys.keys_of, Keys.key_at, Keys.key_width}
use Rattle.kp_synth_registers.proofs.Places.{key_had}
use Rattle.kp_synth_registers.{specs.Holding.Holds, proofs.Growth.ready_kept}
use Rattle.kp_synth_next.specs.{Nexts.NextIs, Control.NextsFrom}
use Rattle.kp_synth_next.proofs.{Squashes.all_say_kept, Transport.controls_kept, Transport.nexts_more}
use Rattle.kp_synth_next.proofs.next_values.next_nodes.Goals as goal

-- the key of a register of the job
key_is : (job : Job) (keys : List Key) (r n : ℕ) (key : Key) → keys ≡ keys_of job → key ≡ get_or keys r (Full 0) → r < n → n ≡ length keys → (r < length (keys_of job)) × (key ≡ key_at job r)
key_is job keys r n key same is l e = (omega (arith, l, e, ap length same), is ∙ ap (λ (ks : List Key). get_or ks r (Full 0)) same)

pub next_node-requires-clause-ready : goal.next_node-requires-clause-ready
next_node-requires-clause-ready c = ready_kept _ _ _ _ _ c.loop-r.invariant.grown.kept c.requires.ready

pub next_node-requires-clause-has : goal.next_node-requires-clause-has
next_node-requires-clause-has c =
    let is = key_is c.args.layout.now c.args.reads.now.keys c.loop-r.r c.count-r-end.result c.key-key.result c.requires.ready.keys c.key-key.ensures c.loop-r-test.true c.count-r-end.ensures.count in
    subst (HasKey c.args.layout.now) (sym is.1) (key_had c.args.layout.now c.loop-r.r is.0)

pub next_node-requires-clause-says : goal.next_node-requires-clause-says
next_node-requires-clause-says c = all_say_kept _ _ _ _ _ c.loop-r.invariant.grown.kept c.requires.says

pub next_node-requires-clause-controls : goal.next_node-requires-clause-controls
next_node-requires-clause-controls c = controls_kept _ _ _ _ _ c.loop-r.invariant.grown.kept c.requires.controls

pub loop-r-preserved : goal.loop-r-preserved
loop-r-preserved c =
    let v = c.loop-r.invariant in
    let is = key_is c.args.layout.now c.args.reads.now.keys c.loop-r.r c.count-r-end.result c.key-key.result c.requires.ready.keys c.key-key.ensures c.loop-r-test.true c.count-r-end.ensures.count in
    let l = is.0 in
    let k : c.key-key.result ≡ key_at c.args.layout.now (length c.loop-r.nexts.items) = is.1 ∙ ap (key_at c.args.layout.now) (sym v.count) in
    let s = all_say_kept _ _ _ _ _ v.grown.kept c.requires.says in
    let w = subst (λ (x : Key). Wire c.next_node.new.pool c.next_node.result (key_width c.args.layout.now x)) k c.next_node.ensures.wire in
    let n = subst (λ (x : Key). (d : Cells) (st : PipelineState) (i : Inputs) → Holds c.args.layout.now d st i → NextIs c.args.layout.now c.next_node.new.pool c.args.outs.now c.next_node.result d st i x) k c.next_node.ensures.next in
    let m = nexts_more _ c.loop-r.pool c.next_node.new.pool 9 1 c.args.outs.now c.loop-r.nexts.items c.next_node.result c.next_node.ensures.grown.kept s v.nexts (omega (arith, v.count, l)) w n in
    record {
      count = ap length c.in_ok-push.ensures.items ∙ length-append c.loop-r.nexts.items (c.next_node.result ∷ []) ∙ omega (arith, v.count);
      nexts = subst (NextsFrom c.args.layout.now c.next_node.new.pool c.args.outs.now) (sym c.in_ok-push.ensures.items) m;
      grown = grown_more _ _ _ _ (grown_then _ _ _ _ _ v.grown c.next_node.ensures.grown) (omega arith);
    }
