use Rattle.std.proofs.Common.{◌≡◌, ◌∙◌, ℕ, ◌+◌, ◌-◌, ◌<◌, not, leb, false, length, refl, arith, le-leb}
use Rattle.std.proofs.{Math.ListN.length-set, lemmas.List.get_or-replicate}
use Rattle.kp_net.{specs.Nodes.Cells, specs.Nodes.on, specs.Growth.Wire, proofs.Growing.wire_grown, proofs.Growing.grown_then}
use Rattle.kp_pipeline.{specs.Pipeline.greatest, proofs.Cycle.greatest-bound}
use Rattle.kp_engine.specs.Misses.{node_at, bit_at}
use Rattle.kp_engine.proofs.Greatest.{sweep_step, at_set}
use Rattle.kp_engine.proofs.rollback.swept_of.Goals as goal

pub loop-j-init : goal.loop-j-init
loop-j-init c =
    let w = c.bit-zero.ensures.wire in
    let z = c.bit-zero.result in
    record {
      len = refl;
      wire = w;
      over = λ x. c.bit-zero.ensures.value x ∙ (let l = le-leb (greatest (bit_at x c.args.pool.now c.args.misses.now) c.args.n) (c.args.n - 0) (omega (arith, greatest-bound (bit_at x c.args.pool.now c.args.misses.now) c.args.n)) in rw l refl);
      wires = λ k l. (let e = get_or-replicate 12 k z (record { 0 = 0 }) l in rw e w);
      value = λ x k l m. absurd (omega arith);
      none = λ x k l m. (let e = get_or-replicate 12 k z (record { 0 = 0 }) m in rw e (c.bit-zero.ensures.value x));
      grown = c.bit-zero.ensures.grown;
    }

pub loop-j-preserved : goal.loop-j-preserved
loop-j-preserved c =
    let v = c.loop-j.invariant in
    let g = c.either-over.ensures.grown in
    let i : ℕ = c.args.n - 1 - c.loop-j.j in
    let b : i < length c.loop-j.swept = omega (arith, v.len) in
    let miss = c.requires.misses i (omega arith) in
    let o : (x : Cells) → on x c.either-over.new.pool.nodes c.either-over.result.0 ≡ not (leb (greatest (bit_at x c.args.pool.now c.args.misses.now) c.args.n) i) = λ x.
    (let k : i + 1 ≡ c.args.n - c.loop-j.j = omega arith in
    let s = sweep_step (bit_at x c.args.pool.now c.args.misses.now) c.args.n i (omega arith) in
    let o = v.over x in let t = v.grown.kept.tests x (node_at c.args.misses.now i).0 miss.inside in let e = c.either-over.ensures.value x in rw (s, k) (cc (o, t, e))) in
    record {
      len = length-set c.loop-j.swept i c.either-over.result ∙ v.len;
      wire = c.either-over.ensures.wire;
      over = λ x. (let m : c.args.n - (c.loop-j.j + 1) ≡ i = omega arith in rw m (o x));
      wires = λ k l. at_set (λ k n. Wire c.either-over.new.pool n 1) c.loop-j.swept i c.either-over.result k b (λ q. c.either-over.ensures.wire) (λ q. wire_grown _ _ _ _ _ g (v.wires k l));
      value = λ x k l m. at_set (λ k n. on x c.either-over.new.pool.nodes n.0 ≡ not (leb (greatest (bit_at x c.args.pool.now c.args.misses.now) c.args.n) k)) c.loop-j.swept i c.either-over.result k b (λ q. rw q (o x)) (λ q. g.kept.tests x (node_at c.loop-j.swept k).0 (v.wires k (omega arith)).inside ∙ v.value x k (omega arith) m);
      none = λ x k l m. at_set (λ k n. on x c.either-over.new.pool.nodes n.0 ≡ false) c.loop-j.swept i c.either-over.result k b (λ q. absurd (omega arith)) (λ q. g.kept.tests x (node_at c.loop-j.swept k).0 (v.wires k m).inside ∙ v.none x k l m);
      grown = grown_then _ _ _ _ _ v.grown g;
    }
