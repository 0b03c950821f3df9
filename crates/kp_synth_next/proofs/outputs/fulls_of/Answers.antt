use Rattle.std.proofs.{Common.◌≡◌, Common.◌∙◌, Common.ℕ, Common.◌+◌, Common.◌<◌, Common.sym, Common.subst, Common.arith, lemmas.List.length-set}
use Rattle.kp_net.{specs.Growth.Wire, proofs.Growing.wire_kept, proofs.Growing.grown_then}
use Rattle.kp_synth_registers.{specs.Meaning.IsTest, proofs.Growth.test_kept, proofs.Growth.ready_kept}
use Rattle.kp_engine.proofs.Greatest.{at_set}
use Rattle.kp_synth_next.proofs.outputs.fulls_of.Goals as goal

pub full_in-requires-clause-ready : goal.full_in-requires-clause-ready
full_in-requires-clause-ready c = ready_kept _ _ _ _ _ c.loop-k.invariant.grown.kept c.requires.ready

pub loop-k-preserved : goal.loop-k-preserved
loop-k-preserved c =
    let v = c.loop-k.invariant in
    let l : c.loop-k.k < c.args.layout.now.stages.value = omega (arith, c.loop-k-test.true, c.stages-k-end.ensures.stages) in
    let b : c.loop-k.k < 12 = omega (arith, l, c.stages-k-end.ensures.fits.at_most) in
    let g = c.full_in.ensures.grown in
    record {
      len = length-set c.loop-k.fulls c.loop-k.k _ ∙ v.len;
      wires = λ k m. at_set (λ k n. Wire c.full_in.new.pool n 1) c.loop-k.fulls c.loop-k.k c.full_in.result k (omega (arith, b, v.len)) (λ q. c.full_in.ensures.wire) (λ q. wire_kept _ _ _ _ _ g.kept (v.wires k (omega (arith, m, less q m))));
      is_test = λ k m. at_set (λ k n. IsTest c.args.layout.now c.full_in.new.pool n (λ st i. (st.stage k).full)) c.loop-k.fulls c.loop-k.k c.full_in.result k (omega (arith, b, v.len))
          (λ q. subst (λ j. IsTest c.args.layout.now c.full_in.new.pool c.full_in.result (λ st i. (st.stage j).full)) (sym q) c.full_in.ensures.is_test)
          (λ q. test_kept _ _ _ _ 1 _ _ g.kept (v.wires k (omega (arith, m, less q m))) (v.is_test k (omega (arith, m, less q m))));
      grown = grown_then _ _ _ _ _ v.grown g;
    } where
      less : {k j : ℕ} → (k ≡ j → ⊥) → k < j + 1 → k < j
      less q m = omega arith
