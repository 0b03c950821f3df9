use Rattle.std.proofs.Common.{◌≡◌, ◌∙◌, ℕ, ◌+◌, ◌<◌, sym, subst, arith}
use Rattle.std.proofs.lemmas.List.{length-set, get_or_default}
use Rattle.kp_pipeline.specs.Pipeline.{ue}
use Rattle.kp_machine.specs.Machine.{machine_of}
use Rattle.kp_net.{specs.Growth.Wire, proofs.Growing.wire_kept, proofs.Growing.grown_then, proofs.Growing.grown_more}
use Rattle.kp_synth_registers.specs.{declared.outcome.Outcome.Outcome, Meaning.IsTest, Meaning.Says}
use Rattle.kp_synth_registers.proofs.Growth.{says_kept, test_kept, ready_kept}
use Rattle.kp_engine.proofs.Greatest.{at_set}
use Rattle.kp_synth_next.specs.Nexts.{outcome_at, no_outcome}
use Rattle.kp_synth_next.proofs.rollback.updates_of.Goals as goal

pub update_in-requires-clause-ready : goal.update_in-requires-clause-ready
update_in-requires-clause-ready c = ready_kept _ _ _ _ _ c.loop-k.invariant.grown.kept c.requires.ready

pub update_in-requires-clause-says : goal.update_in-requires-clause-says
update_in-requires-clause-says c =
    let l : c.loop-k.k < c.args.layout.now.stages.value = omega (arith, c.loop-k-test.true, c.stages-k-end.ensures.stages) in
    let e = get_or_default c.args.outs.now c.loop-k.k c.index-outs-i.result no_outcome (omega (arith, l, c.requires.says.count)) in
    let s : Says c.args.layout.now c.loop-k.pool c.loop-k.k (outcome_at c.args.outs.now c.loop-k.k) = says_kept _ _ _ _ _ _ c.loop-k.invariant.grown.kept (c.requires.says.says c.loop-k.k l) in
    subst (λ (o : Outcome). Says c.args.layout.now c.loop-k.pool c.loop-k.k o) (sym (c.index-outs-i.is ∙ e)) s

pub update_in-requires-clause-is_test : goal.update_in-requires-clause-is_test
update_in-requires-clause-is_test c =
    let l : c.loop-k.k < c.args.layout.now.stages.value = omega (arith, c.loop-k-test.true, c.stages-k-end.ensures.stages) in
    test_kept _ _ _ _ 1 _ _ c.loop-k.invariant.grown.kept (c.requires.swept c.loop-k.k l) (c.requires.is_test c.loop-k.k l)

pub loop-k-preserved : goal.loop-k-preserved
loop-k-preserved c =
    let v = c.loop-k.invariant in
    let l : c.loop-k.k < c.args.layout.now.stages.value = omega (arith, c.loop-k-test.true, c.stages-k-end.ensures.stages) in
    let b : c.loop-k.k < 12 = omega (arith, l, c.stages-k-end.ensures.fits.at_most) in
    let g = c.update_in.ensures.grown in
    record {
      len = length-set c.loop-k.updates c.loop-k.k _ ∙ v.len;
      wires = λ k m. at_set (λ k n. Wire c.update_in.new.pool n 1) c.loop-k.updates c.loop-k.k c.update_in.result k (omega (arith, b, v.len)) (λ q. c.update_in.ensures.wire) (λ q. wire_kept _ _ _ _ _ g.kept (v.wires k (omega (arith, m, less q m))));
      is_test = λ k m. at_set (λ k n. IsTest c.args.layout.now c.update_in.new.pool n (λ st i. ue (machine_of c.args.layout.now) st i k)) c.loop-k.updates c.loop-k.k c.update_in.result k (omega (arith, b, v.len))
          (λ q. subst (λ j. IsTest c.args.layout.now c.update_in.new.pool c.update_in.result (λ st i. ue (machine_of c.args.layout.now) st i j)) (sym q) c.update_in.ensures.is_test)
          (λ q. test_kept _ _ _ _ 1 _ _ g.kept (v.wires k (omega (arith, m, less q m))) (v.is_test k (omega (arith, m, less q m))));
      grown = grown_more _ _ _ _ (grown_then _ _ _ _ _ v.grown g) (omega arith);
    } where
      less : {k j : ℕ} → (k ≡ j → ⊥) → k < j + 1 → k < j
      less q m = omega arith
