use Rattle.std.proofs.Common.{◌≡◌, ◌∙◌, ℕ, ◌+◌, ◌<◌, get_or, sym, subst, arith}
use Rattle.std.proofs.lemmas.List.{length-set, get_or_default}
use Rattle.kp_pipeline.specs.Pipeline.{mismatches}
use Rattle.kp_machine.specs.Machine.{machine_of}
use Rattle.kp_net.specs.Growth.{Wire}
use Rattle.kp_synth_registers.{specs.declared.outcome.Outcome.Outcome, specs.Meaning.IsTest, specs.Meaning.Says, proofs.Growth.says_kept}
use Rattle.kp_engine.proofs.Greatest.{at_set}
use Rattle.kp_synth_next.specs.Nexts.{outcome_at, no_outcome}
use Rattle.kp_synth_next.proofs.rollback.misses_of.Goals as goal

pub loop-k-preserved : goal.loop-k-preserved
loop-k-preserved c =
    let v = c.loop-k.invariant in
    let l : c.loop-k.k < c.args.layout.now.stages.value = omega (arith, c.loop-k-test.true, c.stages-k-end.ensures.stages) in
    let e = get_or_default c.args.outs.now c.loop-k.k c.index-outs-k.result no_outcome (omega (arith, l, c.requires.says.count)) in
    let s : Says c.args.layout.now c.bit-zero.new.pool c.loop-k.k (outcome_at c.args.outs.now c.loop-k.k) = says_kept _ _ _ 1 _ _ c.bit-zero.ensures.grown.kept (c.requires.says.says c.loop-k.k l) in
    let b : c.loop-k.k < 12 = omega (arith, l, c.stages-k-end.ensures.fits.at_most) in
    let n = (get_or c.args.outs.now c.loop-k.k c.index-outs-k.result).miss in
    let w = subst (λ (o : Outcome). Wire c.bit-zero.new.pool o.miss 1) (sym e) s.miss_wire in
    let t = subst (λ (o : Outcome). IsTest c.args.layout.now c.bit-zero.new.pool o.miss (λ st i. mismatches (machine_of c.args.layout.now) st i c.loop-k.k)) (sym e) s.miss in
    record {
      len = length-set c.loop-k.misses c.loop-k.k _ ∙ v.len;
      wires = λ k m. at_set (λ k n. Wire c.bit-zero.new.pool n 1) c.loop-k.misses c.loop-k.k n k (omega (arith, b, v.len)) (λ q. w) (λ q. v.wires k m);
      is_test = λ k m. at_set (λ k n. IsTest c.args.layout.now c.bit-zero.new.pool n (λ st i. mismatches (machine_of c.args.layout.now) st i k)) c.loop-k.misses c.loop-k.k n k (omega (arith, b, v.len))
          (λ q. subst (λ j. IsTest c.args.layout.now c.bit-zero.new.pool n (λ st i. mismatches (machine_of c.args.layout.now) st i j)) (sym q) t)
          (λ q. v.is_test k (omega (arith, m, less q m)));
    } where
      less : {k j : ℕ} → (k ≡ j → ⊥) → k < j + 1 → k < j
      less q m = omega arith
