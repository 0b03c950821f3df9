use Rattle.std.proofs.Common.{sym, subst, rules}
use Rattle.kp_synth_registers.{specs.inner.First.FirstSamples, proofs.Growth.added_then, proofs.Cells.one_sample}
use Rattle.kp_synth_registers.proofs.registers.samples.Goals as goal

pub loop-x-preserved : goal.loop-x-preserved
loop-x-preserved c = record {
  count = search rules;
  read =
      subst (λ ns. FirstSamples c.args.layout.now c.sample.new.pool ns) (sym c.in_ok-push.ensures.items)
      (one_sample c.args.layout.now c.loop-x.pool c.sample.new.pool 1 c.loop-x.x c.loop-x.nodes.items c.sample.result c.loop-x.invariant.count c.sample.ensures.added.kept
      c.loop-x.invariant.read c.sample.ensures.wire c.sample.ensures.gives);
  added = added_then c.args.layout.now c.args.pool.now c.loop-x.pool c.sample.new.pool c.loop-x.x 1 c.loop-x.invariant.added c.sample.ensures.added;
}
