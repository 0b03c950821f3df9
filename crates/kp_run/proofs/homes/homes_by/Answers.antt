use Rattle.std.proofs.Common.{◌≡◌, ◌∙◌, arith}
use Rattle.kp_run.proofs.Machines.{homes_within}
use Rattle.kp_run.proofs.homes.homes_by.Goals as goal

pub returns : goal.returns
returns c = record {
  count = c.loop-t.invariant.count ∙ (let e : c.loop-t.t ≡ c.target_count-t-end.result = omega arith in e) ∙ c.target_count-t-end.ensures;
  homes = λ t h. let few = c.loop-t.invariant.count in c.loop-t.invariant.homes t (omega (arith, few, h));
  within = homes_within c.args.layout.now c.requires;
}
