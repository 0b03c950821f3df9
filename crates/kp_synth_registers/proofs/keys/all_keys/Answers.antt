use Rattle.std.proofs.Common.{◌≡◌, ◌∙◌, List, ◌++◌, None, ap, subst, arith}
use Rattle.kp_ast.specs.declared.tree.Job.{Job}
use Rattle.kp_stage.specs.Stages.{broken_of}
use Rattle.kp_machine.specs.Slots.{targets_of}
use Rattle.kp_design.proofs.Limits.{few}
use Rattle.kp_synth_registers.specs.{declared.key.Key.Key, Keys.keys_of, Keys.visible_keys}
use Rattle.kp_synth_registers.proofs.Steps.{all_is, few_keys}
use Rattle.kp_synth_registers.proofs.keys.all_keys.Goals as goal

pub add_stages-requires-clause-few : goal.add_stages-requires-clause-few
add_stages-requires-clause-few c =
    let guesses = (few c.args.layout.now (subst (λ (j : Job). broken_of j ≡ None) c.design-design.ensures c.job-job.ensures.sound.stages)).guesses in
    omega (arith, guesses)

pub returns : goal.returns
returns c =
    let job = c.args.layout.now in
    let fits = c.stages-stages.ensures.fits in
    let some = fits.at_least in
    let is : c.add_hints.new.keys.items ≡ keys_of job =
    all_is job c.stages-stages.result c.add_visible.new.keys.items c.add_stages.new.keys.items c.add_hints.new.keys.items c.stages-stages.ensures.stages (omega (arith, some, c.stages-stages.ensures.stages))
    (c.in_ok-add_visible.ensures ∙ ap (λ (zs : List Key). zs ++ visible_keys 0 (targets_of job.decls)) c.new-keys.ensures.items) c.in_ok-add_stages.ensures c.in_ok-add_hints.ensures in
    record { keys = is; few = few_keys c.design-design.result.now job c.add_hints.new.keys.items c.design-design.ensures c.job-job.ensures.sound fits is }
