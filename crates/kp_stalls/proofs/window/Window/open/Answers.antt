use Rattle.std.proofs.Common.{◌∙◌, ap}
use Rattle.kp_stage.specs.declared.start.Start.{Start}
use Rattle.kp_machine.{specs.Machine.state_of, proofs.Stages.stages_inside}
use Rattle.kp_stalls.proofs.Windows.{follows_first, kept_first}
use Rattle.kp_stalls.proofs.window.Window.open.Goals as goal

pub invariant_of-result : goal.invariant_of-result
invariant_of-result c =
    let job = c.args.d.now.job in
    let rules = c.job-kept.ensures.sound.stages in
    kept_first job c.in_ok-machine.machine c.in_ok-sites.sites c.in_ok-ring.ring.items rules (stages_inside job rules) c.in_ok-machine.ensures.job c.in_ok-sites.ensures
    c.in_ok-ring.ensures.count c.in_ok-ring.ensures.room c.ring_of.ensures.few_reads c.ring_of.ensures.few_results

pub returns-clause-follows : goal.returns-clause-follows
returns-clause-follows c = λ given.
    let job = c.args.d.now.job in
    follows_first job c.in_ok-machine.machine c.in_ok-sites.sites c.in_ok-ring.ring.items given
    (c.in_ok-machine.ensures.state ∙ ap (λ (s : Start). state_of job s) c.requires.begins)
