use Rattle.std.proofs.Common.{◌∙◌, ap, length, replicate, None}
use Rattle.kp_synth_stage.proofs.Entering.{entered_with}
use Rattle.kp_synth_stage.proofs.block.enter.Goals as goal

pub returns : goal.returns
returns c =
    let slots = c.args.slots.now in
    let is = c.requires.slots in
    let both = entered_with c.args.d.now.job c.job-job.ensures.sound.names c.args.k c.args.pool.now c.bit-hazard.new.pool 1 c.bit-hazard.ensures.grown.kept c.args.pipes.now c.args.samples.now c.args.hints.now c.requires.pipes c.requires.samples c.requires.hints
    (record { env = c.in_ok-env.env; hazard = c.bit-hazard.result; puts = c.in_ok-no_nodes.field-0; sets = c.in_ok-no_sets.field-0; made = c.new.result; aims = c.in_ok-no_nodes-2.field-0 })
    c.in_ok-env.ensures c.bit-hazard.ensures.wire
    (c.in_ok-no_nodes.ensures ∙ ap (λ n. replicate n None) (c.len.ensures ∙ slots.pipes.ok.0 ∙ ap length is.pipes))
    (c.in_ok-no_sets.ensures ∙ ap (λ n. replicate n None) (c.len-2.ensures ∙ slots.targets.ok.0 ∙ ap length is.targets))
    c.new.ensures.items
    (c.in_ok-no_nodes-2.ensures ∙ ap (λ n. replicate n None) (c.len-3.ensures ∙ slots.hints.ok.0 ∙ ap length is.hints)) in
    record { work = both.0; enters = both.1 c.bit-hazard.ensures.value; grown = c.bit-hazard.ensures.grown }
