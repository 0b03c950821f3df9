use Rattle.kp_stage.proofs.Answering.{all_noted}
use Rattle.kp_stage.proofs.design.stage_findings.Goals as goal

pub returns : goal.returns
returns c = all_noted c.args.job.now c.args.most _ _ _ c.new-notes.ensures c.in_ok-note_rules.ensures c.in_ok-note_numbers.ensures
