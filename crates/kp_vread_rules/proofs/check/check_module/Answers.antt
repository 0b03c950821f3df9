use Rattle.std.proofs.Common.{◌∙◌}
use Rattle.kp_vread_rules.proofs.Breaking.{broken_head, none_broken}
use Rattle.kp_vread_rules.proofs.check.check_module.Goals as goal

pub returns-in-len1-up : goal.returns-in-len1-up
returns-in-len1-up c =
    broken_head c.args.text.now c.args.whole.now c.as_slice.result.now _ c.refusal_of.result c.refusal_of.ensures (c.as_slice.ensures ∙ c.in_ok-findings.ensures) c.in-len1-up.len_at_least

pub returns : goal.returns
returns c = none_broken c.args.text.now c.args.whole.now c.as_slice.result.now (c.as_slice.ensures ∙ c.in_ok-findings.ensures) c.in-empty.len_below
