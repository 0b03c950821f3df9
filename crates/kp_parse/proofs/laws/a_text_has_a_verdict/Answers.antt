use Rattle.kp_parse.proofs.Verdict.{has_verdict}
use Rattle.kp_parse.proofs.laws.a_text_has_a_verdict.Goals as goal

pub returns : goal.returns
returns c = has_verdict
