use Rattle.kp_stage.proofs.Placed.{set_once, aimed_once}
use Rattle.kp_stage.proofs.laws.a_result_is_set_once_in_a_stage.Goals as goal

pub returns-clause-result : goal.returns-clause-result
returns-clause-result c = set_once

pub returns-clause-hint : goal.returns-clause-hint
returns-clause-hint c = aimed_once
