use Rattle.kp_paths.proofs.Valid.{gives, gives_none, hits_all}
use Rattle.kp_paths.proofs.laws.a_stage_forwards_what_has_been_set.Goals as goal

pub returns-clause-value : goal.returns-clause-value
returns-clause-value c = gives

pub returns-clause-none : goal.returns-clause-none
returns-clause-none c = gives_none

pub returns-clause-unknown : goal.returns-clause-unknown
returns-clause-unknown c = hits_all
