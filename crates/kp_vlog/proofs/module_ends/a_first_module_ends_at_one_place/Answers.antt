use Rattle.std.proofs.Common.{length, arith}
use Rattle.kp_vlog.proofs.Ends.{some_end, one_end, ends_after, ends_within}
use Rattle.kp_vlog.proofs.module_ends.a_first_module_ends_at_one_place.Goals as goal

pub returns-clause-some : goal.returns-clause-some
returns-clause-some c = λ at text. some_end (length text) at text (omega arith)

pub returns-clause-one : goal.returns-clause-one
returns-clause-one c = λ at text to other h k. one_end h k

pub returns-clause-after : goal.returns-clause-after
returns-clause-after c = λ at text to h. ends_after h

pub returns-clause-within : goal.returns-clause-within
returns-clause-within c = λ at text to h. ends_within h
