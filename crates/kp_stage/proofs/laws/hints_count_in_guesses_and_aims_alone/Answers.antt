use Rattle.kp_stage.proofs.Placed.{hints_apart, hints_count_for_nothing}
use Rattle.kp_stage.proofs.laws.hints_count_in_guesses_and_aims_alone.Goals as goal

pub returns-clause-names : goal.returns-clause-names
returns-clause-names c = hints_apart

pub returns-clause-values : goal.returns-clause-values
returns-clause-values c = hints_count_for_nothing
