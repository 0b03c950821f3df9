use Rattle.kp_equiv.proofs.Shown.{first_shows, second_shows}
use Rattle.kp_equiv.proofs.laws.netlists_whose_roots_agree_show_the_same.Goals as goal

pub returns-clause-second : goal.returns-clause-second
returns-clause-second c = second_shows

pub returns-clause-first : goal.returns-clause-first
returns-clause-first c = first_shows
