use Rattle.kp_view_excerpt.proofs.Places.{line_is, offset_is}
use Rattle.kp_view_excerpt.proofs.laws.the_place_of_a_byte_is_found.Goals as goal

pub returns-clause-offset : goal.returns-clause-offset
returns-clause-offset c = offset_is

pub returns-clause-line : goal.returns-clause-line
returns-clause-line c = line_is
