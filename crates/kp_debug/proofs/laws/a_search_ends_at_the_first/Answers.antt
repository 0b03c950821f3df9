use Rattle.kp_debug.proofs.Searching.{within, before, ends}
use Rattle.kp_debug.proofs.laws.a_search_ends_at_the_first.Goals as goal

pub returns-clause-within : goal.returns-clause-within
returns-clause-within c holds cycle n = within holds cycle n

pub returns-clause-first : goal.returns-clause-first
returns-clause-first c holds cycle n k above below = before holds cycle n k above below

pub returns-clause-last : goal.returns-clause-last
returns-clause-last c holds cycle n none = ends holds cycle n none
