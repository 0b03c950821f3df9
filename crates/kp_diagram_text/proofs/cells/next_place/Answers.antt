use Rattle.std.proofs.Common.{rules}
use Rattle.kp_diagram_text.proofs.Marks.{place_none, place_stays, place_after}
use Rattle.kp_diagram_text.proofs.cells.next_place.Goals as goal

pub returns-then-is_squashed-clause-place : goal.returns-then-is_squashed-clause-place
returns-then-is_squashed-clause-place c = place_none c.args.n c.args.row c.args.k (search rules) (search rules)

pub returns-then-is_set-clause-place : goal.returns-then-is_set-clause-place
returns-then-is_set-clause-place c = place_after c.args.n c.args.row c.args.k _ (search rules) (search rules) (search rules) c.stage_after.ensures.place

pub returns-else-is_set-clause-place : goal.returns-else-is_set-clause-place
returns-else-is_set-clause-place c = place_stays c.args.n c.args.row c.args.k (search rules) (search rules) (search rules)
