use Rattle.std.proofs.Common.{rules}
use Rattle.kp_diagram_text.proofs.Marks.{mark_squashed, mark_moves, mark_held}
use Rattle.kp_diagram_text.proofs.cells.mark_of.Goals as goal

pub returns-then-is_squashed : goal.returns-then-is_squashed
returns-then-is_squashed c = mark_squashed c.args.n c.args.word c.args.row c.args.k (search rules) (search rules)

pub returns-then-is_set : goal.returns-then-is_set
returns-then-is_set c = mark_moves c.args.n c.args.word c.args.row c.args.k (search rules) (search rules) (search rules)

pub returns-then-is_set-2 : goal.returns-then-is_set-2
returns-then-is_set-2 c = mark_held c.args.n c.args.word c.args.row c.args.k (search rules) (search rules) (search rules) (search rules)
