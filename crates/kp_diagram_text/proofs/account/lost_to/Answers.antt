use Rattle.std.proofs.Common.{rules}
use Rattle.kp_diagram_text.{specs.Losses.losses_shown, proofs.Losses.lost_none, proofs.Losses.lost_waiting, proofs.Losses.lost_empty}
use Rattle.kp_diagram_text.proofs.account.lost_to.Goals as goal

pub returns-then-is_set : goal.returns-then-is_set
returns-then-is_set c = lost_none c.args.last c.args.word c.args.row (losses_shown c.args.losses.now) (search rules)

pub returns-then-is_set-2 : goal.returns-then-is_set-2
returns-then-is_set-2 c =
    lost_waiting c.args.last c.args.word c.args.row (losses_shown c.args.losses.now) _ (search rules) (search rules) (search rules)

pub returns-else-is_set-2 : goal.returns-else-is_set-2
returns-else-is_set-2 c =
    lost_empty c.args.last c.args.word c.args.row (losses_shown c.args.losses.now) _ (search rules) (search rules) (search rules)
