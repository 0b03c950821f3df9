use Rattle.std.proofs.Common.{rules}
use Rattle.kp_diagram_text.{specs.Losses.losses_shown, proofs.Losses.above_squashed, proofs.Losses.above_waiting, proofs.Losses.above_empty}
use Rattle.kp_diagram_text.proofs.account.loss_above.Goals as goal

pub returns-then-is_squashed : goal.returns-then-is_squashed
returns-then-is_squashed c = above_squashed c.args.last c.args.word c.args.row (losses_shown c.args.losses.now) c.args.k (search rules) (search rules)

pub returns-then-is_set : goal.returns-then-is_set
returns-then-is_set c =
    above_waiting c.args.last c.args.word c.args.row (losses_shown c.args.losses.now) c.args.k _ (search rules) (search rules) (search rules) (search rules)

pub returns-else-is_set : goal.returns-else-is_set
returns-else-is_set c =
    above_empty c.args.last c.args.word c.args.row (losses_shown c.args.losses.now) c.args.k _ (search rules) (search rules) (search rules) (search rules)
