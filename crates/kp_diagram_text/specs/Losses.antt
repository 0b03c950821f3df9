-- The losses and the account of the code as those of the diagram.
use Rattle.std.specs.Prelude.{ℕ, List, get_or}
use Rattle.kp_diagram.specs.Diagram as diagram
use Rattle.kp_diagram_text.specs.declared.account.{Account.Account, Loss.Loss}
use Rattle.kp_diagram_text.specs.declared.account.Loss.TheVariants as losses

abbrev pub loss_shown : Loss → diagram.Loss
loss_shown losses.Filling = diagram.Filling
loss_shown losses.DataHazard = diagram.DataHazard
loss_shown losses.WrongGuess = diagram.WrongGuess
loss_shown losses.Outside = diagram.Outside

-- by stage
abbrev pub losses_shown : List Loss → ℕ → diagram.Loss
losses_shown list k = loss_shown (get_or list k losses.Filling)

abbrev pub account_shown : Account → diagram.Account
account_shown a = record {
  retired = a.retired;
  filling = a.filling;
  hazards = a.hazards;
  guesses = a.guesses;
  outside = a.outside;
}
