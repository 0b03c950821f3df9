use Rattle.std.proofs.Common.{◌≡◌, fold, take}
use Rattle.kp_depth.specs.Text.{longer}
use Rattle.kp_depth.proofs.text.longest_of.Given as goal

abbrev pub invariant-loop-row : goal.invariant-loop-row
invariant-loop-row l = l.longest ≡ fold longer 0 (take l.row-index l.rows)
