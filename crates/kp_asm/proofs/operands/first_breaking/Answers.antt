use Rattle.std.proofs.Common.{◌∙◌, sym}
use Rattle.kp_asm.proofs.NoTokens.{none_left}
use Rattle.kp_asm.proofs.operands.first_breaking.Goals as goal

pub returns-in_default : goal.returns-in_default
returns-in_default c = sym (none_left _ _ _ _ c.loop-piece.rest.now c.in_default.len_below) ∙ c.loop-piece.invariant
