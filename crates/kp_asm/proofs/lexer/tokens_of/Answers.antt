use Rattle.std.proofs.Common.{◌∙◌, arith}
use Rattle.kp_asm.proofs.Skips.{gap_turn, token_turn}
use Rattle.kp_asm.proofs.lexer.tokens_of.Goals as goal

pub loop-rest-preserved-in-Gap : goal.loop-rest-preserved-in-Gap
loop-rest-preserved-in-Gap c = record {
  left = gap_turn _ _ _ c.loop-rest.rest.now _ c.in-Gap.more c.in-len1-up.len_at_least c.in-Gap.ensures.value c.in-Gap.ensures.within c.split_at.ensures.back ∙ c.loop-rest.invariant.left;
  within = omega arith;
}

pub loop-rest-preserved : goal.loop-rest-preserved
loop-rest-preserved c = record {
  left = rw c.in_ok-push-in-Token.ensures.items (token_turn _ _ _ c.loop-rest.rest.now _ c.in-Token.kind c.in-Token.more c.in-len1-up.len_at_least c.in-Token.ensures.value c.in-Token.ensures.within c.split_at-in-Token.ensures.back ∙ c.loop-rest.invariant.left);
  within = omega arith;
}
