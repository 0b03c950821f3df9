use Rattle.std.proofs.Common.{arith}
use Rattle.kp_vread_parse.proofs.Taking.{skipped, skipped_all, stuck}
use Rattle.kp_vread_parse.proofs.tokens.Tokens.skip.Goals as goal

pub returns-in_default : goal.returns-in_default
returns-in_default c = record {
  ends = stuck c.args.self.now c.args.given.now c.args.at c.loop-fixed.fixed-index c.loop-fixed.here _ c.loop-fixed-test.true c.loop-fixed.invariant c.in_default.ensures;
}

pub loop-fixed-preserved : goal.loop-fixed-preserved
loop-fixed-preserved c =
    skipped c.args.self.now c.args.given.now c.args.at c.loop-fixed.fixed-index c.loop-fixed.here _ c.loop-fixed-test.true c.loop-fixed.invariant c.in-Some.next c.in-Some.ensures.1

pub returns : goal.returns
returns c = skipped_all c.args.self.now c.args.given.now c.args.at c.loop-fixed.fixed-index c.loop-fixed.here (omega (arith, c.loop-fixed-test.false)) c.loop-fixed.invariant
