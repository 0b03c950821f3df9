use Rattle.std.proofs.Common.{arith}
use Rattle.kp_seq.specs.Running.{state}
use Rattle.kp_until_run.proofs.{Endings.limit_at, Reaching.agrees, Reaching.few_retire}
use Rattle.kp_until_run.proofs.ended.at_limit.Goals as goal

pub of-requires-clause-few : goal.of-requires-clause-few
of-requires-clause-few c = omega (arith, c.retired-retired.ensures)

pub of-requires-clause-many : goal.of-requires-clause-many
of-requires-clause-many c = omega (arith, c.retired-retired.ensures)

pub of-requires-clause-past : goal.of-requires-clause-past
of-requires-clause-past c = c.requires.at.past

pub returns-clause-few : goal.returns-clause-few
returns-clause-few c =
    let few = few_retire c.args.job.now.design.job c.args.limit in
    omega (arith, few, c.retired-retired.ensures, c.ranges.limit)

pub returns-clause-ends : goal.returns-clause-ends
returns-clause-ends c =
    let a = c.args in
    let job = a.job.now.design.job in
    let agree = agrees job a.net.now c.job-kept.ensures.sound.names a.job.now.unbroken c.requires.shows in
    limit_at job a.net.now agree a.limit a._untils.now c.retired-retired.result (state c.in_ok-contents.contents) c.requires.below c.requires.none c.retired-retired.ensures
    c.in_ok-contents.ensures.state
