use Rattle.std.proofs.Common.{◌≡◌, ◌-◌, ℕ, refl, ap, arith}
use Rattle.kp_seq.specs.Running.{state}
use Rattle.kp_until_run.specs.Ending.{retired_in}
use Rattle.kp_until_run.proofs.{Endings.met_at, Reaching.agrees, Reaching.few_retire}
use Rattle.kp_until_run.proofs.ended.met.Goals as goal

pub overflow_sub-retired : goal.overflow_sub-retired
overflow_sub-retired c = omega (arith, c.retired-last.ensures, c.requires.found.count.within)

pub of-requires-clause-few : goal.of-requires-clause-few
of-requires-clause-few c = omega (arith, c.retired-last.ensures)

pub of-requires-clause-many : goal.of-requires-clause-many
of-requires-clause-many c = omega (arith, c.retired-last.ensures, c.requires.found.count.few)

pub of-requires-clause-past : goal.of-requires-clause-past
of-requires-clause-past c = c.requires.at.past

pub returns-clause-few : goal.returns-clause-few
returns-clause-few c =
    let few = few_retire c.args.job.now.design.job c.args.cycle in
    omega (arith, few, c.retired-last.ensures, c.ranges.cycle)

pub returns-clause-ends : goal.returns-clause-ends
returns-clause-ends c =
    let a = c.args in
    let job = a.job.now.design.job in
    let agree = agrees job a.net.now c.job-kept.ensures.sound.names a.job.now.unbroken c.requires.shows in
    let is : c.retired-last.result - a.found.back ≡ retired_in job a.cycle - a.found.back = ap (λ (n : ℕ). n - a.found.back) c.retired-last.ensures in
    met_at job a.net.now agree a._limit a._untils.now a.cycle a.found _ _ (state c.in_ok-contents.contents) a.race.now.reached c.requires.within c.requires.below c.requires.found
    c.requires.at.reached is refl c.in_ok-contents.ensures.state
