use Rattle.std.proofs.Common.{◌≡◌, ℕ, subst, arith}
use Rattle.kp_run.proofs.Machines.{stages_fit}
use Rattle.kp_until_run.specs.{Ending.retired_in, Ending.states_in, inner.Pasts.NoneBelow, inner.Races.IsAt}
use Rattle.kp_until_run.proofs.{Endings.none_first, Endings.none_next, Reaching.agrees, Showing.near, Showing.shown}
use Rattle.kp_until_run.proofs.ended.run_to.Goals as goal

pub open-requires-clause-shown : goal.open-requires-clause-shown
open-requires-clause-shown c =
    let job = c.args.job.now.design.job in
    shown job c.args.net.now c.args.limit c.a_design_is_accepted.ensures c.job-kept.ensures.sound.names c.args.job.now.unbroken c.requires.shows c.what_shows_alike_is_legal_and_moves.ensures.legal

pub loop-cycle-init : goal.loop-cycle-init
loop-cycle-init c =
    let job = c.args.job.now.design.job in
    let agree = agrees job c.args.net.now c.job-kept.ensures.sound.names c.args.job.now.unbroken c.requires.shows in
    record { at = c.in_ok-race.ensures; below = none_first job c.args.net.now agree c.args.limit c.args.untils.now }

pub found-requires-clause-near : goal.found-requires-clause-near
found-requires-clause-near c =
    let job = c.args.job.now.design.job in
    near job c.args.limit c.loop-cycle.cycle c.a_design_is_accepted.ensures (stages_fit job c.job-kept.ensures.sound.stages).1

pub met-requires-clause-near : goal.met-requires-clause-near
met-requires-clause-near c =
    let job = c.args.job.now.design.job in
    near job c.args.limit c.loop-cycle.cycle c.a_design_is_accepted.ensures (stages_fit job c.job-kept.ensures.sound.stages).1

pub step-requires-clause-shown : goal.step-requires-clause-shown
step-requires-clause-shown c =
    let job = c.args.job.now.design.job in
    shown job c.args.net.now c.args.limit c.a_design_is_accepted.ensures c.job-kept.ensures.sound.names c.args.job.now.unbroken c.requires.shows c.what_shows_alike_is_legal_and_moves.ensures.legal

pub loop-cycle-preserved : goal.loop-cycle-preserved
loop-cycle-preserved c =
    let job = c.args.job.now.design.job in
    let agree = agrees job c.args.net.now c.job-kept.ensures.sound.names c.args.job.now.unbroken c.requires.shows in
    record {
      at = c.step.ensures;
      below = none_next job c.args.net.now agree c.args.limit c.args.untils.now c.loop-cycle.cycle c.loop-cycle.invariant.below (rw c.in_default.is at c.found.ensures);
    }

pub found-requires-2-clause-at : goal.found-requires-2-clause-at
found-requires-2-clause-at c =
    let end : c.loop-cycle.cycle ≡ c.args.limit = omega (arith, c.loop-cycle-test.false, c.loop-cycle.auto.cycle-end) in
    subst (λ (n : ℕ). IsAt c.args.job.now.design.job c.args.net.now c.args.limit n c.loop-cycle.race) end c.loop-cycle.invariant.at

pub found-requires-2-clause-near : goal.found-requires-2-clause-near
found-requires-2-clause-near c =
    let job = c.args.job.now.design.job in
    near job c.args.limit c.args.limit c.a_design_is_accepted.ensures (stages_fit job c.job-kept.ensures.sound.stages).1

pub met-requires-in-Some-found-clause-at : goal.met-requires-in-Some-found-clause-at
met-requires-in-Some-found-clause-at c =
    let end : c.loop-cycle.cycle ≡ c.args.limit = omega (arith, c.loop-cycle-test.false, c.loop-cycle.auto.cycle-end) in
    subst (λ (n : ℕ). IsAt c.args.job.now.design.job c.args.net.now c.args.limit n c.loop-cycle.race) end c.loop-cycle.invariant.at

pub met-requires-in-Some-found-clause-near : goal.met-requires-in-Some-found-clause-near
met-requires-in-Some-found-clause-near c =
    let job = c.args.job.now.design.job in
    near job c.args.limit c.args.limit c.a_design_is_accepted.ensures (stages_fit job c.job-kept.ensures.sound.stages).1

pub met-requires-in-Some-found-clause-below : goal.met-requires-in-Some-found-clause-below
met-requires-in-Some-found-clause-below c =
    let job = c.args.job.now.design.job in
    let end : c.loop-cycle.cycle ≡ c.args.limit = omega (arith, c.loop-cycle-test.false, c.loop-cycle.auto.cycle-end) in
    subst (λ (n : ℕ). NoneBelow job (states_in job c.args.limit) c.args.untils.now (retired_in job n)) end c.loop-cycle.invariant.below

pub at_limit-requires-clause-at : goal.at_limit-requires-clause-at
at_limit-requires-clause-at c =
    let end : c.loop-cycle.cycle ≡ c.args.limit = omega (arith, c.loop-cycle-test.false, c.loop-cycle.auto.cycle-end) in
    subst (λ (n : ℕ). IsAt c.args.job.now.design.job c.args.net.now c.args.limit n c.loop-cycle.race) end c.loop-cycle.invariant.at

pub at_limit-requires-clause-near : goal.at_limit-requires-clause-near
at_limit-requires-clause-near c =
    let job = c.args.job.now.design.job in
    near job c.args.limit c.args.limit c.a_design_is_accepted.ensures (stages_fit job c.job-kept.ensures.sound.stages).1

pub at_limit-requires-clause-below : goal.at_limit-requires-clause-below
at_limit-requires-clause-below c =
    let job = c.args.job.now.design.job in
    let end : c.loop-cycle.cycle ≡ c.args.limit = omega (arith, c.loop-cycle-test.false, c.loop-cycle.auto.cycle-end) in
    subst (λ (n : ℕ). NoneBelow job (states_in job c.args.limit) c.args.untils.now (retired_in job n)) end c.loop-cycle.invariant.below
