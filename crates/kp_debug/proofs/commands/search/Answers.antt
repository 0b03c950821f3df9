use Rattle.std.proofs.Common.{◌∙◌, ◌+◌, sym, subst, arith}
use Rattle.kp_debug.specs.{Sessions.Debugged, inner.Standing.IsRegisterOf}
use Rattle.kp_debug.proofs.Standing.{under_at, search_begins, search_goes_on, search_finds, search_ends}
use Rattle.kp_debug.proofs.commands.search.Goals as goal

pub loop-init : goal.loop-init
loop-init c = search_begins c.args.job.now.design.job c.args.session.now c.requires.under c.args.target c.args.value c.args.left

pub is_met-requires-clause-under : goal.is_met-requires-clause-under
is_met-requires-clause-under c =
    let d = c.args.session.now in
    under_at c.args.job.now.design.job d c.requires.under c.loop.session (d.cycle + c.loop.counter) c.loop.invariant.at
    (omega (arith, c.requires.inside, c.loop-test.true))

pub is_met-requires-clause-register : goal.is_met-requires-clause-register
is_met-requires-clause-register c =
    subst (λ (s : Debugged). IsRegisterOf c.args.job.now.design.job s.net c.args.target c.args.number) (sym c.loop.invariant.at) c.requires.register

pub returns-then-is_met : goal.returns-then-is_met
returns-then-is_met c =
    search_finds c.args.job.now.design.job c.args.session.now c.requires.under c.args.target c.args.value c.args.left c.loop.counter c.loop.session
    c.loop.invariant (sym c.is_met.ensures ∙ c.if-is_met.true)

pub loop-preserved : goal.loop-preserved
loop-preserved c =
    search_goes_on c.args.job.now.design.job c.args.session.now c.requires.under c.args.target c.args.value c.args.left c.loop.counter c.loop.session
    c.step.new.self c.requires.inside c.loop-test.true c.loop.invariant (sym c.is_met.ensures ∙ c.if-is_met.false) c.step.ensures

pub returns : goal.returns
returns c =
    search_ends c.args.job.now.design.job c.args.session.now c.requires.under c.args.target c.args.value c.args.left c.loop.counter c.loop.session
    c.loop.invariant (omega (arith, c.loop-test.false))
