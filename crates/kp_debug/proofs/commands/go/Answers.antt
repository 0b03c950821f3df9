use Rattle.std.proofs.Common.{◌∙◌, sym, subst, arith}
use Rattle.kp_net.specs.Netlist.{Net}
use Rattle.kp_debug.specs.Inspecting.{has_value, first_from, reached, IsOfTargets}
use Rattle.kp_debug.{specs.inner.Standing.IsRegisterOf, specs.inner.Standing.run_of, proofs.Standing.steps, proofs.Standing.most_left}
use Rattle.kp_debug.proofs.commands.go.Goals as goal

pub returns-in-Step : goal.returns-in-Step
returns-in-Step c =
    let job = c.args.job.now.design.job in
    let d = c.args.session.now in
    c.step.ensures ∙ steps job d c.requires.under c.in-Step.n ∙ (λ i. record d { cycle = reached (run_of job d) d.cycle (sym c.in-Step.is i) })

pub returns-in-Back : goal.returns-in-Back
returns-in-Back c =
    let job = c.args.job.now.design.job in
    let d = c.args.session.now in
    c.back.ensures ∙ (λ i. record d { cycle = reached (run_of job d) d.cycle (sym c.in-Back.is i) })

pub register_of-number-requires-clause-there : goal.register_of-number-requires-clause-there
register_of-number-requires-clause-there c = (subst (IsOfTargets c.args.job.now.design.job) c.in-Until.is c.requires.command).0

pub register_of-number-requires-clause-kind : goal.register_of-number-requires-clause-kind
register_of-number-requires-clause-kind c = (subst (IsOfTargets c.args.job.now.design.job) c.in-Until.is c.requires.command).1

pub search-requires-clause-register : goal.search-requires-clause-register
search-requires-clause-register c =
    subst (λ (n : Net). IsRegisterOf c.args.job.now.design.job n c.in-Until.target c.register_of-number.result) (sym c.requires.net) c.register_of-number.ensures

pub returns-in-Until : goal.returns-in-Until
returns-in-Until c =
    let job = c.args.job.now.design.job in
    let d = c.args.session.now in
    let same = most_left job d c.requires.under c.in-Until.n c.min-left.result (omega (arith, c.min-left.ensures, c.all_cycles.ensures, c.cycle.ensures)) in
    c.search.ensures
    ∙ (λ i. record d { cycle = first_from (has_value (run_of job d) c.in-Until.target c.in-Until.value) d.cycle (sym same i) })
    ∙ (λ i. record d { cycle = reached (run_of job d) d.cycle (sym c.in-Until.is i) })

pub returns-in-Show : goal.returns-in-Show
returns-in-Show c =
    let job = c.args.job.now.design.job in
    let d = c.args.session.now in
    λ i. record d { cycle = reached (run_of job d) d.cycle (sym c.in-Show.is i) }

pub returns-in-Row : goal.returns-in-Row
returns-in-Row c =
    let job = c.args.job.now.design.job in
    let d = c.args.session.now in
    λ i. record d { cycle = reached (run_of job d) d.cycle (sym c.in-Row.is i) }
