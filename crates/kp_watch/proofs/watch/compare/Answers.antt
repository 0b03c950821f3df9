use Rattle.std.proofs.Common.{◌≡◌, ◌+◌, ◌<◌, ◌≤◌, ℕ, ap, subst, arith, Some, None}
use Rattle.std.specs.Prelude.{MatchOption}
use Rattle.kp_cycle.specs.Steps.{Running}
use Rattle.kp_net.specs.Netlist.{Net, run}
use Rattle.kp_run.{specs.Cycles.inputs_to, proofs.Gathering.rows_fit_taken, proofs.Given.rows_given}
use Rattle.kp_watch.specs.inner.{Beside.HaveCome, Changes.AreNoted}
use Rattle.kp_watch.proofs.Whole.{AgreeTo, agrees, comparable, state_agrees, state_differs}
use Rattle.kp_watch.proofs.watch.compare.Goals as goal

never : {X : Type 0} (x : X) → Some x ≡ None → ⊥
never x e = subst (λ o. MatchOption o ⊥ (λ _. Unit {0})) e tt

pub step-requires-clause-fit : goal.step-requires-clause-fit
step-requires-clause-fit c i =
    let accepted = c.args.job.now in
    let job = accepted.design.job in
    let samples = rows_given job accepted.sections.inputs c.job-kept.ensures.sound.names accepted.unbroken accepted.inputs in
    rows_fit_taken job (run c.args.both.now.sim.net (inputs_to job c.args.count)).rows c.args.tables.now.columns.items samples c.requires.tables.columns i

pub returns-in-Some-clause-difference : goal.returns-in-Some-clause-difference
returns-in-Some-clause-difference c =
    let accepted = c.args.job.now in
    let job = accepted.design.job in
    let samples = rows_given job accepted.sections.inputs c.job-kept.ensures.sound.names accepted.unbroken accepted.inputs in
    state_differs job c.args.both.now.sim.net c.args.count c.a_design_is_accepted.ensures samples c.args.tables.now c.requires.tables 0 c.args.both.now c.in-Some.difference (omega arith)
    c.requires.come (λ U t a low there. absurd (omega (arith, low))) (rw c.as_slice-machines.ensures.value at c.in-Some.ensures)

pub returns-in-Some-clause-come : goal.returns-in-Some-clause-come
returns-in-Some-clause-come c = λ e. absurd (never c.in-Some.difference e)

pub returns-in-Some-difference_after-clause-come : goal.returns-in-Some-difference_after-clause-come
returns-in-Some-difference_after-clause-come c = λ e. absurd (never c.in-Some-difference_after.difference e)

pub loop-cycle-init : goal.loop-cycle-init
loop-cycle-init c =
    let accepted = c.args.job.now in
    let job = accepted.design.job in
    let samples = rows_given job accepted.sections.inputs c.job-kept.ensures.sound.names accepted.unbroken accepted.inputs in
    let none = rw (c.in_default.is, c.as_slice-machines.ensures.value) at c.difference_in.ensures in (
      c.requires.come,
      state_agrees job c.args.both.now.sim.net c.args.count c.a_design_is_accepted.ensures samples c.args.tables.now c.requires.tables 0 c.args.both.now (omega arith)
          c.requires.come (λ U t a low there. absurd (omega (arith, low))) none,
      c.requires.space,
    )

pub difference_after-requires : goal.difference_after-requires
difference_after-requires c =
    let accepted = c.args.job.now in
    let job = accepted.design.job in
    let net = c.args.both.now.sim.net in
    let T = c.loop-cycle.cycle in
    let both = c.step.new.self in
    let samples = rows_given job accepted.sections.inputs c.job-kept.ensures.sound.names accepted.unbroken accepted.inputs in
    let same : c.loop-cycle.both.sim.net ≡ net = ap (λ (s : Running). s.net) c.loop-cycle.invariant.0.sim in
    comparable job net c.args.count c.a_design_is_accepted.ensures samples c.args.tables.now c.requires.tables T both c.requires.of_job c.loop-cycle-test.true
    (subst (λ (m : Net). HaveCome job m c.args.tables.now (T + 1) both) same c.step.ensures.come) (subst (λ (m : Net). AreNoted job m T both.written.items) same c.step.ensures.noted)
    c.loop-cycle.invariant.1

pub returns-in-Some-difference_after-clause-difference : goal.returns-in-Some-difference_after-clause-difference
returns-in-Some-difference_after-clause-difference c =
    let accepted = c.args.job.now in
    let job = accepted.design.job in
    let T = c.loop-cycle.cycle in
    let both = c.step.new.self in
    let samples = rows_given job accepted.sections.inputs c.job-kept.ensures.sound.names accepted.unbroken accepted.inputs in
    let now = subst (λ (m : Net). HaveCome job m c.args.tables.now (T + 1) both) (ap (λ (s : Running). s.net) c.loop-cycle.invariant.0.sim) c.step.ensures.come in
    state_differs job c.args.both.now.sim.net c.args.count c.a_design_is_accepted.ensures samples c.args.tables.now c.requires.tables (T + 1) both c.in-Some-difference_after.difference
    (omega (arith, c.loop-cycle-test.true)) now c.loop-cycle.invariant.1 c.in-Some-difference_after.ensures

pub loop-cycle-preserved : goal.loop-cycle-preserved
loop-cycle-preserved c =
    let accepted = c.args.job.now in
    let job = accepted.design.job in
    let T = c.loop-cycle.cycle in
    let both = c.step.new.self in
    let kept = c.loop-cycle.invariant in
    let samples = rows_given job accepted.sections.inputs c.job-kept.ensures.sound.names accepted.unbroken accepted.inputs in
    let now = subst (λ (m : Net). HaveCome job m c.args.tables.now (T + 1) both) (ap (λ (s : Running). s.net) kept.0.sim) c.step.ensures.come in
    let none = rw c.in_default-difference_after.is at c.difference_after.ensures in (
      now,
      state_agrees job c.args.both.now.sim.net c.args.count c.a_design_is_accepted.ensures samples c.args.tables.now c.requires.tables (T + 1) both (omega (arith, c.loop-cycle-test.true))
          now kept.1 none,
      (let space = kept.2 in omega (arith, space, c.step.ensures.space)),
    )

pub returns-clause-difference : goal.returns-clause-difference
returns-clause-difference c =
    let job = c.args.job.now.design.job in
    let net = c.args.both.now.sim.net in
    let n = c.args.count in
    let all : c.loop-cycle.cycle ≡ n = omega (arith, c.loop-cycle-test.false, c.loop-cycle.auto.cycle-end) in
    agrees job net n (subst (λ (m : ℕ). AgreeTo job net n (m + 1)) all c.loop-cycle.invariant.1)

pub returns-clause-come : goal.returns-clause-come
returns-clause-come c = λ e.
    let all : c.loop-cycle.cycle ≡ c.args.count = omega (arith, c.loop-cycle-test.false, c.loop-cycle.auto.cycle-end) in
    subst (λ (m : ℕ). HaveCome c.args.job.now.design.job c.args.both.now.sim.net c.args.tables.now m c.loop-cycle.both) all c.loop-cycle.invariant.0
