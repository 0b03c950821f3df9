use Rattle.std.proofs.Common.{◌≡◌, ◌<◌, length, subst, sym, ap, ◌∙◌, arith}
use Rattle.kp_net.specs.Netlist.{Net}
use Rattle.kp_cycle.specs.Steps.{Running}
use Rattle.kp_debug.{specs.Sessions.SamplesFitCycles, proofs.AtCycle.run_on}
use Rattle.kp_debug.proofs.cycles.run_between.Goals as goal

pub run_one-requires-clause-fits : goal.run_one-requires-clause-fits
run_one-requires-clause-fits c =
    let P : Net → Type 0 = λ n. SamplesFitCycles n (length c.args.exts.now) c.args.samples.now in
    subst P (sym c.loop-cycle.invariant.0) c.requires.fits

pub loop-cycle-preserved : goal.loop-cycle-preserved
loop-cycle-preserved c =
    let inv = c.loop-cycle.invariant in
    let on = c.run_one.ensures.state in
    let there : c.loop-cycle.cycle < length c.args.exts.now = omega (arith, c.loop-cycle-test.true, c.requires.there) in (
      ap (λ (s : Running). s.net) on ∙ inv.0,
      ap (λ (s : Running). s.slots) on ∙ inv.1,
      run_on c.args.sim.now.net c.loop-cycle.sim c.run_one.new.sim c.args.exts.now c.args.samples.now c.loop-cycle.cycle there inv.0 inv.2 on,
    )
