use Rattle.std.proofs.Common.{List, subst, ◌∙◌}
use Rattle.kp_cycle_plan.{specs.declared.codes.Step.Step, proofs.Copies.none_saved}
use Rattle.kp_cycle.{specs.inner.Settling.AreFixed, proofs.Reached.start_fits}
use Rattle.kp_cycle.proofs.sim.Sim.open_with.Goals as goal

pub invariant_of-result : goal.invariant_of-result
invariant_of-result c =
    let net = c.args.net.now in
    let opened = c.in_ok-memory.ensures in
    let put = c.put_constants-fixed.ensures in
    let m = c.put_constants-fixed.new.memory in (
      put.fits,
      c.requires.shows,
      start_fits net m put.fits (put.regs ∙ opened.regs) (put.files ∙ opened.files),
      none_saved net m.slots c.args.slots (put.slots ∙ opened.slots),
      c.in_ok-steps.ensures,
      put.widths,
      subst (λ (steps : List Step). AreFixed net.nodes steps c.put_constants-fixed.result m.nodes) c.as_slice.ensures.value put.fixed,
      c.in_ok-latches.ensures,
    )
