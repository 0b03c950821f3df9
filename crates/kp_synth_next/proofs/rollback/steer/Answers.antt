use Rattle.std.proofs.Common.{arith}
use Rattle.kp_net.proofs.Growing.{wire_kept, kept_then}
use Rattle.kp_synth_registers.proofs.Growth.{test_kept, gives_kept, ready_kept}
use Rattle.kp_synth_next.proofs.Squashes.{all_say_kept, back_gives, swept_is_test}
use Rattle.kp_synth_next.proofs.rollback.steer.Goals as goal

pub updates_of-updates-requires-clause-ready : goal.updates_of-updates-requires-clause-ready
updates_of-updates-requires-clause-ready c = ready_kept _ _ _ _ _ (kept_then _ _ _ _ _ c.misses_of-misses.ensures.grown.kept c.sweep-swept.ensures.grown.kept) c.requires.ready

pub updates_of-updates-requires-clause-says : goal.updates_of-updates-requires-clause-says
updates_of-updates-requires-clause-says c =
    all_say_kept _ _ _ _ _ (kept_then _ _ _ _ _ c.misses_of-misses.ensures.grown.kept c.sweep-swept.ensures.grown.kept) c.requires.says

pub updates_of-updates-requires-clause-is_test : goal.updates_of-updates-requires-clause-is_test
updates_of-updates-requires-clause-is_test c =
    swept_is_test _ _ _ c.misses_of-misses.result _ _ c.stages.ensures.stages c.misses_of-misses.ensures.is_test c.sweep-swept.ensures.swept

pub returns-clause-controls : goal.returns-clause-controls
returns-clause-controls c =
    let g = c.updates_of-updates.ensures.grown.kept in
    let b = back_gives _ _ _ c.misses_of-misses.result _ c.sweep-swept.result.back c.stages.ensures.stages c.misses_of-misses.ensures.is_test c.sweep-swept.ensures.back in
    let s = swept_is_test _ _ _ c.misses_of-misses.result c.sweep-swept.result.swept _ c.stages.ensures.stages c.misses_of-misses.ensures.is_test c.sweep-swept.ensures.swept in
    record {
      back_wire = wire_kept _ _ _ _ _ g c.sweep-swept.ensures.wire;
      back_gives = gives_kept _ _ _ _ 4 _ _ g c.sweep-swept.ensures.wire b;
      swept_wires = λ k l. wire_kept _ _ _ _ _ g (c.sweep-swept.ensures.wires k (omega (arith, l, c.stages.ensures.fits.at_most)));
      swept_test = λ k l. test_kept _ _ _ _ 1 _ _ g (c.sweep-swept.ensures.wires k (omega (arith, l, c.stages.ensures.fits.at_most))) (s k l);
      updating = record { few = c.stages.ensures.fits.at_most; wires = c.updates_of-updates.ensures.wires; is_test = c.updates_of-updates.ensures.is_test };
    }
