use Rattle.std.proofs.Common.{◌≡◌, length, subst, arith}
use Rattle.kp_cycle.proofs.Latching.{Holding, all_next}
use Rattle.kp_cycle.proofs.clock.clock_regs.Goals as goal

pub returns-clause-regs : goal.returns-clause-regs
returns-clause-regs c r l =
    let net = c.args._net.now in
    let old = c.args.memory.now in
    let new = c.loop-k.memory.regs in
    let moved = c.args.moved.now in
    let held = c.args.held.now in
    let end : c.loop-k.k ≡ length held = omega (arith, c.loop-k.auto.k-end, c.loop-k-test.false) in
    all_next net (length net.parts.regs) moved held old.nodes old.regs new r c.requires.latches c.loop-k.invariant.4
    (subst (Holding net old.nodes old.regs new held) end c.loop-k.invariant.5) l
