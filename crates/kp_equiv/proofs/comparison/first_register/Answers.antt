use Rattle.std.proofs.{Common.◌∙◌, Common.sym, Common.arith, lemmas.Bool.false≢true}
use Rattle.kp_equiv.{specs.Agreement.Register, proofs.Ordered.roots_differ, proofs.Ordered.roots_all, proofs.Places.registers}
use Rattle.kp_equiv.proofs.comparison.first_register.Goals as goal

pub returns-then-not-register_agrees-clause-first : goal.returns-then-not-register_agrees-clause-first
returns-then-not-register_agrees-clause-first c =
    roots_differ registers Register c.args.a.now.parts.regs c.args.a.now c.args.b.now c.loop-i.i (omega (arith, c.loop-i-test.true, c.reg_count-i-end.ensures.value)) c.loop-i.invariant
    (λ h. false≢true (sym c.if-not-register_agrees.true ∙ c.register_agrees.ensures.1 h))

pub returns-clause-first : goal.returns-clause-first
returns-clause-first c =
    roots_all registers Register c.args.a.now.parts.regs c.args.a.now c.args.b.now c.reg_count-i-end.result (sym c.reg_count-i-end.ensures.value)
    (λ k l. c.loop-i.invariant k (omega (arith, l, c.loop-i-test.false)))
