use Rattle.std.proofs.{Common.◌∙◌, Common.sym, Common.arith, lemmas.Bool.false≢true}
use Rattle.kp_equiv.{specs.Agreement.File, proofs.Ordered.roots_differ, proofs.Ordered.roots_all, proofs.Places.memories}
use Rattle.kp_equiv.proofs.comparison.first_file.Goals as goal

pub returns-then-not-file_agrees-clause-first : goal.returns-then-not-file_agrees-clause-first
returns-then-not-file_agrees-clause-first c =
    roots_differ memories File c.args.a.now.parts.files c.args.a.now c.args.b.now c.loop-i.i (omega (arith, c.loop-i-test.true, c.file_count-i-end.ensures.value)) c.loop-i.invariant
    (λ h. false≢true (sym c.if-not-file_agrees.true ∙ c.file_agrees.ensures.1 h))

pub returns-clause-first : goal.returns-clause-first
returns-clause-first c =
    roots_all memories File c.args.a.now.parts.files c.args.a.now c.args.b.now c.file_count-i-end.result (sym c.file_count-i-end.ensures.value)
    (λ k l. c.loop-i.invariant k (omega (arith, l, c.loop-i-test.false)))
