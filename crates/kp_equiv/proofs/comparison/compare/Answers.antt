use Rattle.std.proofs.{Common.◌∙◌, Common.sym, Common.subst, lemmas.Bool.false≢true}
use Rattle.kp_equiv.specs.Sections.{FirstOf, behind_ports}
use Rattle.kp_equiv.proofs.Ordered.{ports_differ, all_agree, later_differs, ports_of, of_ports}
use Rattle.kp_equiv.proofs.comparison.compare.Goals as goal

pub returns-then-not-ports_agree : goal.returns-then-not-ports_agree
returns-then-not-ports_agree c =
    ports_differ c.args.a.now c.args.b.now
    (λ h. false≢true (sym c.if-not-ports_agree.true ∙ c.ports_agree.ensures.1 (of_ports c.args.a.now c.args.b.now c.parts.result.now c.parts-2.result.now c.parts.ensures.parts c.parts-2.ensures.parts h)))

pub returns-in-None : goal.returns-in-None
returns-in-None c =
    all_agree c.args.a.now c.args.b.now
    (ports_of c.args.a.now c.args.b.now c.parts.result.now c.parts-2.result.now c.parts.ensures.parts c.parts-2.ensures.parts (c.ports_agree.ensures.0 c.if-not-ports_agree.false))
    (subst (FirstOf c.args.a.now c.args.b.now (behind_ports c.args.a.now c.args.b.now)) c.in-None.is c.in_ok-first.ensures.first)

pub returns-in-Some : goal.returns-in-Some
returns-in-Some c =
    later_differs c.args.a.now c.args.b.now c.in-Some.n
    (ports_of c.args.a.now c.args.b.now c.parts.result.now c.parts-2.result.now c.parts.ensures.parts c.parts-2.ensures.parts (c.ports_agree.ensures.0 c.if-not-ports_agree.false))
    (subst (FirstOf c.args.a.now c.args.b.now (behind_ports c.args.a.now c.args.b.now)) c.in-Some.is c.in_ok-first.ensures.first)
