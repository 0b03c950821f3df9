use Rattle.std.proofs.Common.{rules, arith}
use Rattle.kp_expected.proofs.Machine.{goes_from, goes_all, one_more, went, failed, next, nothing}
use Rattle.kp_expected.proofs.rest.after.Goals as goal

pub loop-class-init : goal.loop-class-init
loop-class-init g c = goes_from g.C.Class.number g.P.Part.rules g.P.Part.tables _ _ c.args.front.now c.in_ok-rest.ensures

pub loop-class-preserved : goal.loop-class-preserved
loop-class-preserved g c =
    went g.C.Class.number g.P.Part.rules g.P.Part.tables c.in_ok-read.field-0 c.loop-class.invariant (one_more c.args.front.now c.loop-class.class-index c.class-item.result c.loop-class-test.true (search rules))
    c.if-not-branch.false c.in_ok-read.ensures

pub returns-then-not-branch : goal.returns-then-not-branch
returns-then-not-branch g c =
    nothing g.C.Class.number g.P.Part.rules g.P.Part.tables g.P.Part.ranks (g.P.Part.name c.args.start) c.requires c.args.front.now
    (failed g.C.Class.number g.P.Part.rules g.P.Part.tables _ c.in_ok-read.field-0 c.loop-class.invariant
    (one_more c.args.front.now c.loop-class.class-index c.class-item.result c.loop-class-test.true (search rules)) c.if-not-branch.true c.in_ok-read.ensures)

pub returns : goal.returns
returns g c =
    next g.C.Class.number g.P.Part.rules g.P.Part.tables g.P.Part.ranks (g.P.Part.name c.args.start) c.requires c.args.front.now _
    (goes_all g.C.Class.number g.P.Part.rules g.P.Part.tables c.args.front.now c.loop-class.class-index (omega (arith, c.loop-class-test.false)) c.loop-class.invariant)
