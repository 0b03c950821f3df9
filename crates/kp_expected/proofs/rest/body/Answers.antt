use Rattle.std.proofs.Common.{rules, arith}
use Rattle.kp_expected.proofs.Rows.{chosen_now, chosen_last, seen_one}
use Rattle.kp_expected.proofs.rest.body.Goals as goal

pub returns-then-begins : goal.returns-then-begins
returns-then-begins g c =
    chosen_now g.C.Class.number g.P.Part.name g.P.Part.rules g.P.Part.tables (g.P.Part.name c.args.part) (g.C.Class.number c.args.class) c.rule.result.now.alternatives.now c.loop-one.one-index c.one-item.result
    (seen_one g.C.Class.number g.P.Part.name c.loop-one.chosen) c.begins.result c.loop-one-test.true (search rules) c.loop-one.invariant c.rule.ensures.alternatives_are c.begins.ensures c.if-begins.true

pub returns : goal.returns
returns g c =
    chosen_last g.C.Class.number g.P.Part.name g.P.Part.rules g.P.Part.tables (g.P.Part.name c.args.part) (g.C.Class.number c.args.class) c.rule.result.now.alternatives.now c.loop-one.one-index
    (seen_one g.C.Class.number g.P.Part.name c.loop-one.chosen) (omega (arith, c.loop-one-test.false)) c.loop-one.invariant c.rule.ensures.alternatives_are
