use Rattle.std.proofs.Common.{◌<◌, ◌≤◌, ◌∙◌, sym, arith}
use Rattle.kp_report.{specs.States.targets_in, proofs.Numbers.target_behind, proofs.Numbers.target_there, proofs.Numbers.none_left}
use Rattle.kp_report.proofs.difference_text.write_target.Goals as goal

pub write_name-requires : goal.write_name-requires
write_name-requires g c =
    let low : c.loop-decl.left < targets_in c.decl-item.result = omega (arith, c.if-left-here.true, c.targets_in-here.ensures) in
    (target_there c.args.decls.now c.loop-decl.decl-index c.decl-item.result c.loop-decl-test.true c.decl-item.is c.loop-decl.left low).0

pub returns-then-left-here-clause-text : goal.returns-then-left-here-clause-text
returns-then-left-here-clause-text g c =
    let low : c.loop-decl.left < targets_in c.decl-item.result = omega (arith, c.if-left-here.true, c.targets_in-here.ensures) in
    let same = c.loop-decl.invariant.same ∙ (target_there c.args.decls.now c.loop-decl.decl-index c.decl-item.result c.loop-decl-test.true c.decl-item.is c.loop-decl.left low).1 in
    rw (same, sym c.loop-decl.invariant.sink) c.write_name.ensures.text

pub loop-decl-preserved : goal.loop-decl-preserved
loop-decl-preserved g c =
    let low : targets_in c.decl-item.result ≤ c.loop-decl.left = omega (arith, c.if-left-here.false, c.targets_in-here.ensures) in
    let p = target_behind c.args.decls.now c.loop-decl.decl-index c.decl-item.result c.loop-decl-test.true c.decl-item.is c.loop-decl.left c.loop-decl.invariant.there low in
    rw c.targets_in-here.ensures (record {
      there = p.0;
      same = c.loop-decl.invariant.same ∙ p.1;
      sink = c.loop-decl.invariant.sink;
    })

pub returns-clause-text : goal.returns-clause-text
returns-clause-text g c = absurd (none_left c.args.decls.now c.loop-decl.decl-index c.loop-decl.left (omega arith) c.loop-decl.invariant.there)
