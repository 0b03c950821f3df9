use Rattle.std.proofs.Common.{◌<◌, ◌≤◌, ◌∙◌, sym, ap, arith}
use Rattle.kp_machine.specs.Slots.{Slot}
use Rattle.kp_report.{specs.States.targets_in, proofs.Numbers.target_behind, proofs.Numbers.target_there, proofs.Numbers.none_left}
use Rattle.kp_runner.proofs.state.name_of.Goals as goal

pub name_in-requires : goal.name_in-requires
name_in-requires c =
    let low : c.loop-decl.left < targets_in c.decl-item.result = omega (arith, c.if-left-here.true, c.targets_in-here.ensures) in
    (target_there c.args.decls.now c.loop-decl.decl-index c.decl-item.result c.loop-decl-test.true c.decl-item.is c.loop-decl.left low).0

pub returns-then-left-here : goal.returns-then-left-here
returns-then-left-here c =
    let low : c.loop-decl.left < targets_in c.decl-item.result = omega (arith, c.if-left-here.true, c.targets_in-here.ensures) in
    let same = c.loop-decl.invariant.same ∙ (target_there c.args.decls.now c.loop-decl.decl-index c.decl-item.result c.loop-decl-test.true c.decl-item.is c.loop-decl.left low).1 in
    c.name_in.ensures ∙ ap (λ (s : Slot). s.name) (sym same)

pub loop-decl-preserved : goal.loop-decl-preserved
loop-decl-preserved c =
    let low : targets_in c.decl-item.result ≤ c.loop-decl.left = omega (arith, c.if-left-here.false, c.targets_in-here.ensures) in
    let p = target_behind c.args.decls.now c.loop-decl.decl-index c.decl-item.result c.loop-decl-test.true c.decl-item.is c.loop-decl.left c.loop-decl.invariant.there low in
    rw c.targets_in-here.ensures (record {
      there = p.0;
      same = c.loop-decl.invariant.same ∙ p.1;
    })

pub returns : goal.returns
returns c = absurd (none_left c.args.decls.now c.loop-decl.decl-index c.loop-decl.left (omega arith) c.loop-decl.invariant.there)
