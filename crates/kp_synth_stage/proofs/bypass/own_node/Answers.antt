use Rattle.std.proofs.Common.{◌∙◌, ◌%◌, ◌^◌, ap, sym, subst}
use Rattle.kp_net.specs.declared.node.Kind.TheVariants as kinds
use Rattle.kp_net.{specs.Growth.Wire, proofs.Growing.wire_kept}
use Rattle.kp_design.specs.Numbers.{target_at}
use Rattle.kp_synth_registers.proofs.Growth.{asked_added}
use Rattle.kp_synth_stage.specs.{declared.row.Own.Own, Rows.own_value, Rows.asked, Rows.AskOk}
use Rattle.kp_synth_stage.proofs.Nearest.{word_value, file_own}
use Rattle.kp_synth_stage.proofs.bypass.own_node.Goals as goal

pub returns-in-Some-clause-value : goal.returns-in-Some-clause-value
returns-in-Some-clause-value c = λ y.
    let v = word_value y c.args.pool.now c.node.new.self c.node.result c.in-Some.a c.args.source.now.width c.in-File.f (c.node.ensures.value y) in
    let e = c.in-File.is in
    let f = c.in-Some.is in
    v ∙ sym (ap (λ (o : Own). own_value y c.args.pool.now c.args.source.now.width o (asked y c.args.pool.now c.args.address)) e ∙ ap (λ (o : _). y.word c.in-File.f (asked y c.args.pool.now o) % 2 ^ c.args.source.now.width) f)

pub returns-in-Some-clause-added : goal.returns-in-Some-clause-added
returns-in-Some-clause-added c =
    let job = c.args.d.now.job in
    let own = file_own job c.args.pool.now c.args.t c.in-File.f c.args.source.now.own c.in-File.is c.requires.source.own in
    let wire : Wire c.args.pool.now c.in-Some.a (target_at job c.args.t).address = subst (λ o. AskOk c.args.pool.now (target_at job c.args.t).address o) c.in-Some.is c.requires.address in
    asked_added job c.args.pool.now c.node.new.self (record { width = c.args.source.now.width; kind = kinds.Word c.in-File.f c.in-Some.a }) c.node.ensures.kept c.node.ensures.added
    (c.args.t, c.requires.target, own.0, own.1, c.requires.source.width, wire_kept c.args.pool.now c.node.new.self 1 c.in-Some.a _ c.node.ensures.kept wire)
