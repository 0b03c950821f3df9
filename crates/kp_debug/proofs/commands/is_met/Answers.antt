use Rattle.std.{proofs.Common.◌≡◌, proofs.Common.◌∙◌, proofs.Common.ap, proofs.Common.sym, specs.Prelude.◌==◌}
use Rattle.kp_bits.specs.Word.{Word}
use Rattle.kp_report.specs.States.{State}
use Rattle.kp_debug.{specs.inner.Standing.state_seen, proofs.Standing.visible_is}
use Rattle.kp_debug.proofs.commands.is_met.Goals as goal

pub returns : goal.returns
returns c =
    let job = c.args.job.now.design.job in
    let d = c.args.session.now in
    let found : c.value.result ≡ state_seen job d c.args.target 0 = c.value.ensures.value ∙ ap (λ (w : Word). w.value) c.register_shown.ensures in
    (λ i. found i == c.value-2.ensures.value i)
    ∙ ap (λ (shown : State). shown c.args.target 0 == c.args.value.value) (sym (visible_is job d c.requires.under))
