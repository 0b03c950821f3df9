use Rattle.std.proofs.{Common.◌≡◌, Common.◌∙◌, Common.ap, lemmas.Result.on_ok_weaker}
use Rattle.kp_stage.{specs.inner.Tables.look_up, specs.inner.Tables.with_value, specs.inner.Tables.less_than, proofs.Noted.less_is}
use Rattle.kp_stage.proofs.facts.Table+u64.set_less.Goals as goal

pub returns : goal.returns
returns c =
    let f = look_up c.args.self.now in
    let n = c.args.name.now in
    let same : c.least-kept.result ≡ less_than c.args.value (f n) = c.least-kept.ensures ∙ ap (less_than c.args.value) c.get.ensures in
    on_ok_weaker c.set.result (λ (e : look_up c.set.new.self ≡ with_value f n c.least-kept.result). e ∙ ap (with_value f n) same ∙ less_is f n c.args.value) c.set.ensures
