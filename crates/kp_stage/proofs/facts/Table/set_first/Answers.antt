use Rattle.std.{proofs.Common.◌≡◌, proofs.Common.◌∙◌, proofs.Common.false, proofs.lemmas.Result.on_ok_weaker, specs.Prelude.is_some}
use Rattle.kp_stage.{specs.inner.Tables.look_up, specs.inner.Tables.with_value, proofs.Noted.first_is}
use Rattle.kp_stage.proofs.facts.Table.set_first.Goals as goal

pub returns : goal.returns
returns g c =
    let f = look_up c.args.self.now in
    let n = c.args.name.now in
    let none : is_some (look_up c.args.self.now c.args.name.now) ≡ false = cc in
    on_ok_weaker c.set.result (λ (e : look_up c.set.new.self ≡ with_value f n c.args.value). e ∙ first_is f n c.args.value none) c.set.ensures
