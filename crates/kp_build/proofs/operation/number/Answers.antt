use Rattle.std.{proofs.Common.◌∙◌, proofs.Common.Some, proofs.Common.ap, proofs.Common.sym, specs.Result.result_ok}
use Rattle.kp_bits.specs.Word.{word}
use Rattle.kp_build.specs.inner.Showing.{Shows}
use Rattle.kp_build.proofs.operation.number.Goals as goal

pub returns-clause-shows : goal.returns-clause-shows
unfolding Shows
returns-clause-shows c = λ c'.
    let w = c.constant.ensures.word c' ∙ ap (λ n. word n c.value.result) c.width.ensures.value ∙ ap (word c.in-Ok.bits.width) c.value.ensures.value in
    ap result_ok (sym c.in-Ok.ensures) ∙ ap Some (sym w)
