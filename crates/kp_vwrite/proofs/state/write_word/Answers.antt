use Rattle.kp_base.specs.Texts.{filled}
use Rattle.kp_base.proofs.Writing.{◌▷◌, wrote_as}
use Rattle.kp_vwrite.proofs.Lines.{word_is}
use Rattle.kp_vwrite.proofs.state.write_word.Goals as goal

pub returns : goal.returns
unfolding filled
returns g c =
    wrote_as _ _ _ _ (word_is c.args.name.now c.args.width c.args.address c.args.value c.if-value-eq0.false)
    (c.fill.ensures ▷ ((rw c.word_of.ensures at c.write_literal.ensures) ▷ c.put.ensures))
