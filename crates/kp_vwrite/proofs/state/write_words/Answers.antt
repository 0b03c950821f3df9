use Rattle.std.proofs.{Common.refl, lemmas.List.take_all}
use Rattle.kp_base.proofs.Writing.{each_at}
use Rattle.kp_vwrite.{specs.Texts.words_text, specs.Texts.word_text, proofs.Safe.get_again}
use Rattle.kp_vwrite.proofs.state.write_words.Goals as goal

pub loop-address-preserved : goal.loop-address-preserved
loop-address-preserved g c =
    each_at (words_text c.args.name.now c.args.width) (word_text c.args.name.now c.args.width) (λ _ _ _. refl) (λ _. refl) c.args.words.now c.loop-address.address _ _ _ _ c.loop-address-test.true (get_again c.args.words.now c.loop-address.address _ c.loop-address-test.true) c.loop-address.invariant c.write_word.ensures

pub returns : goal.returns
returns g c = rw (take_all c.loop-address.address c.args.words.now c.loop-address-test.false) at c.loop-address.invariant
