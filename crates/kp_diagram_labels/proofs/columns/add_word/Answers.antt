use Rattle.std.proofs.{Common.◌≡◌, Common.◌∙◌, Common.List, Common.ℕ, Common.◌++◌, Common.◌-◌, Common.ap, Common.arith, Common.refl, lemmas.Result.on_ok_weaker}
use Rattle.kp_diagram_labels.{specs.Texts.column_text, proofs.Texts.digits_cut, proofs.Texts.digits_short}
use Rattle.kp_diagram_labels.proofs.columns.add_word.Goals as goal

pub overflow_sub-end : goal.overflow_sub-end
overflow_sub-end c = let short = digits_short c.args.word in omega (arith, short, c.digits_in-digits.ensures, c.spell-end.ensures.length)

pub returns : goal.returns
returns c =
    on_ok_weaker c.add_column.result
    (λ is. is ∙ ap (λ (t : List ℕ). c.args.out.now.items ++ column_text c.args.width t)
    (digits_cut c.args.word _ _ _ _ c.spell-end.ensures.written c.spell-end.ensures.length (ap (λ (n : ℕ). c.spell-end.result - n) c.digits_in-digits.ensures)))
    c.add_column.ensures
