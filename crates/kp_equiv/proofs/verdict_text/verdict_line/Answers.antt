use Rattle.std.proofs.{Common.◌∙◌, lemmas.Result.IfOk-weaker}
use Rattle.kp_equiv.proofs.Lines.{same_reported, difference_reported}
use Rattle.kp_equiv.proofs.verdict_text.verdict_line.Goals as goal

pub returns-in-Same : goal.returns-in-Same
returns-in-Same c =
    let reported = same_reported c.args.a.now c.args.b.now c.args.verdict c.root_count.result c.in-Same.is c.requires.verdict c.root_count.ensures in
    IfOk-weaker c.same_line.result _ _ (λ line e. e ∙ reported) c.same_line.ensures

pub returns-in_ok-name-in-Differs : goal.returns-in_ok-name-in-Differs
returns-in_ok-name-in-Differs c =
    let reported = difference_reported c.args.a.now c.args.b.now c.args.verdict c.in-Differs.root c.in_ok-name-in-Differs.name.now c.in-Differs.is c.in_ok-name-in-Differs.ensures in
    IfOk-weaker c.different_line.result _ _ (λ line e. e ∙ reported) c.different_line.ensures
