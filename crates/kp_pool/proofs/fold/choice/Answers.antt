use Rattle.std.proofs.Common.{sym, ◌∙◌}
use Rattle.kp_pool.proofs.Folds.{chosen, other}
use Rattle.kp_pool.proofs.fold.choice.Goals as goal

pub returns-then-value-eq1 : goal.returns-then-value-eq1
returns-then-value-eq1 c = λ k ok. chosen c.args.nodes.now k c.args.test c.args.yes c.args.no c.requires.right ok c.in-Some.word c.in-Some.ensures (sym c.value.ensures.value ∙ c.if-value-eq1.true)

pub returns-else-value-eq1 : goal.returns-else-value-eq1
returns-else-value-eq1 c = λ k ok. other c.args.nodes.now k c.args.test c.args.yes c.args.no c.requires.right ok c.in-Some.word c.in-Some.ensures (λ e. c.if-value-eq1.false (c.value.ensures.value ∙ e))
