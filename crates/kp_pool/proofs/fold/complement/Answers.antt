use Rattle.std.proofs.Common.{refl, ap, ◌∙◌}
use Rattle.kp_bits.specs.Word.{not_of}
use Rattle.kp_net.specs.declared.node.Kind.TheVariants.{Not}
use Rattle.kp_pool.proofs.Folds.{fold_word, number_word, not_twice}
use Rattle.kp_pool.proofs.fold.complement.Goals as goal

pub returns-in-Some : goal.returns-in-Some
returns-in-Some c = λ k ok. fold_word c.args.nodes.now k (Not c.args.a) c.requires.right ok refl c.not.result
    (λ x. c.not.ensures ∙ ap not_of (number_word x c.args.nodes.now c.args.a c.in-Some.word c.requires.right c.requires.inside c.in-Some.ensures))

pub returns-in-Some-inverted : goal.returns-in-Some-inverted
returns-in-Some-inverted c = λ k ok. not_twice c.args.nodes.now k c.args.a c.in-Some-inverted.b c.requires.right ok c.in-Some-inverted.ensures
