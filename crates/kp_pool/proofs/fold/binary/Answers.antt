use Rattle.std.proofs.Common.{refl, sym, ap, ◌∙◌}
use Rattle.kp_bits.specs.Word as bits
use Rattle.kp_bits.specs.Operators.{binary_of}
use Rattle.kp_net.specs.declared.node.Kind.TheVariants.{Binary}
use Rattle.kp_pool.proofs.Folds.{fold_word, number_word, left_wins, left_yields}
use Rattle.kp_pool.proofs.fold.binary.Goals as goal

pub apply-requires : goal.apply-requires
apply-requires c = λ s.
    ap (λ (w : bits.Word). w.width) c.in-Some.ensures.2 ∙ c.requires.widths.1.1 s ∙ sym (ap (λ (w : bits.Word). w.width) c.in-Some-number.ensures.2)

pub returns-in-Some-number : goal.returns-in-Some-number
returns-in-Some-number c = λ k ok. fold_word c.args.nodes.now k (Binary c.args.op c.args.a c.args.b) c.requires.right ok refl c.apply.result
    (λ x.
    let l = number_word x c.args.nodes.now c.args.a c.in-Some.left c.requires.right c.requires.left_inside c.in-Some.ensures in
    let r = number_word x c.args.nodes.now c.args.b c.in-Some-number.right c.requires.right c.requires.right_inside c.in-Some-number.ensures in
    c.apply.ensures ∙ (λ i. binary_of c.args.op (l i) (r i)))

pub returns-in-Wins : goal.returns-in-Wins
returns-in-Wins c = λ k ok. left_wins c.args.nodes.now k c.args.op c.args.a c.args.b c.in-Some.left c.requires.right ok c.in-Some.ensures c.in-Wins.ensures

pub returns-in-Yields : goal.returns-in-Yields
returns-in-Yields c = λ k ok. left_yields c.args.nodes.now k c.args.op c.args.a c.args.b c.in-Some.left c.requires.right ok c.in-Some.ensures c.in-Yields.ensures
