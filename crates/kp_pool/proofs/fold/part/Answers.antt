use Rattle.std.proofs.{Common.refl, Common.sym, Common.ap, Common.◌∙◌, lemmas.List.get_or_default}
use Rattle.kp_bits.specs.Word.{slice_of}
use Rattle.kp_net.specs.{declared.node.Kind.TheVariants.Slice, declared.node.Node.Node, Widths.wide, Widths.no_node}
use Rattle.kp_pool.proofs.Folds.{fold_word, number_word, whole_part}
use Rattle.kp_pool.proofs.fold.part.Goals as goal

pub returns-in-Some : goal.returns-in-Some
returns-in-Some c = λ ok. fold_word c.args.nodes.now c.args.width (Slice c.args.a c.args.hi c.args.lo) c.requires.right ok refl c.slice.result
    (λ x. c.slice.ensures ∙ ap (λ w. slice_of w c.args.hi c.args.lo) (number_word x c.args.nodes.now c.args.a c.in-Some.word c.requires.right c.requires.inside c.in-Some.ensures))

pub returns-then-nodes-a : goal.returns-then-nodes-a
unfolding wide
returns-then-nodes-a c =
    let ns = c.args.nodes.now in
    let x = c.index-nodes-a.result in
    λ ok. whole_part ns c.args.width c.args.a c.args.hi c.args.lo c.requires.right ok (sym (ap (λ (y : Node). y.width) (get_or_default ns c.args.a.0 x no_node c.requires.inside)) ∙ c.if-nodes-a.true)
