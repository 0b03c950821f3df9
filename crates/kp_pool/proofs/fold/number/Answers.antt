use Rattle.std.proofs.{Common.◌≡◌, Common.◌∙◌, Common.true, Common.get_or, Common.sym, Common.subst, Common.ap, lemmas.List.get_or_default}
use Rattle.kp_bits.specs.Word.{IsWord}
use Rattle.kp_bits.specs.Word as bits
use Rattle.kp_net.specs.{declared.node.Node.Node, Widths.wide, Widths.no_node}
use Rattle.kp_pool.{specs.Folding.is_const, specs.inner.Folds.number_at, proofs.Folds.number_is}
use Rattle.kp_pool.proofs.fold.number.Goals as goal

pub word_of-requires : goal.word_of-requires
unfolding wide
word_of-requires c =
    let ns = c.args.nodes.now in
    let x = c.index-nodes-a.result in
    let same : x ≡ get_or ns c.args.a.0 no_node = c.index-nodes-a.is ∙ get_or_default ns c.args.a.0 x no_node c.requires.inside in
    let n = number_is ns c.args.a.0 c.in-Const.value c.requires.right c.requires.inside (sym (ap (λ (y : Node). y.kind) same) ∙ c.in-Const.is) in
    let P : bits.Word → Type 0 = IsWord in
    subst P (sym (ap (λ (y : Node). bits.word y.width c.in-Const.value) same)) n.1

pub returns-in-Const : goal.returns-in-Const
unfolding wide
returns-in-Const c =
    let ns = c.args.nodes.now in
    let x = c.index-nodes-a.result in
    let same : x ≡ get_or ns c.args.a.0 no_node = c.index-nodes-a.is ∙ get_or_default ns c.args.a.0 x no_node c.requires.inside in
    let n = number_is ns c.args.a.0 c.in-Const.value c.requires.right c.requires.inside (sym (ap (λ (y : Node). y.kind) same) ∙ c.in-Const.is) in
    let P : bits.Word → Type 0 = λ w. (is_const (get_or ns c.args.a.0 no_node).kind ≡ true) × IsWord w × (w ≡ number_at ns c.args.a.0) in
    subst P (sym (c.word_of.ensures ∙ ap (λ (y : Node). bits.word y.width c.in-Const.value) same)) n
