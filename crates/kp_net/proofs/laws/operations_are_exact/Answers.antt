use Rattle.std.proofs.Common.{◌∙◌, get_or, arith}
use Rattle.kp_net.{specs.Nodes.word_at, specs.Widths.wide, specs.Widths.no_node, proofs.Values.word_there, proofs.Exact.node_exact, proofs.Exact.word_has}
use Rattle.kp_net.proofs.laws.operations_are_exact.Goals as goal

pub returns : goal.returns
unfolding wide
returns c = λ x ns i right h f.
    word_there x ns i h (right i h) ∙ node_exact x ns i (get_or ns i no_node) (word_at x ns) (right i h) f (λ j l. word_has x ns j right (omega arith))
