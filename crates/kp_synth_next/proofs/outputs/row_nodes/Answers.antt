use Rattle.std.proofs.Common.{ℕ, subst, arith}
use Rattle.kp_net.specs.Growth.{Wire}
use Rattle.kp_synth_next.proofs.Squashes.{show_row}
use Rattle.kp_synth_next.proofs.outputs.row_nodes.Goals as goal

pub returns-clause-shows : goal.returns-clause-shows
returns-clause-shows c =
    let n = c.stages-n.ensures.stages in
    show_row c.args.layout.now c.args.pool.now c.fulls_of-fulls.new.pool c.word_of-full.new.pool c.word_of-ue.new.pool 12 0 c.fulls_of-fulls.result c.args.control.now c.word_of-full.result c.word_of-ue.result
    c.fulls_of-fulls.ensures.grown.kept c.word_of-full.ensures.grown.kept c.word_of-ue.ensures.grown.kept c.fulls_of-fulls.ensures.wires c.fulls_of-fulls.ensures.is_test c.requires.controls
    (subst (λ (w : ℕ). Wire c.word_of-full.new.pool c.word_of-full.result w) n c.word_of-full.ensures.wire)
    (subst (λ (w : ℕ). Wire c.word_of-ue.new.pool c.word_of-ue.result w) n c.word_of-ue.ensures.wire)
    (λ x k l. c.word_of-full.ensures.bits x k (omega (arith, l, n)))
    (λ x k l. c.word_of-ue.ensures.bits x k (omega (arith, l, n)))
