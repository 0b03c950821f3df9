use Rattle.std.proofs.Common.{◌≡◌, ◌∙◌, ◌-◌, ◌<◌, length, ap, sym, arith}
use Rattle.kp_bits.specs.Word.{Word, word, not_of, mux_of, slice_of}
use Rattle.kp_net.{specs.Nodes.word_at, proofs.Values.word_wide}
use Rattle.kp_build.proofs.operation.copies.Goals as goal

pub returns-clause-word : goal.returns-clause-word
returns-clause-word c = λ c'.
    let p = c.args.pool.now in
    let p2 = c.constant-zeros.new.pool in
    let p3 = c.complement-ones.new.pool in
    let a = word_at c' p.nodes c.args.a.0 in
    let zeros = c.constant-zeros.result.0 in
    let top = c.part-top.result.0 in
    let in1 = c.part-top.ensures.wire.inside in
    let in2 : top < length p2.nodes = omega (arith, in1, c.constant-zeros.ensures.grown.kept.longer) in
    let in_zeros = c.constant-zeros.ensures.wire.inside in
    let w : c.width-width.result ≡ a.width = c.width-width.ensures.width ∙ sym (word_wide c' p.nodes c.args.a.0 c.requires.inside) in
    let test : word_at c' p3.nodes top ≡ slice_of a (a.width - 1) (a.width - 1) =
    c.complement-ones.ensures.grown.kept.words c' top in2 ∙ c.constant-zeros.ensures.grown.kept.words c' top in1 ∙ c.part-top.ensures.word c' ∙ ap (λ n. slice_of a (n - 1) (n - 1)) w in
    let zero : word_at c' p2.nodes zeros ≡ word c.args.count 0 = c.constant-zeros.ensures.word c' in
    let no : word_at c' p3.nodes zeros ≡ word c.args.count 0 = c.complement-ones.ensures.grown.kept.words c' zeros in_zeros ∙ zero in
    let yes : word_at c' p3.nodes c.complement-ones.result.0 ≡ not_of (word c.args.count 0) = c.complement-ones.ensures.word c' ∙ ap not_of zero in
    c.choose.ensures.word c'
    ∙ ap (λ (x : Word). mux_of x (word_at c' p3.nodes c.complement-ones.result.0) (word_at c' p3.nodes zeros)) test
    ∙ ap (λ (x : Word). mux_of (slice_of a (a.width - 1) (a.width - 1)) x (word_at c' p3.nodes zeros)) yes
    ∙ ap (λ (x : Word). mux_of (slice_of a (a.width - 1) (a.width - 1)) (not_of (word c.args.count 0)) x) no
