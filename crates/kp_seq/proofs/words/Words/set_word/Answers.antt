use Rattle.std.proofs.Common.{◌<◌, length, ap, ◌∙◌, arith}
use Rattle.kp_seq.{specs.inner.Steps.with_word, proofs.Stored.word_written}
use Rattle.kp_seq.proofs.words.Words.set_word.Goals as goal

pub returns : goal.returns
returns c =
    let targets = c.self.inside.targets in
    let l : c.args.target < length targets.items = omega (arith, c.if-target-len.false, c.len.ensures, targets.ok.0) in
    let fits : c.args.address < c.index-span.result.now.len = omega (arith, c.if-address-from.false, c.from.ensures) in
    word_written c.self.inside.region c.put.new.self targets.items c.args.target c.args.address c.args.value c.index-span.result.now _ c.self.invariant l c.index-span.ensures fits c.put.ensures.written
    ∙ ap (λ x. with_word x c.args.target c.args.address c.args.value) c.self.view_is
