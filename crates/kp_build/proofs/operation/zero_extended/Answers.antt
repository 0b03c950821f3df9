use Rattle.std.proofs.Common.{◌≡◌, ◌∙◌, ◌+◌, ◌-◌, ap, sym, arith}
use Rattle.kp_bits.{specs.Word.Word, specs.Word.word, specs.Word.concat_of, specs.Word.zext_of, proofs.Arithmetic.zext_concat}
use Rattle.kp_net.{specs.Nodes.word_at, specs.Widths.wide, proofs.Values.word_wide}
use Rattle.kp_build.proofs.Fitting.{shown, extension_ok}
use Rattle.kp_build.proofs.operation.zero_extended.Goals as goal

pub overflow_cast-more : goal.overflow_cast-more
overflow_cast-more c = let e = extension_ok c.args.pool.now.nodes c.args.width c.args.a.0 _ c.requires.inside c.requires.fit in omega (arith, e.1)

pub overflow_sub-more : goal.overflow_sub-more
overflow_sub-more c = let e = extension_ok c.args.pool.now.nodes c.args.width c.args.a.0 _ c.requires.inside c.requires.fit in omega (arith, e.0, c.width.ensures.width)

pub constant-zeros-requires-clause-at_most : goal.constant-zeros-requires-clause-at_most
constant-zeros-requires-clause-at_most c = let e = extension_ok c.args.pool.now.nodes c.args.width c.args.a.0 _ c.requires.inside c.requires.fit in omega (arith, e.1)

pub pair-requires-clause-fit : goal.pair-requires-clause-fit
pair-requires-clause-fit c =
    let e = extension_ok c.args.pool.now.nodes c.args.width c.args.a.0 _ c.requires.inside c.requires.fit in
    let k = c.constant-zeros.ensures.grown.kept.widths c.args.a.0 c.requires.inside in
    omega (arith, e.0, e.1, k, c.width.ensures.width, c.constant-zeros.ensures.wire.wide)

pub returns-then-more-eq0-clause-shows : goal.returns-then-more-eq0-clause-shows
returns-then-more-eq0-clause-shows c =
    let ns = c.args.pool.now.nodes in
    let e = extension_ok ns c.args.width c.args.a.0 _ c.requires.inside c.requires.fit in
    let w : wide ns c.args.a.0 ≡ c.args.width = omega (arith, e.0, c.if-more-eq0.true, c.width.ensures.width) in
    shown _ _ _ _ c.requires.fit (λ c'. ap (λ n. word n (word_at c' ns c.args.a.0).value) (word_wide c' ns c.args.a.0 c.requires.inside ∙ w))

pub returns-clause-shows : goal.returns-clause-shows
returns-clause-shows c =
    let ns = c.args.pool.now.nodes in
    let more = c.args.width - c.width.result in
    let e = extension_ok ns c.args.width c.args.a.0 _ c.requires.inside c.requires.fit in
    shown _ _ _ _ c.requires.fit (λ c'.
    let a = word_at c' ns c.args.a.0 in
    let k : word_at c' c.constant-zeros.new.pool.nodes c.args.a.0 ≡ a = c.constant-zeros.ensures.grown.kept.words c' c.args.a.0 c.requires.inside in
    let wa : a.width ≡ wide ns c.args.a.0 = word_wide c' ns c.args.a.0 c.requires.inside in
    let s : more + a.width ≡ c.args.width = omega (arith, wa, e.0, c.width.ensures.width) in
    c.pair.ensures.word c'
    ∙ ap (λ (x : Word). concat_of x (word_at c' c.constant-zeros.new.pool.nodes c.args.a.0)) (c.constant-zeros.ensures.word c')
    ∙ ap (λ (x : Word). concat_of (word more 0) x) k
    ∙ sym (zext_concat a more)
    ∙ ap (zext_of a) s)
