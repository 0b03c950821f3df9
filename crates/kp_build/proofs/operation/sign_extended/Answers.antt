use Rattle.std.proofs.Common.{◌≡◌, ◌∙◌, ◌+◌, ◌-◌, ap, sym, arith}
use Rattle.kp_bits.specs.Word.{Word, IsWord, concat_of, sext_of}
use Rattle.kp_net.{specs.Nodes.word_at, specs.Widths.wide, proofs.Values.word_wide}
use Rattle.kp_build.{specs.inner.Showing.copies, proofs.Fitting.shown, proofs.Fitting.extension_ok, proofs.Fitting.is_word}
use Rattle.kp_build.proofs.Extending.{sext_same, sext_concat}
use Rattle.kp_build.proofs.operation.sign_extended.Goals as goal

pub overflow_cast-more : goal.overflow_cast-more
overflow_cast-more c = let e = extension_ok c.args.pool.now.nodes c.args.width c.args.a.0 _ c.requires.inside c.requires.fit in omega (arith, e.1)

pub overflow_sub-more : goal.overflow_sub-more
overflow_sub-more c = let e = extension_ok c.args.pool.now.nodes c.args.width c.args.a.0 _ c.requires.inside c.requires.fit in omega (arith, e.0, c.width.ensures.width)

pub copies-front-requires-clause-at_most : goal.copies-front-requires-clause-at_most
copies-front-requires-clause-at_most c = let e = extension_ok c.args.pool.now.nodes c.args.width c.args.a.0 _ c.requires.inside c.requires.fit in omega (arith, e.1)

pub pair-requires-clause-fit : goal.pair-requires-clause-fit
pair-requires-clause-fit c =
    let e = extension_ok c.args.pool.now.nodes c.args.width c.args.a.0 _ c.requires.inside c.requires.fit in
    let k = c.copies-front.ensures.grown.kept.widths c.args.a.0 c.requires.inside in
    omega (arith, e.0, e.1, k, c.width.ensures.width, c.copies-front.ensures.wire.wide)

pub returns-then-more-eq0-clause-shows : goal.returns-then-more-eq0-clause-shows
returns-then-more-eq0-clause-shows c =
    let ns = c.args.pool.now.nodes in
    let e = extension_ok ns c.args.width c.args.a.0 _ c.requires.inside c.requires.fit in
    let w : wide ns c.args.a.0 ≡ c.args.width = omega (arith, e.0, c.if-more-eq0.true, c.width.ensures.width) in
    shown _ _ _ _ c.requires.fit (λ c'.
    let a = word_at c' ns c.args.a.0 in
    sym (sext_same a) ∙ ap (sext_of a) (word_wide c' ns c.args.a.0 c.requires.inside ∙ w))

pub returns-clause-shows : goal.returns-clause-shows
returns-clause-shows c =
    let ns = c.args.pool.now.nodes in
    let more = c.args.width - c.width.result in
    let e = extension_ok ns c.args.width c.args.a.0 _ c.requires.inside c.requires.fit in
    let z = c.width.ensures in
    shown _ _ _ _ c.requires.fit (λ c'.
    let a = word_at c' ns c.args.a.0 in
    let k : word_at c' c.copies-front.new.pool.nodes c.args.a.0 ≡ a = c.copies-front.ensures.grown.kept.words c' c.args.a.0 c.requires.inside in
    let wa : a.width ≡ wide ns c.args.a.0 = word_wide c' ns c.args.a.0 c.requires.inside in
    let s : more + a.width ≡ c.args.width = omega (arith, wa, e.0, z.width) in
    let right : IsWord a = is_word c' ns c.args.a.0 c.requires.inside (omega (arith, z.width, z.positive)) (omega (arith, z.width, z.at_most)) in
    c.pair.ensures.word c'
    ∙ ap (λ (x : Word). concat_of x (word_at c' c.copies-front.new.pool.nodes c.args.a.0)) (c.copies-front.ensures.word c')
    ∙ ap (λ (x : Word). concat_of (copies more a) x) k
    ∙ sym (sext_concat a more right)
    ∙ ap (sext_of a) s)
