use Rattle.std.proofs.Common.{◌≡◌, [], ◌∷◌, ◌++◌, length, map, ap, ◌∙◌}
use Rattle.kp_region.specs.{declared.span.Span.Span, Words.Words, Words.span_words, Words.next_span, Words.carved, Words.filled}
use Rattle.kp_region.proofs.Spans.{region_is, span_is}
use Rattle.kp_seq.proofs.Stored.{more_words}
use Rattle.kp_seq.proofs.words.add.Goals as goal

pub returns-clause-words : goal.returns-clause-words
returns-clause-words c =
    let r = c.args.region.now in
    let ws = c.args.words.now in
    let n = length ws in
    let s = c.unwrap-span.result in
    let spans = c.args.targets.now.items in
    let is : s ≡ next_span r n = span_is r n c.carve.result s c.unwrap-span.ensures c.carve.ensures.span in
    let new : c.fill.new.self ≡ filled (carved r n) (next_span r n) ws =
    c.fill.ensures.filled
    ∙ ap (λ (x : Words). filled x s ws) (region_is r c.carve.new.self n c.carve.result s c.unwrap-span.ensures c.carve.ensures.carved)
    ∙ ap (λ (x : Span). filled (carved r n) x ws) is in
    ap (λ (x : Words). map (span_words x) c.push.new.self.items) new
    ∙ ap (map (span_words (filled (carved r n) (next_span r n) ws))) (c.in_ok-push.ensures.items ∙ ap (λ (x : Span). spans ++ x ∷ []) is)
    ∙ more_words r spans ws c.requires.apart c.requires.room c.requires.few
