use Rattle.std.proofs.Common.{ℕ, List, ◌++◌, length, take, drop, refl, ap, ◌∙◌}
use Rattle.kp_region.specs.Words.{Words, overwritten, span_words}
use Rattle.kp_region.proofs.region.Region.words_mut.Goals as goal

pub returns : goal.returns
returns c =
    let r = c.self.inside in
    let s = c.args.s in
    let ws = r.words.items in
    let over : List ℕ → List ℕ = λ w. take s.start ws ++ (w ++ drop (length w) (drop s.start ws)) in (
      (
        refl,
        λ w. ap (λ (n : ℕ). record { words = take n (over w ++ drop (length (over w)) ws); used = r.used }) r.words.ok.0 ∙ ap (λ (x : Words). overwritten x s w) c.self.view_is,
      ),
      record { writes_back = tt; value = c.slice_mut.ensures.value ∙ ap (λ (x : Words). span_words x s) c.self.view_is },
    )
