use Rattle.std.proofs.Common.{ℕ, ◌++◌, length, take, drop, refl, ap, ◌∙◌}
use Rattle.kp_region.specs.Words.{Words, replaced}
use Rattle.kp_region.proofs.region.Region.all_mut.Goals as goal

pub returns : goal.returns
returns c =
    let r = c.self.inside in
    let ws = r.words.items in (
      (
        refl,
        λ w. ap (λ (n : ℕ). record { words = take n (w ++ drop (length w) ws); used = r.used }) r.words.ok.0 ∙ ap (λ (x : Words). replaced x w) c.self.view_is,
      ),
      record { writes_back = tt; value = c.as_mut_slice.ensures.value ∙ ap (λ (x : Words). x.words) c.self.view_is },
    )
