use Rattle.std.proofs.Common.{◌≡◌, ◌∙◌, refl, sym, ap, ap₂, ℕ, ltb, ◌-◌, min, List, length, take, drop, arith, rules}
use Rattle.std.proofs.lemmas.{List.take_min, List.drop_min, Grind.common_steps}
use Rattle.kp_view_excerpt.{specs.Excerpts.last, specs.Lines.line_at, proofs.Cuts.cut_is, proofs.Cuts.left_is}
use Rattle.kp_view_excerpt.proofs.excerpt.excerpt_at.Goals as goal

pub returns-clause-shows : goal.returns-clause-shows
returns-clause-shows c =
    let line = line_at c.args.text.now c.args.place.line in
    let column = c.args.place.col - 1 in
    let marks = min c.args.count 100 in
    let there = c.split_at.result.1.now in
    let behind = c.split_at-3.result.1.now in
    let clip : c.min-column.result ≡ min column (length line) = search rules in
    let front : c.split_at.result.0.now ≡ take column line
    = c.split_at.ensures.front ∙ ap₂ (λ (k : ℕ) (xs : List ℕ). take k xs) clip c.line_at-line.ensures ∙ take_min column line in
    let from : there ≡ drop column line
    = c.split_at.ensures.back ∙ ap₂ (λ (k : ℕ) (xs : List ℕ). drop k xs) clip c.line_at-line.ensures ∙ drop_min column line in
    let late : c.saturating_sub-2.result ≡ length c.split_at.result.0.now - 400 = search rules in
    let mark : c.min-2.result ≡ min marks (length there) = grind (arith, common_steps) in
    let rest : behind ≡ drop marks (drop column line)
    = c.split_at-3.ensures.back ∙ ap (λ (k : ℕ). drop k there) mark ∙ drop_min marks there ∙ ap (drop marks) from in
    let most : c.min-3.result ≡ min 200 (length behind) = search rules in
    record {
      line = refl;
      begins_late = cut_is 400 (length c.split_at-2.result.1.now) c.min-column.result (omega (arith, late, c.split_at-2.ensures.back_len, c.split_at.ensures.front_len)) ∙ ap (ltb 400) (sym c.split_at.ensures.front_len ∙ ap length front);
      before = c.split_at-2.ensures.back ∙ ap (λ (k : ℕ). drop k c.split_at.result.0.now) late ∙ ap (last 400) front;
      marked = c.split_at-3.ensures.front ∙ ap (λ (k : ℕ). take k there) mark ∙ take_min marks there ∙ ap (take marks) from;
      after = c.split_at-4.ensures.front ∙ ap (λ (k : ℕ). take k behind) most ∙ take_min 200 behind ∙ ap (take 200) rest;
      ends_early = left_is 200 (length c.split_at-4.result.1.now) (length behind) c.is_empty.result (search rules) (omega (arith, most, c.split_at-4.ensures.back_len)) ∙ ap (λ (xs : List ℕ). ltb 200 (length xs)) rest;
    }
