use Rattle.std.proofs.{Common.◌≡◌, Common.◌+◌, Common.◌≤◌, Common.length, Common.arith, Common.⊎_elim, lemmas.List.Edits.length-between}
use Rattle.kp_region.{specs.Words.span_words, proofs.Laid.laid_below, proofs.Laid.laid_above}
use Rattle.kp_region.proofs.laws.copies_stay_apart.Goals as goal

pub returns : goal.returns
returns c r s from to sound from_within to_within same apart =
    let room : to.start ≤ length r.words = omega arith in
    let size : length (span_words r from) ≡ from.len =
    omega (arith, length-between r.words from.start (from.start + from.len) (omega arith)) in
    ⊎_elim
    (λ below. laid_below r.words _ to.start room s.start _ below)
    (λ above. laid_above r.words _ to.start room s.start _ (omega arith))
    apart
