use Rattle.std.proofs.Common.{◌≡◌, ◌<◌, ℕ, drop, get_or, vec_len}
use Rattle.kp_stage.specs.Start.{laid_over}
use Rattle.kp_image.proofs.state.file_words.Given as goal

abbrev pub invariant-loop-e : goal.invariant-loop-e
invariant-loop-e l =
    (vec_len l.words ≡ l.count)
    × ((x : ℕ) → x < l.count → laid_over (drop l.e-index l.entries) l.name x (get_or l.words.items x 0) ≡ laid_over l.entries l.name x 0)
