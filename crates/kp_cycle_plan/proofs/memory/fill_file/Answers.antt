use Rattle.std.proofs.Common.{ℕ, List, [], get_or, set, ap, ◌∙◌}
use Rattle.kp_cycle_plan.{specs.Storage.Stored, proofs.Spans.filled_more}
use Rattle.kp_cycle_plan.proofs.memory.fill_file.Goals as goal

pub loop-i-preserved : goal.loop-i-preserved
loop-i-preserved c =
    let m = c.args.memory.now in
    let file = c.args.file in
    let i = c.loop-i.i in
    c.set_word.ensures
    ∙ ap (λ (x : Stored). record x { files = set x.files file (set (get_or x.files file []) i (get_or c.args.words.now i 0)) }) c.loop-i.invariant
    ∙ ap (λ (fs : List (List ℕ)). record m { files = fs }) (filled_more m.files file i c.args.words.now c.requires.file c.requires.size c.loop-i-test.true)
