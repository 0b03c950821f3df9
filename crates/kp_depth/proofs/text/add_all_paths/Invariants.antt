use Rattle.std.proofs.Common.{◌≡◌, ◌++◌}
use Rattle.kp_depth.specs.Text.{paths_text, texts_below}
use Rattle.kp_depth.proofs.text.add_all_paths.Given as goal

abbrev pub invariant-loop-k : goal.invariant-loop-k
invariant-loop-k l = l.out.items ≡ l.fn.out.items ++ texts_below (paths_text l.source.layout.now l.source.net.now l.source.wires.now l.source.times.now.all.items) l.rows l.k
