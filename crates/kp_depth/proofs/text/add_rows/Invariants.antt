use Rattle.std.proofs.Common.{◌≡◌, ◌++◌}
use Rattle.kp_depth.specs.Text.{row_text, texts_below}
use Rattle.kp_depth.proofs.text.add_rows.Given as goal

abbrev pub invariant-loop-k : goal.invariant-loop-k
invariant-loop-k l = l.out.items ≡ l.fn.out.items ++ texts_below (row_text l.source.layout.now l.source.net.now) l.rows l.k
