use Rattle.std.{proofs.Common.◌≡◌, proofs.Common.◌++◌, proofs.Common.map, proofs.Common.drop, specs.Prelude.filter}
use Rattle.kp_view_excerpt.specs.Excerpts.{is_first}
use Rattle.kp_view_excerpt.proofs.excerpt.write_marks.Given as goal

abbrev pub invariant-loop-byte : goal.invariant-loop-byte
invariant-loop-byte l = l.out.items ++ map (λ b. 94) (filter is_first (drop l.byte-index l.marked)) ≡ l.initial.out.items ++ map (λ b. 94) (filter is_first l.marked)
