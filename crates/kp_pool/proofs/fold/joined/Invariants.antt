use Rattle.std.{proofs.Common.◌≡◌, proofs.Common.map, proofs.Common.take, proofs.Common.true, proofs.Common.get_or, specs.List.sum_by, specs.List.list_all}
use Rattle.kp_bits.specs.{Word.IsWord, Operators.joined_of}
use Rattle.kp_net.specs.Widths.{wide, no_node}
use Rattle.kp_pool.specs.{Folding.is_const, inner.Folds.number_at}
use Rattle.kp_pool.proofs.fold.joined.Given as goal

abbrev pub invariant-loop-i : goal.invariant-loop-i
invariant-loop-i l = IsWord l.word × (l.word ≡ joined_of (map (λ a. number_at l.nodes a.0) (take l.i l.parts))) × (l.word.width ≡ sum_by (λ a. wide l.nodes a.0) (take l.i l.parts))
    × (list_all (λ a. is_const (get_or l.nodes a.0 no_node).kind) (take l.i l.parts) ≡ true)
