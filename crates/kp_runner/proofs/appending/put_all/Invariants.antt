use Rattle.std.{proofs.Common.◌≡◌, proofs.Common.◌++◌, proofs.Common.take, specs.Prelude.flat_map}
use Rattle.kp_runner.proofs.appending.put_all.Given as goal

abbrev pub invariant-loop-piece : goal.invariant-loop-piece
invariant-loop-piece l = l.out.items ≡ l.initial.out.items ++ flat_map (λ piece. piece.now) (take l.piece-index l.pieces)
