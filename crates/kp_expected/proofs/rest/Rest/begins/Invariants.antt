use Rattle.std.proofs.Common.{◌≡◌, take}
use Rattle.kp_expected.specs.{Plain.stack, Starts.starts}
use Rattle.kp_expected.proofs.rest.Rest.begins.Given as goal

abbrev pub invariant-loop-symbol : goal.invariant-loop-symbol
invariant-loop-symbol g l = l.answer ≡ starts g.P.Part.tables (stack g.C.Class.number g.P.Part.name (take l.symbol-index l.symbols)) (g.C.Class.number l.class)
