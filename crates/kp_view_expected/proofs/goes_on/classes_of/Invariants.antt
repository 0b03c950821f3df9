use Rattle.std.proofs.Common.{◌≡◌, ◌++◌, map, drop}
use Rattle.kp_lex.specs.declared.token.Token.{Token}
use Rattle.kp_view_expected.specs.GoesOn.{class_of}
use Rattle.kp_view_expected.proofs.goes_on.classes_of.Given as goal

abbrev pub invariant-loop-token : goal.invariant-loop-token
invariant-loop-token l = l.classes.items ++ map (λ (t : Token). class_of t.kind) (drop l.token-index l.tokens) ≡ map (λ (t : Token). class_of t.kind) l.tokens
