use Rattle.std.{proofs.Common.◌≡◌, proofs.Common.drop, specs.Prelude.find, specs.Str.bytes_eq}
use Rattle.kp_lex.specs.Words.{spelling}
use Rattle.kp_lex.proofs.front.keyword_among.Given as goal

abbrev pub invariant-loop-keyword : goal.invariant-loop-keyword
invariant-loop-keyword l = find (λ k. bytes_eq l.run (spelling k)) (drop l.keyword-index l.keywords) ≡ find (λ k. bytes_eq l.run (spelling k)) l.keywords
