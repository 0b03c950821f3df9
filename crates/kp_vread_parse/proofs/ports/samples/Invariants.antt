use Rattle.std.proofs.Common.{[], ◌∷◌, length, drop}
use Rattle.kp_grammar.specs.Grammar.{Nonterminal}
use Rattle.kp_vlog.specs.Language.{SAMPLES, ports}
use Rattle.kp_vread_parse.specs.inner.Reading.{TurnsYet}
use Rattle.kp_vread_parse.proofs.ports.samples.Given as goal

abbrev pub invariant-all : goal.invariant-all
invariant-all l = TurnsYet l.tokens (Nonterminal SAMPLES ∷ []) (Nonterminal SAMPLES ∷ []) (ports [] ∷ []) (ports l.all.items ∷ []) l.at l.here

abbrev pub decreases-all : goal.decreases-all
decreases-all l = length (drop l.here l.tokens)
