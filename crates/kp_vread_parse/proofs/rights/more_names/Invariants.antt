use Rattle.std.proofs.Common.{[], ◌∷◌, ◌≤◌, length, drop}
use Rattle.kp_grammar.specs.Grammar.{Nonterminal}
use Rattle.kp_vlog.specs.Language.{NAMES, names}
use Rattle.kp_vread_parse.specs.inner.Reading.{TurnsYet}
use Rattle.kp_vread_parse.proofs.rights.more_names.Given as goal

abbrev pub invariant-all : goal.invariant-all
invariant-all l = (l.left ≤ 10) × TurnsYet l.tokens (Nonterminal (NAMES 10) ∷ []) (Nonterminal (NAMES l.left) ∷ []) (names l.fn.front.items ∷ []) (names l.all.items ∷ []) l.at l.here

abbrev pub decreases-all : goal.decreases-all
decreases-all l = length (drop l.here l.tokens)
