use Rattle.std.proofs.Common.{[], ◌∷◌, length, drop}
use Rattle.kp_grammar.specs.Grammar.{Nonterminal}
use Rattle.kp_vlog.specs.Language.{ITEMS, items}
use Rattle.kp_vread_parse.specs.inner.Reading.{TurnsYet}
use Rattle.kp_vread_parse.proofs.items.items.Given as goal

abbrev pub invariant-all : goal.invariant-all
invariant-all l = TurnsYet l.tokens (Nonterminal ITEMS ∷ []) (Nonterminal ITEMS ∷ []) (items [] ∷ []) (items l.all.items ∷ []) l.at l.here

abbrev pub decreases-all : goal.decreases-all
decreases-all l = length (drop l.here l.tokens)
