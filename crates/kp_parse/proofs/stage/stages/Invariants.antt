use Rattle.std.proofs.Common.{◌-◌, [], ◌∷◌, length, drop}
use Rattle.kp_grammar.specs.Grammar.{Nonterminal}
use Rattle.kp_parse_grammar.specs.{Language.STAGES, Language.blocks, Reading.TurnsYet}
use Rattle.kp_parse.proofs.stage.stages.Given as goal

abbrev pub invariant-all : goal.invariant-all
invariant-all l = TurnsYet l.tokens (Nonterminal STAGES) (blocks (l.fn.first ∷ []) ∷ []) (blocks l.all.items ∷ []) l.at l.here (length l.all.items - 1)

abbrev pub decreases-all : goal.decreases-all
decreases-all l = length (drop l.here l.tokens)
