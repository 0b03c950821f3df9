use Rattle.std.proofs.Common.{[], ◌∷◌, length, drop}
use Rattle.kp_grammar.specs.Grammar.{Nonterminal}
use Rattle.kp_parse_grammar.specs.{Language.STMTS, Language.stmts, Reading.TurnsYet}
use Rattle.kp_parse.proofs.stage.statements.Given as goal

abbrev pub invariant-all : goal.invariant-all
invariant-all l = TurnsYet l.tokens (Nonterminal STMTS) (stmts [] ∷ []) (stmts l.all.items ∷ []) l.at l.here 0

abbrev pub decreases-all : goal.decreases-all
decreases-all l = length (drop l.here l.tokens)
