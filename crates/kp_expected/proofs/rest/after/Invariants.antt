use Rattle.std.proofs.Common.{[], ◌∷◌, drop}
use Rattle.kp_grammar.specs.Grammar.{Nonterminal}
use Rattle.kp_expected.specs.{Plain.stack, inner.Steps.Goes}
use Rattle.kp_expected.proofs.rest.after.Given as goal

abbrev pub invariant-loop-class : goal.invariant-loop-class
invariant-loop-class g l =
    Goes g.C.Class.number g.P.Part.rules g.P.Part.tables (Nonterminal (g.P.Part.name l.fn.start) ∷ []) l.front (stack g.C.Class.number g.P.Part.name l.rest.symbols.items) (drop l.class-index l.front)
